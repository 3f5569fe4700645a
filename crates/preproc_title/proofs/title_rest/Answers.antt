-- `title_rest`: case by case.
-- Assumes nothing.
use mathlib.Core.Path.{◌≡◌, sym, ap, ◌∙◌}
use mathlib.Core.Bool.{true, false}
use mathlib.Core.List.{List}
use Prim.Native.Nat.{ℕ, ◌+◌, ◌≤◌}
use native.Mathlib.Omega.{arith}
use lib.Dec.{lit<}
use lib.ListN.{length, drop}
use lib.Seq.{drop-drop}
use borrow.Author.Tests.{le-ltb}
use Rattle.rules.specs.Bytes.{text, lead, starts}
use Rattle.rules.specs.Passes.{title_end}
use Rattle.slices.proofs.LeafLaws.{dark, others-of, word-within, run-within}
use Rattle.preproc_title.proofs.TitleLaws.{rest_end, rest-other, rest_unnamed, rest-named}
use Rattle.preproc_title.proofs.title_rest.Goals as goal
use Rattle.preproc_title.proofs.title_rest.Goals.{After-other_len-named, Else-title_end, Then-starts_with}

-- the line goes on
module _ (c : Else-title_end) where
  abbrev S : List ℕ
  S = c.args.s.now

  abbrev place : ℕ
  place = c.args.at

  goes_on : title_end (drop place S) ≡ false
  goes_on = sym c.title_end.ensures ∙ c.if-title_end.false

-- with ` version `
module _ (c : Then-starts_with) where
  abbrev else_title_end_of_c : Else-title_end
  else_title_end_of_c = (goal.at.Then-starts_with c).Else-title_end

  version : starts (text " version ") (drop (place else_title_end_of_c) (S else_title_end_of_c)) ≡ true
  unfolding text
  version = sym c.starts_with.ensures ∙ c.if-starts_with.true

  room : (place else_title_end_of_c) + 9 ≤ length (S else_title_end_of_c)
  unfolding text
  room = word-within (text " version ") (S else_title_end_of_c) (place else_title_end_of_c) version (lit< tt)

module _ (c : After-other_len-named) where
  abbrev else_title_end_of_c' : Else-title_end
  else_title_end_of_c' = (goal.at.After-other_len-named c).Else-title_end

  count : c.other_len-named.result ≡ lead dark (drop ((place else_title_end_of_c') + 9) (S else_title_end_of_c'))
  count = c.other_len-named.ensures ∙ others-of _ _ c.requires

  names : c.other_len-named.result ≡ lead dark (drop 9 (drop (place else_title_end_of_c') (S else_title_end_of_c')))
  names = count ∙ ap (lead dark) (sym (drop-drop 9 (place else_title_end_of_c') (S else_title_end_of_c')))

pub returns-then-title_end : goal.returns-then-title_end
returns-then-title_end c = sym (rest_end _ (sym c.title_end.ensures ∙ c.if-title_end.true))

pub overflow_add-v : goal.overflow_add-v
overflow_add-v c = omega (arith, room (goal.at.overflow_add-v c).Then-starts_with)

pub returns-else-named-gt0 : goal.returns-else-named-gt0
returns-else-named-gt0 c = let n = names (goal.at.returns-else-named-gt0 c).After-other_len-named in
    le-ltb _ _ c.if-named-gt0.false
    ∙ sym (rest_unnamed _ (goes_on (goal.at.returns-else-named-gt0 c).Else-title_end) (version (goal.at.returns-else-named-gt0 c).Then-starts_with) (omega (arith, n, c.if-named-gt0.false)))

pub overflow_add-v-then-named-gt0 : goal.overflow_add-v-then-named-gt0
overflow_add-v-then-named-gt0 c = let then_starts_with = (goal.at.overflow_add-v-then-named-gt0 c).Then-starts_with in
    let else_title_end = (goal.at.overflow_add-v-then-named-gt0 c).Else-title_end in
    omega (arith, room then_starts_with, count (goal.at.overflow_add-v-then-named-gt0 c).After-other_len-named, run-within dark (S else_title_end) (place else_title_end + 9) (room then_starts_with))

pub returns-then-named-gt0 : goal.returns-then-named-gt0
returns-then-named-gt0 c = let else_title_end = (goal.at.returns-then-named-gt0 c).Else-title_end in
    let other_len = (goal.at.returns-then-named-gt0 c).After-other_len-named in
    let a = place else_title_end in
    let d : drop (lead dark (drop 9 (drop a (S else_title_end)))) (drop 9 (drop a (S else_title_end))) ≡ drop (a + 9 + c.other_len-named.result) (S else_title_end) =
    rw (← names other_len, drop-drop 9 a (S else_title_end), drop-drop) in
    c.title_end-then-named-gt0.ensures ∙ sym (rest-named _ (goes_on else_title_end) (version (goal.at.returns-then-named-gt0 c).Then-starts_with) (λ z. omega (arith, names other_len, z, c.if-named-gt0.true)) ∙ ap title_end d)

pub returns : goal.returns
unfolding text
returns c = sym (rest-other _ (goes_on (goal.at.returns c).Else-title_end) (sym c.starts_with.ensures ∙ c.if-starts_with.false))
