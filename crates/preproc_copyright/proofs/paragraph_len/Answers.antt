-- `paragraph_len`: case by case.
-- Assumes nothing.
use mathlib.Core.Path.{◌≡◌, sym, ◌∙◌}
use mathlib.Core.Bool.{true, not}
use mathlib.Core.List.{List}
use Prim.Native.Nat.{ℕ, ◌+◌, ◌≤◌}
use native.Mathlib.Omega.{arith}
use lib.Dec.{lit<, eqb}
use lib.ListN.{length, drop}
use Rattle.rules.specs.Bytes.{text, newline, line_len, starts}
use Rattle.slices.proofs.LeafLaws.{word-within, run-within}
use Rattle.preproc_copyright.proofs.HitCaseLaws.{paragraph-other, paragraph_open, paragraph-there}
use Rattle.preproc_copyright.proofs.paragraph_len.Goals as goal
use Rattle.preproc_copyright.proofs.paragraph_len.Goals.{After-line_len-n, Start, Then-starts_with, Then-starts_with-2}

module _ (c : Start) where
  abbrev S : List ℕ
  S = c.args.s.now

  abbrev place : ℕ
  place = c.args.at

-- `copyright` begins the line
module _ (c : Then-starts_with) where
  abbrev start_of_c : Start
  start_of_c = (goal.at.Then-starts_with c).Start

  word : starts (text "copyright") (drop ((place start_of_c) + c.args.k + c.byte_run-blank.result) (S start_of_c)) ≡ true
  unfolding text
  word = sym c.starts_with.ensures ∙ c.if-starts_with.true

-- the line's end
module _ (c : After-line_len-n) where
  abbrev start_of_c' : Start
  start_of_c' = (goal.at.After-line_len-n c).Start

  ends : (place start_of_c') + c.args.k + c.line_len-n.result ≤ length (S start_of_c')
  unfolding line_len
  ends = omega (arith, c.line_len-n.ensures, run-within (λ x. not (newline x)) (S start_of_c') ((place start_of_c') + c.args.k) c.requires)

module _ (c : Then-starts_with-2) where
  abbrev start_of_c'' : Start
  start_of_c'' = (goal.at.Then-starts_with-2 c).Start

  two : starts (text "\n\n") (drop ((place start_of_c'') + c.args.k + c.line_len-n.result) (S start_of_c'')) ≡ true
  unfolding text
  two = sym c.starts_with-then-starts_with.ensures ∙ c.if-starts_with-2.true

  room : (place start_of_c'') + c.args.k + c.line_len-n.result + 2 ≤ length (S start_of_c'')
  unfolding text
  room = word-within (text "\n\n") (S start_of_c'') ((place start_of_c'') + c.args.k + c.line_len-n.result) two (lit< tt)

pub overflow_add-l-2 : goal.overflow_add-l-2
overflow_add-l-2 c = let start = (goal.at.overflow_add-l-2 c).Start in
    omega (arith, c.byte_run-blank.ensures, run-within (eqb 32) (S start) (place start + c.args.k) c.requires)

pub overflow_add-l-then-starts_with : goal.overflow_add-l-then-starts_with
overflow_add-l-then-starts_with c = omega (arith, ends (goal.at.overflow_add-l-then-starts_with c).After-line_len-n)

pub overflow_add-result : goal.overflow_add-result
overflow_add-result c = omega (arith, room (goal.at.overflow_add-result c).Then-starts_with-2)

pub overflow_add-result-then-starts_with-2 : goal.overflow_add-result-then-starts_with-2
overflow_add-result-then-starts_with-2 c = omega (arith, room (goal.at.overflow_add-result-then-starts_with-2 c).Then-starts_with-2)

pub returns-then-starts_with-2 : goal.returns-then-starts_with-2
returns-then-starts_with-2 c = let b = c.byte_run-blank.ensures in
    (sym (paragraph-there _ _ _ _ _ b c.line_len-n.ensures (word (goal.at.returns-then-starts_with-2 c).Then-starts_with) (two (goal.at.returns-then-starts_with-2 c).Then-starts_with-2)), omega arith)

pub returns-else-starts_with-2 : goal.returns-else-starts_with-2
unfolding text
returns-else-starts_with-2 c = let b = c.byte_run-blank.ensures in
    paragraph_open _ _ _ _ _ b c.line_len-n.ensures (word (goal.at.returns-else-starts_with-2 c).Then-starts_with) (sym c.starts_with-then-starts_with.ensures ∙ c.if-starts_with-2.false)

pub returns-else-starts_with : goal.returns-else-starts_with
unfolding text
returns-else-starts_with c = paragraph-other _ _ _ _ 0 c.byte_run-blank.ensures (sym c.starts_with.ensures ∙ c.if-starts_with.false)
