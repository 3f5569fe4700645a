-- `hit_c`: case by case.
-- Assumes nothing.
use mathlib.Core.Path.{◌≡◌, refl, sym, ap, ◌∙◌}
use mathlib.Core.Bool.{Bool, true, not}
use mathlib.Core.List.{List}
use Prim.Native.Nat.{ℕ, ◌+◌, ◌≤◌}
use native.Mathlib.Omega.{arith}
use lib.Dec.{lit<}
use lib.ListN.{length, drop}
use Rattle.rules.specs.Bytes.{text, newline, line_len, starts}
use Rattle.rules.specs.Passes.{hit_c}
use Rattle.slices.proofs.LeafLaws.{word-within, run-within}
use Rattle.preproc_copyright.proofs.HitCaseLaws.{items-within, C-other, C-bare, C-there, C-none}
use Rattle.preproc_copyright.proofs.hit_c.Goals as goal
use Rattle.preproc_copyright.proofs.hit_c.Goals.{In_ok-n, Then-starts_with, else-fresh-via-then-fresh+else-starts_with, else-fresh-via-else-fresh}

-- at a line's start, with the word
module _ (c : Then-starts_with) where
  abbrev S : List ℕ
  S = c.args.s.now

  starting : hit_c c.args.fresh (drop c.args.at S) ≡ hit_c true (drop c.args.at S)
  starting = ap (λ (b : Bool). hit_c b (drop c.args.at S)) c.if-fresh.true

  word : starts (text "copyright") (drop c.args.at S) ≡ true
  unfolding text
  word = sym c.starts_with.ensures ∙ c.if-starts_with.true

  room : c.args.at + 9 ≤ length S
  unfolding text
  room = word-within (text "copyright") S c.args.at word (lit< tt)

-- and its items
module _ (c : In_ok-n) where
  ends : c.args.at + 9 + c.in_ok-n.n ≤ length c.args.s.now
  ends = omega (arith, c.in_ok-n.ensures, items-within c.args.s.now (c.args.at + 9) (room (goal.at.In_ok-n c).Then-starts_with))

pub overflow_add-p : goal.overflow_add-p
overflow_add-p c = omega (arith, room (goal.at.overflow_add-p c).Then-starts_with)

pub items_len-requires : goal.items_len-requires
items_len-requires c = (c.requires, room (goal.at.items_len-requires c).Then-starts_with)

pub returns-in_err-n : goal.returns-in_err-n
returns-in_err-n c = let then_starts_with = (goal.at.returns-in_err-n c).Then-starts_with in
    rw c.from_residual.ensures
    (starting then_starts_with ∙ C-bare (S then_starts_with) c.args.at 0 (word then_starts_with) (sym c.in_err-n.ensures) refl)

pub overflow_add-result : goal.overflow_add-result
overflow_add-result c = omega (arith, ends (goal.at.overflow_add-result c).In_ok-n)

pub overflow_add-p-then-starts_with : goal.overflow_add-p-then-starts_with
overflow_add-p-then-starts_with c = omega (arith, ends (goal.at.overflow_add-p-then-starts_with c).In_ok-n)

pub overflow_add-result-then-starts_with : goal.overflow_add-result-then-starts_with
unfolding line_len
overflow_add-result-then-starts_with c = let n = (goal.at.overflow_add-result-then-starts_with c).In_ok-n in
    omega (
      arith,
      c.line_len.ensures,
      ends n,
      run-within (λ x. not (newline x)) c.args.s.now (c.args.at + 9 + c.in_ok-n.n) (ends n),
    )

pub returns-then-starts_with : goal.returns-then-starts_with
returns-then-starts_with c = let then_starts_with = (goal.at.returns-then-starts_with c).Then-starts_with in (
  sym (starting then_starts_with ∙
      C-there (S then_starts_with) c.args.at _ (word then_starts_with) c.in_ok-n.ensures.0 _ (λ z. omega (arith, z, c.in_ok-n.ensures)) c.line_len.ensures),
  omega arith,
)

pub returns : goal.returns
unfolding text
returns c = let s = drop c.args.at c.args.s.now in
    elim c.else-fresh.branch [
      | else-fresh-via-then-fresh+else-starts_with w ↦
          ap (λ (b : Bool). hit_c b s) w.if-fresh.true ∙ C-other c.args.s.now c.args.at (sym w.starts_with.ensures ∙ w.if-starts_with.false)
      | else-fresh-via-else-fresh w ↦ ap (λ (b : Bool). hit_c b s) w.if-fresh.false ∙ C-none s
    ]
