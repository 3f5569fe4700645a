-- `spaced_len`: case by case.
-- Assumes nothing.
use mathlib.Core.Path.{◌≡◌, refl, sym, ◌∙◌}
use Prim.Native.Nat.{◌+◌, ◌≤◌}
use native.Mathlib.Omega.{arith}
use lib.ListN.{length, drop}
use Rattle.rules.specs.Bytes.{space, lead}
use Rattle.slices.proofs.LeafLaws.{spaces_of, run-within}
use Rattle.preproc_copyright.proofs.HitCaseLaws.{item-within, spaced-none, spaced-bare, spaced-there}
use Rattle.preproc_copyright.proofs.spaced_len.Goals as goal
use Rattle.preproc_copyright.proofs.spaced_len.Goals.{In_ok-k}

module _ (c : In_ok-k) where
  count : c.in_ok-k.k ≡ lead space (drop c.args.at c.args.s.now)
  count = c.in_ok-k.ensures.0 ∙ c.run_len.ensures ∙ spaces_of _ _ c.requires.0

  ends : c.args.at + c.in_ok-k.k ≤ length c.args.s.now
  ends = omega (arith, count, run-within space c.args.s.now c.args.at c.requires.1)

pub returns-in_err-k : goal.returns-in_err-k
returns-in_err-k c =
    rw c.from_residual.ensures
    (spaced-none c.args.s.now c.args.at c.run_len.result (c.run_len.ensures ∙ spaces_of _ _ c.requires.0) c.in_err-k.ensures)

pub overflow_add-at : goal.overflow_add-at
overflow_add-at c = omega (arith, ends (goal.at.overflow_add-at c).In_ok-k)

pub returns-in_err-d : goal.returns-in_err-d
returns-in_err-d c = let k = (goal.at.returns-in_err-d c).In_ok-k in
    rw c.from_residual-in_err-d.ensures
    (spaced-bare c.args.s.now c.args.at _ (count k) 0 (λ z. omega (arith, z, c.in_ok-k.ensures)) (sym c.in_err-d.ensures) refl)

pub overflow_add-result : goal.overflow_add-result
overflow_add-result c = let k = (goal.at.overflow_add-result c).In_ok-k in
    omega (arith, ends k, c.in_ok-d.ensures, item-within c.args.s.now (c.args.at + c.in_ok-k.k) (ends k))

pub returns : goal.returns
returns c = let k = (goal.at.returns c).In_ok-k in (
  sym (spaced-there c.args.s.now c.args.at _ (count k) _ (λ z. omega (arith, z, c.in_ok-k.ensures)) c.in_ok-d.ensures.0 (λ z. omega (arith, z, c.in_ok-d.ensures))),
  omega (arith, c.in_ok-k.ensures),
)
