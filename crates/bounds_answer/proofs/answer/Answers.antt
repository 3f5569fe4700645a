-- `bounds_answer::answer` meets its contract: case by case.
-- Assumes nothing.
use mathlib.Core.Path.{◌≡◌, sym, ap, subst}
use Prim.Native.Nat.{ℕ, ◌≤◌}
use native.Mathlib.Omega.{arith}
use lib.Ieee.{of_bits, of_fields}
use Rattle.std.proofs.Common.{Option, Some}
use Rattle.rules.specs.declared.Bounds.{Bounds}
use Rattle.rules.specs.Sizes.{lines_most}
use Rattle.license_charge.specs.declared.Charged.{Charged}
use Rattle.bounds_answer.specs.Answers.{answer_for, FitsAnswer}
use Rattle.bounds_answer.proofs.answer.Goals as goal

-- what is found fits
fits : (x : Option (Charged Bounds)) (budget : ℕ) (y : Charged Bounds) → FitsAnswer x budget → x ≡ Some y → (y.value.first ≤ lines_most) × (y.value.after ≤ lines_most) × (y.left.count ≤ budget)
unfolding FitsAnswer
fits x budget y h e = subst (λ (z : Option (Charged Bounds)). FitsAnswer z budget) e h

pub overflow_cast-result : goal.overflow_cast-result
overflow_cast-result c = let f = fits _ _ _ c.requires c.in-Some.is in
    omega (arith, f.0, f.1)

pub overflow_cast-result-2 : goal.overflow_cast-result-2
overflow_cast-result-2 c = let f = fits _ _ _ c.requires c.in-Some.is in
    omega (arith, f.0, f.1)

pub overflow_sub-result : goal.overflow_sub-result
overflow_sub-result c = let f = fits _ _ _ c.requires c.in-Some.is in
    omega (arith, f.2, c.count.ensures)

pub returns-in_default : goal.returns-in_default
unfolding answer_for of_bits of_fields
returns-in_default c = sym (ap (λ (x : Option (Charged Bounds)). answer_for x c.args.budget) c.in_default.is)

pub returns : goal.returns
unfolding answer_for
returns c = rw c.count.ensures (sym (ap (λ (x : Option (Charged Bounds)). answer_for x c.args.budget) c.in-Some.is))
