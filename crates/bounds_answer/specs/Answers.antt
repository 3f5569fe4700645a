-- The answer of the job `bounds`, case by case of what the search found; and what fits its numbers.
-- Assumes nothing.
use Rattle.std.specs.Prelude.{ℕ, ◌-◌, ◌≤◌, Option, None, Some}
use Rattle.rules.specs.declared.Bounded.{Bounded}
use Rattle.rules.specs.declared.Bounds.{Bounds}
use Rattle.rules.specs.Sizes.{lines_most}
use Rattle.rules.specs.Jobs.{bounded_as, no_bounds}
use Rattle.license_charge.specs.declared.Charged.{Charged}

-- nothing, by the number 0, where the budget was out
unfoldable pub answer_for : Option (Charged Bounds) → ℕ → Bounded
answer_for None budget = bounded_as 0 no_bounds 0
answer_for (Some x) budget = bounded_as 0 x.value (budget - x.left.count)

unfoldable pub FitsAnswer : Option (Charged Bounds) → ℕ → Type 0
FitsAnswer None budget = Unit {0}
FitsAnswer (Some x) budget = (x.value.first ≤ lines_most) × (x.value.after ≤ lines_most) × (x.left.count ≤ budget)
