-- `license_bounds::search_bound` meets its contract. The loop's invariant: what is left of the search, paid from what is left of the budget, is the whole, paid from the whole.
-- Assumes nothing.
use mathlib.Core.Path.{◌≡◌}
use Prim.Native.Nat.{◌-◌, ◌≤◌}
use Rattle.rules.specs.Search.{Made, Stored, sweep}
use Rattle.rules.specs.Search as rules
use Rattle.license_charge.specs.Pay.{pay}
use Rattle.preproc_table.specs.Entries.{lines_at}
use Rattle.license_bounds.specs.Ready.{Kept, OfBody, score_at}
use Rattle.license_bounds.proofs.search_bound.Given as goal

abbrev pub invariant-loop-r : goal.invariant-loop-r
invariant-loop-r l = Kept l.task.n l.task.lines l.class l.initial.area l.initial.words l.area l.words l.body × (l.from ≤ l.l) × (l.l ≤ l.r) × (l.r ≤ l.to)
    × OfBody l.body
    (λ s. pay (rules.search (score_at (lines_at l.initial.area l.initial.words l.task.lines) s l.task.moving) l.l l.r) l.left.count ≡
    pay (rules.search (score_at (lines_at l.initial.area l.initial.words l.task.lines) s l.task.moving) l.from l.to) l.initial.left.count)

abbrev pub decreases-loop-r : goal.decreases-loop-r
decreases-loop-r l = l.r - l.l
