-- `license_bounds::sweep_from` meets its contract. The loop's invariant: what is left of the sweep, paid from what is left of the budget, is the whole, paid from the whole.
-- Assumes nothing.
use mathlib.Core.Path.{◌≡◌}
use Prim.Native.Nat.{◌+◌, ◌-◌, ◌≤◌}
use Rattle.rules.specs.Search.{sweep_from}
use Rattle.license_charge.specs.Pay.{pay}
use Rattle.preproc_table.specs.Entries.{lines_at}
use Rattle.license_bounds.specs.Ready.{Kept, OfBody, score_at}
use Rattle.license_bounds.proofs.sweep_from.Given as goal

abbrev pub invariant-loop-i : goal.invariant-loop-i
invariant-loop-i l = Kept l.task.n l.task.lines l.class l.initial.area l.initial.words l.area l.words l.body × (l.from ≤ l.i) × (l.i ≤ l.to + 1)
    × OfBody l.body
    (λ s. pay (sweep_from (score_at (lines_at l.initial.area l.initial.words l.task.lines) s l.task.moving) (l.to + 1 - l.i) l.i l.best) l.left.count ≡
    pay (sweep_from (score_at (lines_at l.initial.area l.initial.words l.task.lines) s l.task.moving) (l.to + 1 - l.from) l.from l.initial.best) l.initial.left.count)

abbrev pub decreases-loop-i : goal.decreases-loop-i
decreases-loop-i l = l.to + 1 - l.i
