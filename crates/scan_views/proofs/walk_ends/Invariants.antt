-- `scan_views::walk_ends` meets its contract: the loop's invariant is that the ends still to come, paid from what is left, are all ends paid
-- from the budget.
-- Assumes nothing.
use Prim.Native.Nat.{◌-◌}
use Rattle.detection_shelf.specs.Shelves.{shelf}
use Rattle.scan_views.proofs.RoundLaws.{Ending}
use Rattle.scan_views.proofs.walk_ends.Given as goal

abbrev pub invariant-loop-end : goal.invariant-loop-end
invariant-loop-end l = Ending l.scope l.class l.initial.area l.initial.words (shelf l.book l.second) l.start l.step l.initial.latest l.initial.left.count l.area l.words l.latest l.left l.end

abbrev pub decreases-loop-end : goal.decreases-loop-end
decreases-loop-end l = l.past - l.end
