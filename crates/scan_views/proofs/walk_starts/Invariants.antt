-- `scan_views::walk_starts` meets its contract: the loop's invariant is that the starts still to come, paid from what is left, are all starts
-- paid from the budget.
-- Assumes nothing.
use Prim.Native.Nat.{◌-◌}
use Rattle.detection_shelf.specs.Shelves.{shelf}
use Rattle.scan_views.proofs.RoundLaws.{Starting}
use Rattle.scan_views.proofs.walk_starts.Given as goal

abbrev pub invariant-loop-start : goal.invariant-loop-start
invariant-loop-start l = Starting l.scope l.class l.initial.area l.initial.words (shelf l.book l.second) l.initial.start l.step l.initial.left.count l.area l.words l.latest l.left l.start

abbrev pub decreases-loop-start : goal.decreases-loop-start
decreases-loop-start l = l.lines - l.start
