-- `scan_top_down::top_down` meets its contract: the loop's invariant is that the rounds still to come, paid from what is left, are all rounds
-- paid from the budget.
-- Assumes nothing.
use Prim.Native.Nat.{◌+◌, ◌-◌}
use Rattle.detection_shelf.specs.Shelves.{shelf}
use Rattle.scan_top_down.proofs.DownRunLaws.{Downing}
use Rattle.scan_top_down.proofs.top_down.Given as goal

abbrev pub invariant-loop-c : goal.invariant-loop-c
invariant-loop-c l = Downing l.note l.scope l.class l.initial.area l.initial.words (shelf l.book l.second) l.initial.results l.step l.initial.left.count l.area l.words l.results l.left.count l.c l.at l.k

abbrev pub decreases-loop-c : goal.decreases-loop-c
decreases-loop-c l = l.lines + 1 - l.c
