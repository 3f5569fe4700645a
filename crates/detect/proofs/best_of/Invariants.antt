-- `detect::best_of` meets its contract. The loop's invariant: what the texts still to come cost and yield, paid from what is left, is the whole paid from the budget.
-- Assumes nothing.
use Prim.Native.Nat.{◌-◌}
use Rattle.detection_shelf.specs.Shelves.{shelf}
use Rattle.license_views.specs.Tabled.{table_over}
use Rattle.detect.proofs.BestLaws.{Walking}
use Rattle.detect.proofs.best_of.Given as goal

abbrev pub invariant-loop-spot : goal.invariant-loop-spot
invariant-loop-spot l = Walking (shelf l.book l.second) (table_over l.area l.t) l.floor l.initial.left.count l.best l.left.count l.spot

abbrev pub decreases-loop-spot : goal.decreases-loop-spot
decreases-loop-spot l = l.texts.all - l.spot.number
