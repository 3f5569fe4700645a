-- `scan_elimination::each_pass` meets its contract: the loop's invariant is that the passes still to come, paid from what is left, are all
-- passes paid from the budget.
-- Assumes nothing.
use Rattle.detection_shelf.specs.Shelves.{shelf}
use Rattle.scan_elimination.proofs.PassLaws.{Passing}
use Rattle.scan_elimination.proofs.each_pass.Given as goal

abbrev pub invariant-loop-k : goal.invariant-loop-k
invariant-loop-k l = Passing l.note l.scope l.class l.initial.area l.initial.words (shelf l.book l.second) l.initial.results l.p l.initial.left.count l.initial.best l.area l.words l.results l.best l.left.count l.k
