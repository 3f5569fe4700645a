-- `copy::copy_up` meets its contract: its loop is `Moved`.
-- Assumes nothing.
use Rattle.slices.proofs.PasteLaws.{Moved}
use Rattle.slices.proofs.copy.copy_up.Given as goal

abbrev pub invariant-loop-i : goal.invariant-loop-i
invariant-loop-i g l = Moved l.initial.area l.area l.from l.to l.i
