-- `copy::copy_to` meets its contract: its loop is `Copying`.
-- Assumes nothing.
use Rattle.lists.proofs.CopyLaws.{Copying}
use Rattle.slices.proofs.copy.copy_to.Given as goal

abbrev pub invariant-loop-i : goal.invariant-loop-i
invariant-loop-i l = Copying l.src l.initial.dst l.dst l.from l.k l.to l.i
