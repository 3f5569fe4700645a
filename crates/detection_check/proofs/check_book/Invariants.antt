-- `detection_check::check_book` meets its contract: the loop's invariant is `CheckWalk`: the verdict on what is still to come is the book's.
-- Assumes nothing.
use Rattle.detection_check.proofs.CheckLaws.{CheckWalk}
use lib.ListN.{length}
use Prim.Native.Nat.{◌-◌}
use Rattle.detection_check.proofs.check_book.Given as goal

abbrev pub invariant-loop-next : goal.invariant-loop-next
invariant-loop-next l = CheckWalk l.book l.walk

abbrev pub decreases-loop-next : goal.decreases-loop-next
decreases-loop-next l = length l.book - l.walk.at
