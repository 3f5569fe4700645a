-- `items_len`: what is left from i on takes the rest of what the whole takes.
-- Assumes nothing.
use Prim.Native.Nat.{◌-◌}
use lib.ListN.{length}
use Rattle.preproc_copyright.proofs.HitCaseLaws.{ItemWalk}
use Rattle.preproc_copyright.proofs.items_len.Given as goal

abbrev pub invariant-loop-n : goal.invariant-loop-n
invariant-loop-n l = ItemWalk l.s l.at l.i

abbrev pub decreases-loop-n : goal.decreases-loop-n
decreases-loop-n l = length l.s - l.i
