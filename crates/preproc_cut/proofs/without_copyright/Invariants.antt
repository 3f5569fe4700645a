-- `without_copyright`: the walk of CutLaws.
-- Assumes nothing.
use Prim.Native.Nat.{◌-◌}
use lib.ListN.{length}
use Rattle.preproc_cut.proofs.CutLaws.{Cutting}
use Rattle.preproc_cut.proofs.without_copyright.Given as goal

abbrev pub invariant-loop-i : goal.invariant-loop-i
invariant-loop-i l = Cutting l.initial.buf l.buf l.i l.w l.fresh

abbrev pub decreases-loop-i : goal.decreases-loop-i
decreases-loop-i l = length l.buf - l.i
