-- `is_above`: what is left of both rises as the whole does.
-- Assumes nothing.
use mathlib.Core.Path.{◌≡◌}
use lib.ListN.{drop}
use Rattle.rules.specs.Bytes.{rises}
use Rattle.detection_bodies.proofs.is_above.Given as goal

abbrev pub invariant-loop-i : goal.invariant-loop-i
invariant-loop-i l = rises (drop l.i l.a) (drop l.i l.b) ≡ rises l.a l.b
