-- `common_len`: i, and what is left of both has in common, is the whole.
-- Assumes nothing.
use mathlib.Core.Path.{◌≡◌}
use Prim.Native.Nat.{◌+◌}
use lib.ListN.{length, drop}
use Rattle.rules.specs.Prefix.{common}
use Rattle.slices_order.proofs.common_len.Given as goal

abbrev pub invariant-loop-i : goal.invariant-loop-i
invariant-loop-i l = l.i + length (common (drop l.i l.a) (drop l.i l.b)) ≡ length (common l.a l.b)
