-- `starts_with`: what is left of both decides as the whole does.
-- Assumes nothing.
use mathlib.Core.Path.{◌≡◌}
use lib.ListN.{drop}
use Rattle.rules.specs.Bytes.{starts}
use Rattle.slices_order.proofs.starts_with.Given as goal

abbrev pub invariant-loop-i : goal.invariant-loop-i
invariant-loop-i l = starts (drop l.i l.w) (drop l.i l.left) ≡ starts l.w (drop l.at l.s)
