-- `utf8_len`: below 128 each is one byte; otherwise what is counted, and what is left, are the whole.
-- Assumes nothing.
use mathlib.Core.Path.{◌≡◌}
use Prim.Native.Nat.{◌+◌}
use lib.ListN.{length, drop}
use Rattle.rules.specs.Points.{encoded}
use Rattle.points.proofs.encode.utf8_len.Given as goal

abbrev pub invariant-loop-b : goal.invariant-loop-b
invariant-loop-b l = l.n + length (encoded (drop l.b-index l.s)) ≡ length (encoded l.s)
