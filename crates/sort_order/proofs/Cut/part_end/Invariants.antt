-- `sort_order::Cut::part_end` meets its contract: what is left of the part, counted from i, ends where the whole does.
-- Assumes nothing.
use mathlib.Core.Path.{◌≡◌}
use Prim.Native.Nat.{◌+◌}
use lib.ListN.{length, drop}
use Rattle.sort_spread.specs.Sort.{part_of}
use Rattle.sort_order.proofs.Cut.part_end.Given as goal

abbrev pub invariant-loop-i : goal.invariant-loop-i
invariant-loop-i l = l.i + length (part_of l.cut.mark l.cut.times (drop l.i l.text)) ≡ l.a + length (part_of l.fn.self.mark l.fn.self.times (drop l.a l.text))
