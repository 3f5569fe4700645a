-- `sort_order::Cut::part_after` meets its contract: what is left of the two parts stands as the whole do.
-- Assumes nothing.
use mathlib.Core.Path.{◌≡◌}
use Prim.Native.Nat.{◌+◌}
use Rattle.sort_spread.specs.Sort.{part_later}
use Rattle.sort_order.proofs.Cut.part_after.Given as goal

abbrev pub invariant-loop-i : goal.invariant-loop-i
invariant-loop-i l = part_later l.cut.mark l.cut.times l.text (l.a + l.i) (l.b + l.i) ≡ part_later l.fn.self.mark l.fn.self.times l.text l.a l.b
