-- The code's place of one byte string to another, as the definition's order has it.
-- Assumes nothing.
use Prim.Native.Nat.{Ordering}
use Rattle.std.specs.declared.cmp.Ordering as code
use Rattle.std.specs.declared.cmp.Ordering.TheVariants.{Less, Equal, Greater}

abbrev pub side_of : Ordering → code.Ordering
side_of Ordering.lt = Less
side_of Ordering.eq = Equal
side_of Ordering.gt = Greater
