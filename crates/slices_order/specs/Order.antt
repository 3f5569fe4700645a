-- The order of two byte strings as the language's own.
-- Assumes nothing.
use Prim.Native.Nat.{Ordering as Told}
use Rattle.std.specs.declared.cmp.Ordering.{Ordering}
use Rattle.std.specs.declared.cmp.Ordering.TheVariants.{Less, Equal, Greater}

unfoldable pub ordering_of : Told → Ordering
ordering_of Told.lt = Less
ordering_of Told.eq = Equal
ordering_of Told.gt = Greater
