-- `tell_named`: a book that is not refused is sound, and the name is a part of its 64 bytes.
-- Assumes nothing.
use mathlib.Core.Path.{refl, sym}
use native.Mathlib.Omega.{arith}
use lib.Seq.{length-take-le}
use Rattle.refusals.proofs.AdmitLaws.{check-texts, check_sound}
use Rattle.replay.proofs.named.tell_named.Goals as goal

pub slice_bounds-number_named-end : goal.slice_bounds-number_named-end
slice_bounds-number_named-end c = sym (length-take-le _ _ (omega arith))

pub number_named-k-requires : goal.number_named-k-requires
number_named-k-requires c = (check_sound _ _ c.in-Ok.ensures refl, check-texts _ _ c.in-Ok.ensures refl)
