-- `tell_text`: a book that is not refused is sound, and the number was held against its texts.
-- Assumes nothing.
use mathlib.Core.Path.{refl}
use native.Mathlib.Omega.{arith}
use Rattle.refusals.proofs.AdmitLaws.{check-texts, check_sound}
use Rattle.bench.proofs.tell_text.Goals as goal

pub stored_at-text-requires : goal.stored_at-text-requires
stored_at-text-requires c = (check_sound _ _ c.in-Ok.ensures refl, omega (arith, check-texts _ _ c.in-Ok.ensures refl))
