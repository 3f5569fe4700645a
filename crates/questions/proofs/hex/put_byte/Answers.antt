-- `put_byte`: `Part`, with one byte to come.
-- Assumes nothing.
use mathlib.Core.Path.{refl}
use native.Mathlib.Omega.{arith}
use Rattle.lists.proofs.WriteLaws.{part-from, part-put, part_end}
use Rattle.questions.proofs.hex.put_byte.Goals as goal

pub returns : goal.returns
returns c = part_end refl (part-put refl (part-from _ _ _ (omega arith)))
