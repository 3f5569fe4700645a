-- `floors::Floor::lowest` meets its contract: the literal 0.0 is the definition's.
-- Assumes nothing.
use mathlib.Core.Path.{refl}
use lib.Ieee.{of_bits, of_fields}
use Rattle.floors.proofs.Floor.lowest.Goals as goal

pub returns : goal.returns
unfolding of_bits of_fields
returns c = refl
