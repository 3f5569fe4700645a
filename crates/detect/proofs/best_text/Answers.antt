-- `detect::best_text` meets its contract: no score is below the literal 0.0, which is the definition's.
-- Assumes nothing.
use mathlib.Core.Path.{refl}
use lib.Ieee.{of_bits, of_fields}
use Rattle.detect.proofs.BestLaws.{best-exact}
use Rattle.detect.proofs.best_text.Goals as goal

pub returns : goal.returns
unfolding of_bits of_fields
returns c = best-exact _ _ _ _ _ _ _ _ _ _ _ refl c.best_above.ensures
