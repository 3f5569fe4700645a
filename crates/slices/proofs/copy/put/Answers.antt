-- `copy::put` meets its contract: all of a list is its first, as many as it has.
-- Assumes nothing.
use mathlib.Core.Path.{◌∙◌}
use lib.Seq.{take-length}
use Rattle.slices.proofs.copy.put.Goals as goal

pub returns : goal.returns
returns c = (c.copy_to.ensures.0, c.copy_to.ensures.1 ∙ rw (c.copy_to.ensures.0, take-length c.args.p.now))
