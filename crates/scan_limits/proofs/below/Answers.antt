-- `scan_limits::below` meets its contract.
-- Assumes nothing.
use mathlib.Core.Path.{refl}
use Rattle.rules.specs.Scan.{below}
use Rattle.scan_limits.proofs.below.Goals as goal

pub returns : goal.returns
unfolding below
returns c = refl
