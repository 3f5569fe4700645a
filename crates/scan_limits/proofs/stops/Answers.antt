-- `scan_limits::stops` meets its contract: what is named is strictly above the threshold.
-- Assumes nothing.
use mathlib.Core.Path.{sym, ◌∙◌}
use Rattle.scan_limits.proofs.stops.Goals as goal

pub returns-then-names : goal.returns-then-names
returns-then-names c = rw (sym c.names.ensures ∙ c.if-names.true)

pub returns : goal.returns
returns c = rw (sym c.names.ensures ∙ c.if-names.false)
