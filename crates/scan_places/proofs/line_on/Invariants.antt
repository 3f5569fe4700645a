-- `scan_places::line_on` meets its contract: the walk, byte by byte.
-- Assumes nothing.
use Rattle.scan_places.proofs.WalkLaws.{Walk}
use Rattle.scan_places.proofs.line_on.Given as goal

abbrev pub invariant-loop-place : goal.invariant-loop-place
invariant-loop-place l = Walk l.text l.at l.k l.place l.left
