-- `is_second` meets its contract.
-- Assumes nothing.
use borrow.Author.Tests.{le-leb, lt-leb}
use Rattle.rules.specs.Bytes.{within}
use Rattle.points.proofs.read.is_second.Goals as goal

pub returns-then-x-ge128 : goal.returns-then-x-ge128
unfolding within
returns-then-x-ge128 c = rw (le-leb _ _ c.if-x-ge128.true)

pub returns-else-x-ge128 : goal.returns-else-x-ge128
unfolding within
returns-else-x-ge128 c = rw (lt-leb _ _ c.if-x-ge128.false)
