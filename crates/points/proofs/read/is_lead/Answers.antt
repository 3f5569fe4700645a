-- `is_lead` meets its contract.
-- Assumes nothing.
use borrow.Author.Tests.{le-leb, lt-leb}
use Rattle.rules.specs.Bytes.{within}
use Rattle.rules.specs.Points.{opens}
use Rattle.points.proofs.read.is_lead.Goals as goal

pub returns-then-x-ge194 : goal.returns-then-x-ge194
unfolding opens within
returns-then-x-ge194 c = rw (le-leb _ _ c.if-x-ge194.true)

pub returns-else-x-ge194 : goal.returns-else-x-ge194
unfolding opens within
returns-else-x-ge194 c = rw (lt-leb _ _ c.if-x-ge194.false)
