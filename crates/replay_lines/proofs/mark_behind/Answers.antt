-- `mark_behind`: the test of its contract.
-- Assumes nothing.
use borrow.Author.Tests.{lt-ltb, le-ltb}
use Rattle.replay_lines.proofs.mark_behind.Goals as goal

pub returns-then-i-count : goal.returns-then-i-count
returns-then-i-count c = rw (lt-ltb _ _ c.if-i-count.true)

pub returns-else-i-count : goal.returns-else-i-count
returns-else-i-count c = rw (le-ltb _ _ c.if-i-count.false)
