-- `line_ends`: at a byte 10, or where the list ends.
-- Assumes nothing.
use borrow.Author.Tests.{le-leb}
use Rattle.lists.proofs.SliceLaws.{drop-next, drop-done}
use Rattle.expression_place.specs.Line.{ends}
use Rattle.expression_list.proofs.line_ends.Goals as goal

pub returns-then-list-at : goal.returns-then-list-at
unfolding ends
returns-then-list-at c = rw (drop-done c.args.list.now c.args.at c.if-list-at.true) (le-leb _ _ c.if-list-at.true)

pub returns-else-list-at : goal.returns-else-list-at
unfolding ends
returns-else-list-at c = rw (drop-next c.args.list.now c.args.at c.if-list-at.false)
