-- `sort_order::Cut::past` meets its contract.
-- Assumes nothing.
use borrow.Author.Tests.{eq-eqb, ne_eqb}
use Rattle.sort_spread.specs.Sort.{marks_left}
use Rattle.sort_order.proofs.Cut.past.Goals as goal

pub returns-then-x-self : goal.returns-then-x-self
unfolding marks_left
returns-then-x-self c = rw (eq-eqb _ _ c.if-x-self.true, c.saturating_sub.ensures)

pub returns : goal.returns
unfolding marks_left
returns c = rw (ne_eqb _ _ c.if-x-self.false)
