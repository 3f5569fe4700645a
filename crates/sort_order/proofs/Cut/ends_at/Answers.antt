-- `sort_order::Cut::ends_at` meets its contract.
-- Assumes nothing.
use borrow.Author.Tests.{eq-eqb, ne_eqb}
use Rattle.sort_spread.specs.Sort.{ends_part}
use Rattle.sort_order.proofs.Cut.ends_at.Goals as goal

pub returns-then-x-self : goal.returns-then-x-self
unfolding ends_part
returns-then-x-self c = rw (eq-eqb _ _ c.if-x-self.true)

pub returns-else-x-self : goal.returns-else-x-self
unfolding ends_part
returns-else-x-self c = rw (ne_eqb _ _ c.if-x-self.false)
