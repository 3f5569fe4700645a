-- `expression_bytes::stands` meets its contract.
-- Assumes nothing.
use Rattle.std.proofs.Common.{sym, ◌∙◌}
use borrow.Author.Tests.{le-ltb}
use Rattle.expression_bytes.proofs.FrontLaws.{head-here, head-none}
use Rattle.expression_bytes.proofs.stands.Goals as goal

pub returns-then-at-text : goal.returns-then-at-text
returns-then-at-text c = let a = c.args in sym (head-here a.text.now a.at a.b c.if-at-text.true)

pub returns-else-at-text : goal.returns-else-at-text
returns-else-at-text c = let a = c.args in le-ltb _ _ c.if-at-text.false ∙ sym (head-none a.text.now a.at a.b c.if-at-text.false)
