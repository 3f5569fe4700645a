-- `put`: what fits is copied.
-- Assumes nothing.
use mathlib.Core.Path.{sym, ◌∙◌}
use Rattle.expression_output.proofs.OutputLaws.{overlay_beyond}
use Rattle.expression_output.proofs.PartLaws.{copied}
use Rattle.expression_output.proofs.put.Goals as goal

pub returns-then-out-o : goal.returns-then-out-o
returns-then-out-o c = let a = c.args in (sym (overlay_beyond a.o _ a.out.now c.if-out-o.true), c.saturating_add-behind.ensures)

pub returns : goal.returns
returns c = let a = c.args in (c.copy_to.ensures.1 ∙ copied a.o _ a.bytes.now a.out.now c.if-out-o.false c.min-k.ensures, c.saturating_add-behind.ensures)
