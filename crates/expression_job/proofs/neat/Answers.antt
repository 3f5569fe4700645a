-- `neat`: as long as what would be written, and spaced out.
-- Assumes nothing.
use mathlib.Core.Path.{◌∙◌}
use native.Mathlib.Omega.{arith}
use borrow.Author.Tests.{ne_eqb}
use Rattle.expression_job.proofs.WholeLaws.{was_accepted, was_refused, neat-no, neat-other, neat-yes}
use Rattle.expression_job.proofs.neat.Goals as goal

pub returns-then-v-text : goal.returns-then-v-text
returns-then-v-text c = c.spaced_out.ensures ∙ neat-yes c.args.text.now (was_accepted c.in-Ok.is c.read_only.ensures.told) (omega arith) c.if-v-text.true

pub returns-else-v-text : goal.returns-else-v-text
returns-else-v-text c = ne_eqb _ _ c.if-v-text.false ∙ neat-other c.args.text.now (was_accepted c.in-Ok.is c.read_only.ensures.told) (omega arith) c.if-v-text.false

pub returns-in-Err : goal.returns-in-Err
returns-in-Err c = neat-no c.args.text.now (was_refused c.in-Err.is c.read_only.ensures.told)
