-- `read_all`: the OR level outside all parentheses, and nothing behind it.
-- Assumes nothing.
use native.Mathlib.Omega.{arith}
use Rattle.std.proofs.lemmas.Result.{err_from_is_err_and}
use Rattle.expression_levels.proofs.LevelLaws.{was_read, was_none}
use Rattle.expression_job.proofs.WholeLaws.{all_read, left_over_lem, not_read}
use Rattle.expression_job.proofs.read_all.Goals as goal

pub or_level-requires : goal.or_level-requires
or_level-requires c = (omega arith, omega arith)

pub returns-then-v-text : goal.returns-then-v-text
returns-then-v-text c = left_over_lem c.if-v-text.true (was_read c.in_ok-v.was c.or_level.ensures)

pub returns-in_err-v : goal.returns-in_err-v
returns-in_err-v c =
    let p = err_from_is_err_and c.from_residual.result c.from_residual.ensures.1 in
    rw (p.1, p.2) (not_read (was_none c.in_err-v.was c.or_level.ensures))

pub returns : goal.returns
returns c = all_read c.if-v-text.false (was_read c.in_ok-v.was c.or_level.ensures)
