-- `write_expression`: read once for the length, and once more to write.
-- Assumes nothing.
use native.Mathlib.Omega.{arith}
use Rattle.std.proofs.lemmas.Result.{err_from_is_err_and}
use Rattle.expression_job.proofs.WholeLaws.{was_accepted, was_refused, write_no, write_short, write_done, never_refused}
use Rattle.expression_job.proofs.write_expression.Goals as goal

pub returns-in_err-v : goal.returns-in_err-v
returns-in_err-v c =
    let p = err_from_is_err_and c.from_residual.result c.from_residual.ensures.1 in
    rw (p.1, p.2) (write_no c.args.text.now c.args.out.now _ (was_refused c.in_err-v.was c.read_only.ensures.told))

pub returns-then-out-v : goal.returns-then-out-v
returns-then-out-v c = write_short c.args.text.now c.args.out.now (was_accepted c.in_ok-v.was c.read_only.ensures.told) c.if-out-v.true

pub returns-in_err-read_all : goal.returns-in_err-read_all
returns-in_err-read_all c =
    never_refused c.args.text.now c.args.out.now (was_accepted c.in_ok-v.was c.read_only.ensures.told) (was_refused c.in_err-read_all.was c.read_all.ensures)

pub returns : goal.returns
returns c = write_done c.args.text.now c.args.out.now (was_accepted c.in_ok-v.was c.read_only.ensures.told) c.if-out-v.false (omega arith) c.read_all.ensures
