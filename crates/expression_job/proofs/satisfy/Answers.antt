-- `satisfy`: the verdict, and whether the tree is satisfied.
-- Assumes nothing.
use Rattle.std.proofs.lemmas.Result.{err_from_is_err_and}
use Rattle.expression_job.proofs.WholeLaws.{was_accepted, was_refused, satisfy-no, satisfy-yes}
use Rattle.expression_job.proofs.satisfy.Goals as goal

pub returns-in_err-v : goal.returns-in_err-v
returns-in_err-v c =
    let p = err_from_is_err_and c.from_residual.result c.from_residual.ensures.1 in
    rw (p.1, p.2) (satisfy-no c.args.list.now c.args.text.now _ (was_refused c.in_err-v.was c.read_only.ensures.told))

pub returns : goal.returns
returns c = satisfy-yes c.args.list.now c.args.text.now (was_accepted c.in_ok-v.was c.read_only.ensures.told)
