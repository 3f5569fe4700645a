-- `alike`: std compares the bytes in lower case.
-- Assumes nothing.
use Rattle.expression_list.proofs.AlikeLaws.{alike_is}
use Rattle.expression_list.proofs.alike.Goals as goal

pub returns : goal.returns
returns c = alike_is _ c.args.a.now c.args.b.now c.eq_ignore_ascii_case.ensures.test
