-- `put_plus`: one byte, or none.
-- Assumes nothing.
use mathlib.Core.Path.{sym}
use native.Mathlib.Omega.{arith}
use Rattle.expression_output.proofs.OutputLaws.{overlay-none}
use Rattle.expression_output.proofs.put_plus.Goals as goal

pub returns : goal.returns
returns c = let a = c.args in rw c.if-plus.false (sym (overlay-none a.o a.out.now), omega arith)
