-- `put_exception`: nothing of an exception of no bytes, else the word and then the bytes.
-- Assumes nothing.
use mathlib.Core.Path.{sym, ◌∙◌}
use native.Mathlib.Omega.{arith}
use borrow.Author.Tests.{eqb-true}
use Rattle.std.proofs.lemmas.Bool.{eqb-false}
use lib.ListN.{length}
use mathlib.Core.List.{[], ◌∷◌}
use Rattle.expression_output.proofs.OutputLaws.{overlay-none, put_then}
use Rattle.expression_output.proofs.PartLaws.{exception_none, exception_some}
use Rattle.expression_output.proofs.put_exception.Goals as goal

pub returns-then-is_empty : goal.returns-then-is_empty
returns-then-is_empty c = let a = c.args in
    rw (exception_none a.exception.now (eqb-true _ _ (sym c.is_empty.ensures ∙ c.if-is_empty.true))) (sym (overlay-none a.o a.out.now), omega arith)

pub returns : goal.returns
returns c = let a = c.args in
    rw (exception_some a.exception.now (let h = eqb-false (length a.exception.now) 0 (sym c.is_empty.ensures ∙ c.if-is_empty.false) in omega arith))
    (put_then a.o (32 ∷ 87 ∷ 73 ∷ 84 ∷ 72 ∷ 32 ∷ []) a.exception.now a.out.now (omega arith) c.put-w.ensures c.put.ensures)
