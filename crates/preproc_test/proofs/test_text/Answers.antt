-- `test_text`: each answer by the test that led to it.
-- Assumes nothing.
use Rattle.std.proofs.Common.{refl, arith}
use Rattle.std.proofs.lemmas.Result.{err_from_is_err_and}
use Rattle.rules.specs.Points.{wide}
use Rattle.preproc_test.proofs.CountLaws.{tested-long, tested-bytes, tested-lines, tested-passed}
use Rattle.preproc_test.proofs.test_text.Goals as goal

pub returns-then-text-gt-TEXT_MOST : goal.returns-then-text-gt-TEXT_MOST
returns-then-text-gt-TEXT_MOST c = tested-long _ _ c.if-text-gt-TEXT_MOST.true

pub returns-in_err-lines : goal.returns-in_err-lines
unfolding wide
returns-in_err-lines c = let p = err_from_is_err_and c.from_residual.result c.from_residual.ensures.1 in
    tested-bytes c.args.edition c.args.text.now c.if-text-gt-TEXT_MOST.false _ refl (grind arith) _ (grind arith)

pub returns-then-lines-gt-LINES_MOST : goal.returns-then-lines-gt-LINES_MOST
unfolding wide
returns-then-lines-gt-LINES_MOST c = tested-lines c.args.edition c.args.text.now c.if-text-gt-TEXT_MOST.false _ refl _ (grind arith) c.if-lines-gt-LINES_MOST.true

pub returns : goal.returns
unfolding wide
returns c = tested-passed c.args.edition c.args.text.now c.if-text-gt-TEXT_MOST.false _ refl _ (grind arith) c.if-lines-gt-LINES_MOST.false
