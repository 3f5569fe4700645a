-- `refusals::admit_compile` meets its contract: the text decides, then the edition and the areas.
-- Assumes nothing.
use Rattle.std.proofs.Common.{sym, ◌∙◌, arith}
use Rattle.std.proofs.lemmas.Result.{err_from_is_err_and}
use Rattle.rules.specs.Told.{number_told}
use Rattle.rules.proofs.ToldLaws.{numbered}
use Rattle.preproc_test.proofs.CountLaws.{passed_length}
use Rattle.refusals.proofs.AdmitLaws.{compile-first, compile_then}
use Rattle.refusals.proofs.admit_compile.Goals as goal

pub returns-in_err-test_text : goal.returns-in_err-test_text
unfolding number_told
returns-in_err-test_text c = let p = err_from_is_err_and c.from_residual.result c.from_residual.ensures.1 in
    let e = c.in_err-test_text.ensures.number in
    rw (p.1, p.2) (e ∙ compile-first _ _ _ (λ z. numbered _ (e ∙ z)))

pub refuse_compile-requires : goal.refuse_compile-requires
unfolding number_told
refuse_compile-requires c = omega (arith, passed_length c.args.edition c.args.text.now (sym c.in_ok-test_text.ensures.number))

pub returns : goal.returns
unfolding number_told
returns c = c.refuse_compile.ensures ∙ compile_then _ _ _ (sym c.in_ok-test_text.ensures.number)
