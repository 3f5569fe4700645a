-- `compile::compile` meets its contract: what is refused changes nothing, and what is not refused is worked on.
-- Assumes nothing.
use Rattle.std.proofs.Common.{sym}
use Rattle.std.proofs.lemmas.Result.{err_from_is_err_and}
use Rattle.rules.specs.Told.{number_told}
use Rattle.refusals.proofs.AdmitLaws.{compile_through}
use Rattle.compile.proofs.DoneLaws.{done_none, done_work}
use Rattle.compile.proofs.compile.Goals as goal

pub returns-in_err-admit_compile : goal.returns-in_err-admit_compile
unfolding number_told
returns-in_err-admit_compile c = let p = err_from_is_err_and c.from_residual.result c.from_residual.ensures.1 in
    rw (p.1, p.2) (done_none _ _ _ _ _ _ c.in_err-admit_compile.ensures)

pub compile_through-requires : goal.compile_through-requires
unfolding number_told
compile_through-requires c = let t = compile_through _ _ _ (sym c.in_ok-admit_compile.ensures) in
    (t.text, t.bytes, t.words)

pub returns : goal.returns
unfolding number_told
returns c = done_work _ _ _ _ _ _ _ _ _ (sym c.in_ok-admit_compile.ensures) c.compile_through.ensures.body c.compile_through.ensures.bytes c.compile_through.ensures.words
