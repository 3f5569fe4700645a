-- `scan_job::scan_lent` meets its contract: a refusal before any work changes nothing, and after the work both work areas are zeroed.
-- Assumes nothing.
use Rattle.std.proofs.Common.{option_copied}
use Rattle.std.proofs.lemmas.Result.{err_from_is_err_and}
use mathlib.Core.Path.{refl, sym}
use Rattle.rules.specs.Told.{number_told}
use Rattle.rules.proofs.ToldLaws.{numbered}
use Rattle.refusals.specs.Lent.{shelf_lent}
use Rattle.refusals.proofs.LentLaws.{lent-read}
use Rattle.refusals.proofs.AdmitLaws.{scan_admitted}
use Rattle.scan_answer.proofs.AnswerLaws.{scan-refused, scan-done}
use Rattle.scan_job.proofs.scan_lent.Goals as goal

pub returns-in_err-admitted : goal.returns-in_err-admitted
unfolding number_told
returns-in_err-admitted c = let p = err_from_is_err_and c.from_residual.result c.from_residual.ensures.1 in
    rw (p.1, p.2) (scan-refused _ _ _ _ _ _ _ _ _ _ c.in_err-admitted.ensures.number (numbered _) refl)

pub scan_laid-found-requires : goal.scan_laid-found-requires
scan_laid-found-requires c = let both = scan_admitted _ _ _ _ _ _ _ c.in_ok-admitted.ensures in
    rw c.second_bytes-beside.ensures (record { scan_through = both.0; counts_of = both.1 })

pub returns : goal.returns
unfolding number_told
returns c = let a = c.args in
    let o = option_copied a.second in
    scan-done a.text.now _ a.limits a.mode a.budget a.area.now a.words.now a.results.now
    (shelf_lent a.book.now o) (lent-read a.book.now o) (sym c.in_ok-admitted.ensures.number) _ _ _ _ (rw c.second_bytes-beside.ensures at c.scan_laid-found.ensures)
    c.area-1.given c.clear.ensures.bytes c.words-1.given c.clear.ensures.words
