-- `score_job::score_lent` meets its contract: a refusal changes nothing, and after the work both areas are zeroed.
-- Assumes nothing.
use Rattle.std.proofs.Common.{option_copied}
use Rattle.std.proofs.lemmas.Result.{err_from_is_err_and}
use mathlib.Core.Path.{sym}
use Rattle.rules.specs.Book.{edition_of}
use Rattle.rules.specs.Told.{number_told}
use Rattle.refusals.specs.Lent.{shelf_lent}
use Rattle.detection_shelf.specs.Shelves.{texts}
use Rattle.refusals.proofs.LentLaws.{lent-read}
use Rattle.refusals.proofs.AdmitLaws.{view_admitted}
use Rattle.refusals.proofs.AreaLaws.{both_zeroed}
use Rattle.score_job.proofs.JobLaws.{score-refused, score-done}
use Rattle.score_job.proofs.score_lent.Goals as goal

pub returns-in_err-admitted : goal.returns-in_err-admitted
unfolding number_told
returns-in_err-admitted c = let p = err_from_is_err_and c.from_residual.result c.from_residual.ensures.1 in
    rw (p.1, p.2) (score-refused _ _ _ _ _ _ _ c.in_err-admitted.ensures.number)

pub score_laid-value-requires : goal.score_laid-value-requires
score_laid-value-requires c = let both = view_admitted _ _ _ _ _ _ c.in_ok-admitted.ensures in
    rw c.second_bytes-beside.ensures (record { view_through = both.0; counts_of = both.1 })

pub returns : goal.returns
unfolding edition_of number_told
returns c = let a = c.args in
    let o = option_copied a.second in
    score-done _ _ _ _ _ _ (texts (shelf_lent a.book.now o)) (lent-read a.book.now o).texts _ (sym c.in_ok-admitted.ensures.number) (rw c.second_bytes-beside.ensures at c.score_laid-value.ensures)
    (both_zeroed c.area-1.given c.clear.ensures.bytes c.words-1.given c.clear.ensures.words)
