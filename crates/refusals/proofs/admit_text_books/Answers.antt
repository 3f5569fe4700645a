-- `refusals::admit_text_books` meets its contract: the text's rows decide, or the books'.
-- Assumes nothing.
use Rattle.std.proofs.lemmas.Result.{err_from_is_err_and}
use Rattle.refusals.proofs.AdmitLaws.{text_untaken, books-refused, books_admitted}
use Rattle.refusals.proofs.admit_text_books.Goals as goal

pub returns-in_err-lines : goal.returns-in_err-lines
returns-in_err-lines c = let p = err_from_is_err_and c.from_residual.result c.from_residual.ensures.1 in
    rw (p.1, p.2) (text_untaken _ _ _ _ c.edition_of.ensures _ c.in_err-lines.ensures)

pub returns-in_err-texts : goal.returns-in_err-texts
returns-in_err-texts c = let p = err_from_is_err_and c.from_residual-in_err-texts.result c.from_residual-in_err-texts.ensures.1 in
    rw (p.1, p.2) (books-refused _ _ _ _ c.edition_of.ensures _ c.in_ok-lines.ensures _ c.in_err-texts.ensures)

pub returns : goal.returns
returns c = books_admitted _ _ _ _ c.edition_of.ensures _ c.in_ok-lines.ensures _ c.in_ok-texts.ensures
