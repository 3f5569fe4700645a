-- `refusals::admit_view` meets its contract: refusals 1 to 5 and 15 decide, or the view's rows.
-- Assumes nothing.
use Rattle.std.proofs.lemmas.Result.{err_from_is_err_and}
use Rattle.rules.specs.Told.{number_told}
use Rattle.refusals.proofs.AdmitLaws.{both_first, then_refused, then_passed, both_through, both-numbered, view_rows_lem}
use Rattle.refusals.proofs.admit_view.Goals as goal

pub returns-in_err-both : goal.returns-in_err-both
returns-in_err-both c = let p = err_from_is_err_and c.from_residual.result c.from_residual.ensures.1 in
    rw (p.1, p.2) (rw (view_rows_lem c.args.text.now c.args.book.now _ c.args.v c.args.k c.args.areas) (both_first _ _ _ _ _ c.in_err-both.ensures))

pub refuse_view-requires : goal.refuse_view-requires
refuse_view-requires c = (both_through _ _ _ c.in_ok-both.ensures).text.short

pub returns-in_err-refuse_view : goal.returns-in_err-refuse_view
unfolding number_told
returns-in_err-refuse_view c = let p = err_from_is_err_and c.from_residual-in_err-refuse_view.result c.from_residual-in_err-refuse_view.ensures.1 in
    let h = c.in_ok-both.ensures in
    rw (p.1, p.2) (rw (view_rows_lem c.args.text.now c.args.book.now _ c.args.v c.args.k c.args.areas)
    (then_refused _ _ _ _ (both-numbered _ _) h _ (rw (h.lines, h.texts.all) at c.in_err-refuse_view.ensures)))

pub returns : goal.returns
unfolding number_told
returns c = let h = c.in_ok-both.ensures in
    rw (view_rows_lem c.args.text.now c.args.book.now _ c.args.v c.args.k c.args.areas)
    (then_passed _ _ _ _ (both-numbered _ _) h (rw (h.lines, h.texts.all) at c.in_ok-refuse_view.ensures))
