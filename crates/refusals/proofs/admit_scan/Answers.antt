-- `refusals::admit_scan` meets its contract: refusals 1 to 5 and 15 decide, or the scan's rows.
-- Assumes nothing.
use Rattle.std.proofs.Common.{arith}
use Rattle.std.proofs.lemmas.Result.{err_from_is_err_and}
use Rattle.rules.specs.Told.{number_told}
use Rattle.refusals.proofs.AdmitLaws.{both_first, then_refused, then_passed, both_through, both-numbered, scan_rows_lem}
use Rattle.refusals.proofs.admit_scan.Goals as goal

pub returns-in_err-both : goal.returns-in_err-both
returns-in_err-both c = let p = err_from_is_err_and c.from_residual.result c.from_residual.ensures.1 in
    rw (p.1, p.2) (rw (scan_rows_lem c.args.text.now c.args.book.now _ c.args.lim c.args.mode c.args.areas c.args.results) (both_first _ _ _ _ _ c.in_err-both.ensures))

pub refuse_scan-requires : goal.refuse_scan-requires
refuse_scan-requires c = let h = c.in_ok-both.ensures in
    let p = both_through _ _ _ h in
    (p.text.short, omega (arith, p.few, h.lines))

pub returns-in_err-refuse_scan : goal.returns-in_err-refuse_scan
unfolding number_told
returns-in_err-refuse_scan c = let p = err_from_is_err_and c.from_residual-in_err-refuse_scan.result c.from_residual-in_err-refuse_scan.ensures.1 in
    let h = c.in_ok-both.ensures in
    rw (p.1, p.2) (rw (scan_rows_lem c.args.text.now c.args.book.now _ c.args.lim c.args.mode c.args.areas c.args.results)
    (then_refused _ _ _ _ (both-numbered _ _) h _ (rw h.lines at c.in_err-refuse_scan.ensures)))

pub returns : goal.returns
unfolding number_told
returns c = let h = c.in_ok-both.ensures in
    rw (scan_rows_lem c.args.text.now c.args.book.now _ c.args.lim c.args.mode c.args.areas c.args.results)
    (then_passed _ _ _ _ (both-numbered _ _) h (rw h.lines at c.in_ok-refuse_scan.ensures))
