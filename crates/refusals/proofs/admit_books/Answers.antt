-- `refusals::admit_books` meets its contract: the checks of both books, and their editions, as the rows of the lent ones.
-- Assumes nothing.
use Rattle.std.proofs.Common.{sym, ◌∙◌, arith, option_copied}
use Rattle.std.proofs.lemmas.Result.{err_from_is_err_and}
use Rattle.refusals.proofs.AdmitLaws.{checks_first, checks_second, checks_fit, checks_none, checks_apart, checks_some}
use Rattle.refusals.proofs.admit_books.Goals as goal

pub returns-in_err-first : goal.returns-in_err-first
returns-in_err-first c = let p = err_from_is_err_and c.from_residual.result c.from_residual.ensures.1 in
    rw (p.1, p.2) (checks_first _ _ _ c.in_err-first.ensures)

pub returns-in_err-other : goal.returns-in_err-other
returns-in_err-other c = let p = err_from_is_err_and c.from_residual-in_err-other.result c.from_residual-in_err-other.ensures.1 in
    rw (p.1, p.2) (checks_second _ _ _ c.in_ok-first.ensures _ c.in_err-other.ensures)

pub overflow_add-all : goal.overflow_add-all
overflow_add-all c = let m = checks_fit c.args.book.now (option_copied c.args.second) _ c.in_ok-first.ensures _ c.in_ok-other.ensures in omega (arith, m.0, m.1)

pub returns-then-all-eq0 : goal.returns-then-all-eq0
returns-then-all-eq0 c = checks_none _ _ _ c.in_ok-first.ensures _ c.in_ok-other.ensures c.if-all-eq0.true

pub returns-then-editions_differ : goal.returns-then-editions_differ
returns-then-editions_differ c = checks_apart _ _ _ c.in_ok-first.ensures _ c.in_ok-other.ensures c.if-all-eq0.false (sym c.editions_differ.ensures ∙ c.if-editions_differ.true)

pub returns : goal.returns
returns c = checks_some _ _ _ c.in_ok-first.ensures _ c.in_ok-other.ensures c.if-all-eq0.false (sym c.editions_differ.ensures ∙ c.if-editions_differ.false)
