-- `allowance_job::scan_left` meets its contract: above the cap nothing but a refusal, else the plain scan with what is left.
-- Assumes nothing.
use Rattle.std.proofs.Common.{option_copied, length}
use Rattle.rules.specs.Refusal.{refusal, before_scan}
use Rattle.rules.specs.Jobs.{lent}
use Rattle.refusals.specs.Lent.{books_lent}
use Rattle.allowance.proofs.AllowedLaws.{plain-allowed}
use Rattle.allowance_overdrawn.proofs.OverdrawnLaws.{answers_overdrawn, overdrawn_done}
use Rattle.allowance_job.proofs.scan_left.Goals as goal

pub returns-then-cap-used : goal.returns-then-cap-used
returns-then-cap-used c = let a = c.args in
    let n = refusal (before_scan a.text.now (books_lent a.book.now (option_copied a.second)) a.limits a.mode (lent a.area.now a.words.now) (length a.results.now)) in
    overdrawn_done _ c.if-cap-used.true (answers_overdrawn n c.overdrawn.result c.overdrawn.ensures)

pub returns : goal.returns
returns c = plain-allowed _ c.if-cap-used.false c.scan_lent.ensures
