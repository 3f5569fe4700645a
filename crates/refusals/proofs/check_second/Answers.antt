-- `refusals::check_second` meets its contract: the job's answer, or that of an empty book.
-- Assumes nothing.
use Rattle.std.proofs.Common.{refl}
use Rattle.refusals.proofs.AdmitLaws.{empty_checked}
use Rattle.refusals.proofs.check_second.Goals as goal

pub returns-in-None : goal.returns-in-None
returns-in-None c = rw c.in-None.is (empty_checked _ refl)
