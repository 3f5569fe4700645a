-- `scan_answer::licence_of` meets its contract: of what is named its kind and its part, and of none nothing.
-- Assumes nothing.
use mathlib.Core.Path.{refl}
use Rattle.scan_answer.proofs.AnswerLaws.{licence-none, licence-some}
use Rattle.scan_answer.proofs.licence_of.Goals as goal

pub returns-in_err-held : goal.returns-in_err-held
returns-in_err-held c = rw c.from_residual.ensures (licence-none c.in_err-held.was)

pub returns : goal.returns
returns c = licence-some c.in_ok-held.was _ refl refl
