-- `allowance_overdrawn::overdrawn` meets its contract: what is refused before any work, or 17.
-- Assumes nothing.
use Rattle.allowance_overdrawn.proofs.OverdrawnLaws.{number-passed, number-refused, refused-first, refused_17}
use Rattle.allowance_overdrawn.proofs.overdrawn.Goals as goal

pub returns-in-Ok : goal.returns-in-Ok
returns-in-Ok c = refused_17 (number-passed c.in-Ok.is c.admit_scan.ensures.number)

pub returns-in-Err : goal.returns-in-Err
returns-in-Err c = refused-first _ (number-refused c.in-Err.is c.admit_scan.ensures.number)
