-- `license_charge::charge_exact` meets its contract: every score beats the lowest floor.
-- Assumes nothing.
use Rattle.floors.proofs.LowestLaws.{judged_exact}
use Rattle.license_charge.proofs.charge_exact.Goals as goal

pub returns : goal.returns
returns c = record { value = judged_exact _ _ _ c.lowest.ensures c.charge.ensures.value; left = c.charge.ensures.left }
