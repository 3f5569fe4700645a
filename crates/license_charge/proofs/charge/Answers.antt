-- `license_charge::charge` meets its contract: the scoring is of the view's table, and one is taken off.
-- Assumes nothing.
use mathlib.Core.Path.{refl}
use Rattle.license_charge.proofs.ChargeLaws.{chargeable, charged}
use Rattle.license_charge.proofs.charge.Goals as goal

pub scoring-value-requires : goal.scoring-value-requires
scoring-value-requires c = let r = chargeable _ _ _ _ c.requires.tabled _ c.table_end-from.ensures in
    record { distinct_le_total = r.sizes; distinct_value = r.stands; body_value = c.requires.body_value }

pub returns : goal.returns
returns c = record { value = charged _ _ c.args.t _ _ c.scoring-value.ensures; left = refl }
