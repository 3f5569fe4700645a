-- `sort_tally::tally_parts` meets its contract: what the sort and the grouping leave is the definition's table, and of the
-- same starts in another order it is the same table.
-- Assumes nothing.
use mathlib.Core.Path.{◌∙◌}
use native.Mathlib.Omega.{arith}
use lib.ListN.{take, length-take}
use Rattle.sort_spread.specs.Sort.{part_later}
use Rattle.sort_tally.proofs.GroupLaws.{groups-few}
use Rattle.sort_tally.proofs.TallyLaws.{table-there, tallied_shuffled}
use Rattle.sort_tally.proofs.tally_parts.Goals as goal

pub returns : goal.returns
returns c = let a = c.args in
    let p₁ = c.spread_all.new.p in
    let p₂ = c.sort_parts.new.p in record {
      table = table-there a.cut.mark a.cut.times a.text.now a.k c.group_parts.result p₁ p₂ c.group_parts.new.p (omega (arith, c.spread_all.auto.p)) c.sort_parts.ensures.sorted c.group_parts.ensures.groups
          ∙ tallied_shuffled a.cut.mark a.cut.times a.text.now (take a.k p₁) (take a.k a.p.now) c.spread_all.ensures.same;
      few = omega (arith, c.group_parts.ensures.groups.many, groups-few (part_later a.cut.mark a.cut.times a.text.now) (take a.k p₂), length-take a.k p₂);
      rest = c.group_parts.ensures.rest ∙ c.sort_parts.ensures.rest ∙ c.spread_all.ensures.rest;
    }
