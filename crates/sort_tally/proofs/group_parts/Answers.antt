use mathlib.Core.Path.{refl, sym, ◌∙◌}
use native.Mathlib.Omega.{arith}
use Rattle.sort_tally.proofs.GroupLaws.{grouping_none, grouping_start, grouping_open, grouping_join, grouping_end}
use Rattle.sort_tally.proofs.group_parts.Goals as goal
use Rattle.sort_tally.proofs.group_parts.Goals.{then-part_after, else-part_after}

pub returns-then-k-eq0 : goal.returns-then-k-eq0
returns-then-k-eq0 c = let a = c.args in
    record { groups = rw c.if-k-eq0.true (grouping_none _ a.p.now); rest = refl }

pub loop-i-init : goal.loop-i-init
loop-i-init c = let a = c.args in
    grouping_start _ a.p.now a.k (omega arith) (omega arith)

pub loop-i-preserved : goal.loop-i-preserved
loop-i-preserved c = let told = rw (c.wide.ensures, c.wide-in-loop-i.ensures) at c.part_after.ensures in
    elim c.if-part_after.branch [
      | then-part_after w ↦ rw (w.p-is, w.d-is, w.start-is, w.count-is, w.put_group.ensures) (grouping_open c.loop-i.invariant c.loop-i-test.true (sym told ∙ w.if-part_after.true))
      | else-part_after w ↦ rw (w.p-is, w.d-is, w.start-is, w.count-is) (grouping_join c.loop-i.invariant c.loop-i-test.true (sym told ∙ w.if-part_after.false))
    ]

pub returns : goal.returns
returns c = let both = grouping_end c.loop-i.invariant c.loop-i-test.false in
    record { groups = rw c.put_group-2.ensures both.0; rest = rw c.put_group-2.ensures both.1 }
