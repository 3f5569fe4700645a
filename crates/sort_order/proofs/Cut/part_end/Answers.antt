use mathlib.Core.Path.{sym, ◌∙◌}
use native.Mathlib.Omega.{arith}
use Rattle.sort_order.proofs.PartLaws.{length_none, length-ended, length-next}
use Rattle.sort_order.proofs.Cut.part_end.Goals as goal

pub returns-then-ends_at : goal.returns-then-ends_at
returns-then-ends_at c =
    sym (length-ended c.loop-i.cut.mark c.loop-i.cut.times c.args.text.now c.loop-i.i (omega arith) (sym c.ends_at.ensures ∙ c.if-ends_at.true)) ∙ c.loop-i.invariant

pub loop-i-preserved : goal.loop-i-preserved
loop-i-preserved c =
    rw c.past-cut.ensures
    (sym (length-next c.loop-i.cut.mark c.loop-i.cut.times c.args.text.now c.loop-i.i (omega arith) (sym c.ends_at.ensures ∙ c.if-ends_at.false)) ∙ c.loop-i.invariant)

pub returns : goal.returns
returns c = let a = c.args in
    let far = length_none a.self.mark a.self.times a.text.now a.a in
    let end = length_none c.loop-i.cut.mark c.loop-i.cut.times a.text.now c.loop-i.i c.loop-i-test.false in
    grind (arith, far, end, c.loop-i.invariant, c.max.ensures, c.loop-i.auto.i-end)
