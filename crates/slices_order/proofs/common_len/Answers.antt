use native.Mathlib.Omega.{arith}
use borrow.Author.Rules.{rules}
use Rattle.slices_order.proofs.OrderLaws.{common-most, common-other, common-more}
use Rattle.slices_order.proofs.common_len.Goals as goal

pub returns-then-a-i : goal.returns-then-a-i
returns-then-a-i c = let a = c.args in
    omega (arith, c.loop-i.invariant, common-other a.a.now a.b.now c.loop-i.i (search rules) (search rules) c.if-a-i.true)

pub loop-i-preserved : goal.loop-i-preserved
loop-i-preserved c = let a = c.args in
    omega (arith, c.loop-i.invariant, common-more a.a.now a.b.now c.loop-i.i (search rules) (search rules) c.if-a-i.false)

pub returns : goal.returns
returns c = let a = c.args in
    let h = common-most a.a.now a.b.now in
    omega (arith, c.loop-i.invariant, c.loop-i.auto.i-end, c.loop-i-test.false, c.min-n.ensures, h.0, h.1)
