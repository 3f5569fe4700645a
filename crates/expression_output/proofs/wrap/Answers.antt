use mathlib.Core.Bool.{not}
use mathlib.Core.Path.{ap}
use native.Mathlib.Omega.{arith}
use borrow.Author.Tests.{not-true, not-false}
use Rattle.expression_output.proofs.WrapLaws.{shifting_start, shifting_next, shifting_long, wrapped_none, wrapped}
use Rattle.expression_output.proofs.wrap.Goals as goal

pub returns-then-not-or : goal.returns-then-not-or
returns-then-not-or c = let a = c.args in rw (not-true a.or (ap not c.if-not-or.true)) (wrapped_none a.from a.to a.out.now)

pub loop-i-init : goal.loop-i-init
loop-i-init c = shifting_start _ _ _ _

pub bounds-out-i : goal.bounds-out-i
bounds-out-i c = omega (arith, shifting_long c.loop-i.invariant, c.min-end.ensures)

pub bounds-out-i-in-loop-i : goal.bounds-out-i-in-loop-i
bounds-out-i-in-loop-i c = omega (arith, shifting_long c.loop-i.invariant, c.min-end.ensures)

pub loop-i-preserved : goal.loop-i-preserved
loop-i-preserved c = shifting_next c.loop-i.invariant c.loop-i-test.true (omega (arith, c.min-end.ensures))

pub returns : goal.returns
returns c = let a = c.args in
    rw (not-false a.or (ap not c.if-not-or.false))
    (wrapped a.to c.loop-i.invariant c.loop-i-test.false c.min-end.ensures (omega arith) c.put.ensures)
