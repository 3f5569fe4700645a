use native.Mathlib.Omega.{arith}
use Rattle.sort_spread.proofs.CountLaws.{summing_start, summing_most, summing_next, summing_end}
use Rattle.sort_spread.proofs.sum_counts.Goals as goal

pub loop-x-init : goal.loop-x-init
loop-x-init c = summing_start _ c.requires.0

pub overflow_add-sum : goal.overflow_add-sum
overflow_add-sum c = omega (arith, summing_most c.loop-x.invariant c.loop-x-test.true)

pub loop-x-preserved : goal.loop-x-preserved
loop-x-preserved c = summing_next c.loop-x.invariant c.loop-x-test.true

pub returns : goal.returns
returns c = summing_end c.loop-x.invariant c.loop-x-test.false
