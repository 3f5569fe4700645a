use native.Mathlib.Omega.{arith}
use Rattle.sort_spread.proofs.CountLaws.{counting_start, counting_most, counting_next, counting_end}
use Rattle.sort_spread.proofs.count_bytes.Goals as goal

pub loop-x-init : goal.loop-x-init
loop-x-init c = counting_start _ _ _ c.requires.counters

pub overflow_add-c : goal.overflow_add-c
overflow_add-c c = omega (arith, c.requires.few, counting_most c.loop-x.invariant c.byte_from-b.result c.byte_from-b.ensures.1)

pub loop-x-preserved : goal.loop-x-preserved
loop-x-preserved c = counting_next c.loop-x.invariant c.byte_from-b.result (omega arith) c.byte_from-b.ensures.0 c.byte_from-b.ensures.1

pub returns : goal.returns
returns c = counting_end c.loop-x.invariant (omega arith)
