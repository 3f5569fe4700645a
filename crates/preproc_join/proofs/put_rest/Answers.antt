use native.Mathlib.Omega.{arith}
use Rattle.preproc_join.proofs.JoinLaws.{joining_start, joining_room, joining_puts, joining_more, joining_end}
use Rattle.preproc_join.proofs.put_rest.Goals as goal

pub loop-i-init : goal.loop-i-init
loop-i-init c = joining_start c.args.area.now c.args.first c.requires.0 c.requires.1 c.requires.2

pub bounds-area-w : goal.bounds-area-w
bounds-area-w c = joining_room c.args.area.now c.args.first c.requires.0 c.loop-i.invariant c.loop-i-test.true

pub overflow_add-w : goal.overflow_add-w
overflow_add-w c = omega (arith, joining_room c.args.area.now c.args.first c.requires.0 c.loop-i.invariant c.loop-i-test.true)

pub put_part-w-requires : goal.put_part-w-requires
put_part-w-requires c = joining_puts c.args.area.now c.args.first c.requires.0 c.loop-i.invariant c.loop-i-test.true

pub loop-i-preserved : goal.loop-i-preserved
loop-i-preserved c = joining_more c.args.area.now c.args.first c.requires.0 c.loop-i.invariant c.loop-i-test.true c.put_part-w.ensures

pub returns : goal.returns
returns c = joining_end c.loop-i.invariant c.loop-i-test.false
