-- `join_lines`: the first line, and those behind it.
-- Assumes nothing.
use native.Mathlib.Omega.{arith}
use Rattle.preproc_join.proofs.JoinLaws.{joined-none, first_puts, rest_below, rest-room, joined-all}
use Rattle.preproc_join.proofs.join_lines.Goals as goal

pub returns-then-end-first : goal.returns-then-end-first
returns-then-end-first c = joined-none c.args.area.now c.args.first c.requires.0 c.requires.1 c.if-end-first.true

pub put_part-w-requires : goal.put_part-w-requires
put_part-w-requires c = first_puts c.args.area.now c.args.first c.requires.0 c.requires.1 c.if-end-first.false

pub put_rest-requires : goal.put_rest-requires
put_rest-requires c = let b = rest_below c.args.area.now c.args.first c.requires.0 c.requires.1 c.if-end-first.false c.put_part-w.ensures in
    let r = rest-room c.args.area.now c.args.first c.requires.0 c.requires.1 c.if-end-first.false c.put_part-w.ensures in
    (b, omega (arith, c.if-end-first.false), r)

pub overflow_sub-result : goal.overflow_sub-result
overflow_sub-result c = (joined-all c.args.area.now c.args.first c.requires.0 c.requires.1 c.if-end-first.false c.put_part-w.ensures c.put_rest.ensures).0

pub returns : goal.returns
returns c = (joined-all c.args.area.now c.args.first c.requires.0 c.requires.1 c.if-end-first.false c.put_part-w.ensures c.put_rest.ensures).1
