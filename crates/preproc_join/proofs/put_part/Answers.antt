-- `put_part`: found, and copied.
-- Assumes nothing.
use native.Mathlib.Omega.{arith}
use Rattle.preproc_join.proofs.JoinLaws.{lies-below, put_fits, put-there}
use Rattle.preproc_join.proofs.put_part.Goals as goal

pub line_part-s-requires : goal.line_part-s-requires
line_part-s-requires c = let q = c.requires in
    (q.classes, q.entry, q.order, omega (arith, q.below, q.room), lies-below c.args.p (omega (arith, q.room)) q.prefix)

pub overflow_sub-s : goal.overflow_sub-s
overflow_sub-s c = c.line_part-s.ensures.order

pub copy_up-requires : goal.copy_up-requires
copy_up-requires c = put_fits c.requires c.line_part-s.ensures

pub returns : goal.returns
returns c = put-there c.requires c.line_part-s.ensures c.copy_up.ensures.0 c.copy_up.ensures.1
