-- `point_of` meets its contract: a lead is 194 or 195, so that no step wraps.
-- Assumes nothing.
use native.Mathlib.Omega.{arith}
use Rattle.rules.proofs.PointLaws.{opens-range}
use Rattle.points.proofs.read.point_of.Goals as goal

pub overflow_sub-result : goal.overflow_sub-result
overflow_sub-result c = omega (arith, (opens-range c.args.lead c.requires).0)

pub overflow_mul-result : goal.overflow_mul-result
overflow_mul-result c = let r = opens-range c.args.lead c.requires in
    omega (arith, r.0, r.1)

pub overflow_add-result : goal.overflow_add-result
overflow_add-result c = let r = opens-range c.args.lead c.requires in
    omega (arith, r.0, r.1)
