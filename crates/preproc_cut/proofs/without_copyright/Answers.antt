use Prim.Native.Nat.{◌+◌, ◌≤◌, ◌<◌}
use native.Mathlib.Omega.{arith}
use lib.ListN.{length, length-set}
use Rattle.lists.proofs.InPlaceLaws.{over-done, over-end}
use Rattle.preproc_cut.proofs.CutLaws.{cutting_miss, cutting_long, cutting_hit, cut-done}
use Rattle.preproc_cut.proofs.without_copyright.Goals as goal
use Rattle.preproc_cut.proofs.without_copyright.Goals.{In-Some}

-- where a hit starts
module _ (c : In-Some) where
  inside : c.loop-i.i < length c.args.buf.now
  inside = omega arith

  long : (2 ≤ c.in-Some.k) × (c.loop-i.i + c.in-Some.k ≤ length c.args.buf.now)
  long = cutting_long c.loop-i.fresh c.loop-i.invariant inside c.in-Some.k c.in-Some.ensures.0 c.in-Some.ensures.1

pub overflow_add-i : goal.overflow_add-i
overflow_add-i c = omega (arith, long (goal.at.overflow_add-i c).In-Some)

pub bounds-buf-i : goal.bounds-buf-i
bounds-buf-i c = omega (arith, long (goal.at.bounds-buf-i c).In-Some)

pub bounds-buf-w-in-Some : goal.bounds-buf-w-in-Some
bounds-buf-w-in-Some c = simp length-set (omega (arith, long (goal.at.bounds-buf-w-in-Some c).In-Some))

pub loop-i-preserved-in-Some : goal.loop-i-preserved-in-Some
loop-i-preserved-in-Some c = let some = (goal.at.loop-i-preserved-in-Some c).In-Some in
    cutting_hit c.loop-i.fresh c.loop-i.invariant (inside some) c.in-Some.k c.in-Some.ensures.0 c.in-Some.ensures.1

pub loop-i-preserved : goal.loop-i-preserved
loop-i-preserved c = cutting_miss c.loop-i.fresh c.loop-i.invariant (omega arith) c.in_default.ensures

pub returns : goal.returns
returns c = over-end (cut-done _ _ (over-done c.loop-i.invariant (omega arith))) c.loop-i.invariant
