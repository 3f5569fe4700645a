use Prim.Native.Nat.{◌+◌, ◌<◌}
use native.Mathlib.Omega.{arith}
use Rattle.sort_spread.proofs.PassLaws.{placing_start, placing_place, placing_next, placing_end}
use Rattle.sort_spread.proofs.place_starts.Goals as goal
use Rattle.sort_spread.proofs.place_starts.Goals.{After-wide}

-- the places that the answers speak of, once the counter is read
module _ (x : After-wide) where
  -- the counter's place is one of the k
  place : x.wide.result < x.args.k
  place =
      omega (arith, x.wide.ensures, placing_place x.loop-i.invariant x.loop-i-test.true x.byte_from-b.result x.byte_from-b.ensures.1 x.byte_from-b.ensures.0)

pub loop-i-init : goal.loop-i-init
loop-i-init c = placing_start _ _ _ _ _ _ c.requires.k_in_bounds.0 c.requires.k_in_bounds.1 c.requires.fact c.requires.counters

pub overflow_add-p : goal.overflow_add-p
overflow_add-p c = omega (arith, place (goal.at.overflow_add-p c).After-wide, c.loop-i.invariant.room, c.well_formed)

pub offset_bounds-p-to : goal.offset_bounds-p-to
offset_bounds-p-to c = omega (arith, place (goal.at.offset_bounds-p-to c).After-wide, c.loop-i.invariant.room, c.well_formed)

pub bounds-p-to : goal.bounds-p-to
bounds-p-to c = let v = c.loop-i.invariant in
    omega (arith, place (goal.at.bounds-p-to c).After-wide, v.room, v.long)

pub overflow_add-c : goal.overflow_add-c
overflow_add-c c = omega (arith, place (goal.at.overflow_add-c c).After-wide, c.wide.ensures, c.requires.k_in_bounds)

pub loop-i-preserved : goal.loop-i-preserved
loop-i-preserved c = placing_next c.loop-i.invariant c.loop-i-test.true c.byte_from-b.result c.wide.result c.byte_from-b.ensures.0 c.byte_from-b.ensures.1 c.wide.ensures

pub returns : goal.returns
returns c = let both = let a = c.args in
    let k = c.shared_slice_known-1.given in
    placing_end c.loop-i.invariant c.loop-i-test.false (λ x. omega (arith, k (x + a.d))) in record { same = both.0; rest = both.1 }
