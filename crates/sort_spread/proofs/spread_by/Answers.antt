-- `sort_spread::spread_by` meets its contract: the counts become sums, the sums the first places.
-- Assumes nothing.
use mathlib.Core.List.{List}
use Prim.Native.Nat.{ℕ, ◌+◌}
use native.Mathlib.Omega.{arith}
use lib.Seq.{slice}
use Rattle.lists.proofs.SliceLaws.{part_slice}
use Rattle.lists.proofs.StoreLaws.{length_part}
use Rattle.sort_spread.specs.Spread.{byte_from, keyed, Counters}
use Rattle.sort_spread.proofs.CountLaws.{counters_none, added-most, counters_lower}
use Rattle.sort_spread.proofs.spread_by.Goals as goal
use Rattle.sort_spread.proofs.spread_by.Goals.{After-count_bytes}

pub count_bytes-requires : goal.count_bytes-requires
count_bytes-requires c = let a = c.args in
    record { few = rw part_slice (omega (arith, c.requires.k_in_bounds, length_part a.from a.k a.p.now c.requires.k_in_bounds.0)); counters = counters_none }

-- what is known once they are counted
module _ (q : After-count_bytes) where
  abbrev starts : List ℕ
  starts = slice q.args.from (q.args.from + q.args.k) q.args.p.now

  counted : Counters (keyed (byte_from q.args.d q.args.text.now) starts) q.count_bytes.new.c
  counted = rw part_slice at q.count_bytes.ensures

pub sum_counts-requires : goal.sum_counts-requires
sum_counts-requires c = let count_bytes = (goal.at.sum_counts-requires c).After-count_bytes in
    let a = c.args in
    let h = counted count_bytes in
    (h.all, omega (arith, c.requires.k_in_bounds, added-most (byte_from a.d a.text.now) (starts count_bytes) _ h, length_part a.from a.k a.p.now c.requires.k_in_bounds.0))

pub place_starts-requires : goal.place_starts-requires
place_starts-requires c = let count_bytes = (goal.at.place_starts-requires c).After-count_bytes in
    let a = c.args in
    record { k_in_bounds = c.requires.k_in_bounds; fact = c.requires.fact; counters = counters_lower (byte_from a.d a.text.now) (starts count_bytes) _ (counted count_bytes) _ c.sum_counts.ensures }
