-- `sort_merge::merge` meets its contract: its loop is `Merging`. The measure is how many are to be written.
-- Assumes nothing.
use Prim.Native.Nat.{◌+◌, ◌-◌}
use lib.Seq.{slice}
use Rattle.sort_spread.specs.Sort.{merged, part_later}
use Rattle.sort_spread.proofs.MergeLaws.{Merging}
use Rattle.sort_merge.proofs.merge.Given as goal

abbrev pub invariant-loop-i : goal.invariant-loop-i
invariant-loop-i l = Merging (part_later l.cut.mark l.cut.times l.text) (merged (part_later l.cut.mark l.cut.times l.text) l.k (slice l.k (l.k + l.h) l.initial.p) (slice l.h l.k l.initial.p)) l.initial.p l.p l.k l.h l.m l.i l.j l.w

abbrev pub decreases-loop-i : goal.decreases-loop-i
decreases-loop-i l = l.k - l.w
