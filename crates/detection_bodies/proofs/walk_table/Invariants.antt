-- `detection_bodies::walk_table` meets its contract: entry by entry. The loop's invariant is `EntryRun`: the rest of the entries, after those that were read, is what the body is worth.
-- Assumes nothing.
use Rattle.detection_bodies.proofs.EntryLaws.{EntryRun}
use lib.ListN.{length}
use Prim.Native.Nat.{◌-◌}
use Rattle.detection_bodies.proofs.walk_table.Given as goal

abbrev pub invariant-loop-found : goal.invariant-loop-found
invariant-loop-found l = EntryRun l.wide l.body l.at l.last l.sum l.entries

abbrev pub decreases-loop-found : goal.decreases-loop-found
decreases-loop-found l = length l.body - l.at
