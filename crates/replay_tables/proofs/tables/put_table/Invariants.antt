-- `put_table`: its loop is `Telling`.
-- Assumes nothing.
use mathlib.Core.Path.{◌≡◌}
use Prim.Native.Nat.{◌-◌}
use lib.ListN.{length}
use Rattle.replay_tables.proofs.WalkLaws.{Telling, whole_of}
use Rattle.replay_tables.proofs.tables.put_table.Given as goal

abbrev pub invariant-loop-at : goal.invariant-loop-at
invariant-loop-at l = Telling l.body (whole_of l.body) l.out l.at l.w × (length l.out ≡ length l.initial.out)

abbrev pub decreases-loop-at : goal.decreases-loop-at
decreases-loop-at l = length l.body - l.at
