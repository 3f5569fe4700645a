-- `put_lines`: what is still to come is what the lines that are left are told as.
-- Assumes nothing.
use mathlib.Core.Path.{◌≡◌}
use Prim.Native.Nat.{◌-◌, ◌≤◌}
use lib.ListN.{length}
use Rattle.lists.proofs.WriteLaws.{Part}
use Rattle.preproc_table.specs.Entries.{lines_from, lines_at}
use Rattle.replay_lines.specs.Told.{told}
use Rattle.replay_lines.proofs.put_lines.Given as goal

abbrev pub invariant-loop-i : goal.invariant-loop-i
invariant-loop-i l = (length l.scratch ≡ length l.initial.scratch) × (l.i ≤ l.count) × Part (told (lines_at l.area l.table l.count)) (told (lines_from l.area l.table l.i (l.count - l.i))) l.initial.out l.out l.w
