-- `part_in`: at each step the parts of the lines that are left.
-- Assumes nothing.
use mathlib.Core.Path.{◌≡◌}
use Prim.Native.Nat.{◌+◌, ◌-◌}
use lib.ListN.{length}
use Rattle.rules.specs.Bytes.{split}
use Rattle.expression.specs.Writing.{met_in}
use Rattle.expression_parts.specs.Parts.{part_of}
use Rattle.expression_list.proofs.MeetLaws.{met_from}
use Rattle.expression_list.proofs.part_in.Given as goal

abbrev pub invariant-loop-i : goal.invariant-loop-i
invariant-loop-i l = met_in (part_of l.text l.part) (split 10 l.list) ≡ met_from (part_of l.text l.part) l.list l.i

abbrev pub decreases-loop-i : goal.decreases-loop-i
decreases-loop-i l = length l.list + 1 - l.i
