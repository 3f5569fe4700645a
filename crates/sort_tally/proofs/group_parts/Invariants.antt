-- `sort_tally::group_parts` meets its contract: its loop is `GroupWalk`. The measure is how many are to be seen.
-- Assumes nothing.
use lib.ListN.{take}
use Rattle.sort_spread.specs.Sort.{part_later}
use Rattle.sort_tally.specs.Group.{groups}
use Rattle.sort_tally.proofs.GroupLaws.{GroupWalk}
use Rattle.sort_tally.proofs.group_parts.Given as goal

abbrev pub invariant-loop-i : goal.invariant-loop-i
invariant-loop-i l = GroupWalk (part_later l.cut.mark l.cut.times l.text) (groups (part_later l.cut.mark l.cut.times l.text) (take l.k l.initial.p)) l.initial.p l.p l.k l.i l.d l.start l.count
