-- The cycle: OR level, AND level and operand. What each loop keeps is Anding and Oring (LevelLaws); measures are three times the bytes left, and one and
-- two more for the two levels.
-- Assumes nothing.
use Prim.Native.Nat.{◌+◌, ◌-◌, ◌*◌}
use lib.ListN.{length}
use Rattle.expression_levels.proofs.LevelLaws.{Anding, Oring}
use Rattle.expression_levels.proofs.+and_level_operand_or_level.Given as goal

abbrev pub decreases-and_level : goal.decreases-and_level
decreases-and_level l = 3 * (length l.text.now - l.at) + 1

abbrev pub decreases-operand : goal.decreases-operand
decreases-operand l = 3 * (length l.text.now - l.at)

abbrev pub decreases-or_level : goal.decreases-or_level
decreases-or_level l = 3 * (length l.text.now - l.at) + 2

abbrev pub invariant-and_level-loop-v : goal.invariant-and_level-loop-v
invariant-and_level-loop-v l = Anding l.list l.text l.fn.out l.at l.depth l.o l.from l.all l.alone l.end l.out

abbrev pub decreases-and_level-loop-v : goal.decreases-and_level-loop-v
decreases-and_level-loop-v l = length l.text - l.from

abbrev pub invariant-or_level-loop-v : goal.invariant-or_level-loop-v
invariant-or_level-loop-v l = Oring l.list l.text l.fn.out l.at l.depth l.o l.from l.any l.several l.end l.out

abbrev pub decreases-or_level-loop-v : goal.decreases-or_level-loop-v
decreases-or_level-loop-v l = length l.text - l.from
