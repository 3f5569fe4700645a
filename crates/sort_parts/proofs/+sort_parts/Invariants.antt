-- `sort_parts::sort_parts` meets its contract: before the merge both halves are sorted (`Halves`); they are merged, or laid in turn. The measure
-- is how many are sorted.
-- Assumes nothing.
use Rattle.sort_parts.proofs.+sort_parts.Given as goal

abbrev pub decreases-sort_parts : goal.decreases-sort_parts
decreases-sort_parts l = l.k
