-- `prefix_choice::group_prefixes` meets its contract: the groups are those of the sorted starts.
-- Assumes nothing.
use Rattle.prefix_choice.proofs.group_prefixes.Goals as goal

pub returns : goal.returns
returns c = rw c.sort_parts.ensures.sorted at c.group_parts.ensures.groups
