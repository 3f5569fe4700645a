-- `prefix_list::put_prefix` meets its contract: `put-there`.
-- Assumes nothing.
use native.Mathlib.Omega.{arith}
use Rattle.prefix_list.proofs.ListLaws.{put-there}
use Rattle.prefix_list.proofs.put_prefix.Goals as goal

pub returns : goal.returns
returns c = let a = c.args in
    rw c.copy_up-end.ensures.0 (put-there a.area.now _ a.from a.k a.to (omega arith) (omega arith) c.copy_up-end.ensures.1)
