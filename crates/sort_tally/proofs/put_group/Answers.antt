-- `sort_tally::put_group` meets its contract: both places lie in the slice, whose length no store changes.
-- Assumes nothing.
use native.Mathlib.Omega.{arith}
use lib.ListN.{length-set}
use Rattle.sort_tally.proofs.put_group.Goals as goal

pub bounds-p-k : goal.bounds-p-k
bounds-p-k c = simp length-set (omega arith)
