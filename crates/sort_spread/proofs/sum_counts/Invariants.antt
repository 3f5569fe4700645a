-- `sort_spread::sum_counts` meets its contract: its loop is `Summing`.
-- Assumes nothing.
use Rattle.sort_spread.proofs.CountLaws.{Summing}
use Rattle.sort_spread.proofs.sum_counts.Given as goal

abbrev pub invariant-loop-x : goal.invariant-loop-x
invariant-loop-x l = Summing l.initial.x-items l.x-items l.sum l.x-index
