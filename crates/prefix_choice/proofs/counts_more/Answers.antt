-- `prefix_choice::counts_more` meets its contract.
-- Assumes nothing.
use native.Mathlib.Omega.{arith}
use Rattle.prefix_choice.proofs.ReachLaws.{told_counts, told_tie}
use Rattle.prefix_choice.proofs.counts_more.Goals as goal

pub returns-then-p-k : goal.returns-then-p-k
returns-then-p-k c = told_counts _ _ _ _ c.if-p-k.true

pub returns : goal.returns
returns c = told_tie _ _ _ _ (omega arith) (omega arith)
