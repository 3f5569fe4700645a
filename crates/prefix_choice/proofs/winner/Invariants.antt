-- `prefix_choice::winner` meets its contract: its loop is `Leading`.
-- Assumes nothing.
use Rattle.prefix_choice.proofs.ReachLaws.{Leading}
use Rattle.prefix_choice.proofs.winner.Given as goal

abbrev pub invariant-loop-i : goal.invariant-loop-i
invariant-loop-i l = Leading l.p l.k l.i l.best
