-- `prefix_choice::reach` meets its contract: its loop is `Reaching`.
-- Assumes nothing.
use Rattle.prefix_choice.proofs.ReachLaws.{Reaching}
use Rattle.prefix_choice.proofs.reach.Given as goal

abbrev pub invariant-loop-j : goal.invariant-loop-j
invariant-loop-j l = Reaching l.text l.p l.w l.k l.d l.sum l.j
