-- `put_rest`: the walk of JoinLaws.
-- Assumes nothing.
use Rattle.preproc_join.proofs.JoinLaws.{Joining}
use Rattle.preproc_join.proofs.put_rest.Given as goal

abbrev pub invariant-loop-i : goal.invariant-loop-i
invariant-loop-i l = Joining l.initial.area l.area l.table l.first l.end l.p l.to l.i l.w
