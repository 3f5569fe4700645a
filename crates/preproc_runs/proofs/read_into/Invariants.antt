-- `read_into`: what is still to come is `keep` of the code points of what is left. `Part`, over two slices.
-- Assumes nothing.
use mathlib.Core.Bool.{not}
use lib.ListN.{length}
use Rattle.lists.proofs.WriteLaws.{Part}
use Rattle.rules.specs.Bytes.{keep}
use Rattle.rules.specs.Points.{points}
use Rattle.slices.specs.Classes.{in_class}
use Rattle.preproc_runs.proofs.read_into.Given as goal

abbrev pub invariant-loop-p : goal.invariant-loop-p
invariant-loop-p l = Part (keep (λ x. not (in_class l.class l.lo l.hi x)) (points l.src)) (keep (λ x. not (in_class l.class l.lo l.hi x)) (points l.rest)) l.initial.dst l.dst l.w

abbrev pub decreases-loop-p : goal.decreases-loop-p
decreases-loop-p l = length l.rest
