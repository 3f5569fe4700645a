-- `cap_runs`: `Over`, with `capped` of what is left as what is to come.
-- Assumes nothing.
use Prim.Native.Nat.{◌≤◌}
use lib.ListN.{drop}
use Rattle.lists.proofs.InPlaceLaws.{Over}
use Rattle.slices.specs.Classes.{in_class}
use Rattle.preproc_runs.specs.Capped.{capped}
use Rattle.preproc_runs.proofs.cap_runs.Given as goal

abbrev pub invariant-loop-i : goal.invariant-loop-i
invariant-loop-i l = (l.k ≤ l.i) × Over (capped (in_class l.class l.lo l.hi) l.rep l.most 0 l.initial.buf) (capped (in_class l.class l.lo l.hi) l.rep l.most l.k (drop l.i l.initial.buf)) l.initial.buf l.buf l.i l.w
