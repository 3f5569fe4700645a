-- `keep_in`: `Over`, with `keep` of what is left as what is to come.
-- Assumes nothing.
use lib.ListN.{drop}
use Rattle.lists.proofs.InPlaceLaws.{Over}
use Rattle.rules.specs.Bytes.{keep}
use Rattle.slices.specs.Classes.{in_class}
use Rattle.preproc_runs.proofs.keep_in.Given as goal

abbrev pub invariant-loop-i : goal.invariant-loop-i
invariant-loop-i l = Over (keep (in_class l.class l.lo l.hi) l.initial.buf) (keep (in_class l.class l.lo l.hi) (drop l.i l.initial.buf)) l.initial.buf l.buf l.i l.w
