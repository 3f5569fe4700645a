-- `lower_in`: the reader and the writer go together.
-- Assumes nothing.
use mathlib.Core.List.{map}
use lib.ListN.{drop}
use Rattle.lists.proofs.InPlaceLaws.{Over}
use Rattle.rules.specs.Passes.{lowered}
use Rattle.preproc_view.proofs.passes.lower_in.Given as goal

abbrev pub invariant-loop-b : goal.invariant-loop-b
invariant-loop-b l = Over (map lowered l.initial.buf) (map lowered (drop l.b-index l.initial.buf)) l.initial.buf l.buf l.b-index l.b-index
