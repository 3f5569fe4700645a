-- `title_line`: from i on the line decides as the whole does.
-- Assumes nothing.
use mathlib.Core.Path.{◌≡◌}
use lib.ListN.{drop}
use Rattle.rules.specs.Passes.{title_line}
use Rattle.preproc_title.proofs.title_line.Given as goal

abbrev pub invariant-loop-i : goal.invariant-loop-i
invariant-loop-i l = title_line (drop l.i l.line) ≡ title_line l.line
