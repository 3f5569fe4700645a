-- `holds_word`: from i on the rest decides as the whole does.
-- Assumes nothing.
use mathlib.Core.Path.{◌≡◌}
use lib.ListN.{drop}
use Rattle.rules.specs.Bytes.{holds}
use Rattle.preproc_copyright.proofs.holds_word.Given as goal

abbrev pub invariant-loop-i : goal.invariant-loop-i
invariant-loop-i l = holds l.w (drop l.i l.s) ≡ holds l.w (drop l.at l.s)
