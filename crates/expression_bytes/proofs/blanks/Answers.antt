-- `blanks`: the place behind a run of blanks is in the text, so that it fits.
-- Assumes nothing.
use native.Mathlib.Omega.{arith}
use lib.Dec.{eqb}
use lib.ListN.{drop, length-drop}
use Rattle.rules.proofs.PlaceLaws.{lead-most}
use Rattle.expression_bytes.proofs.blanks.Goals as goal

pub overflow_add-result : goal.overflow_add-result
overflow_add-result c = let a = c.args in
    record { fits = omega (arith, c.byte_run.ensures, lead-most (eqb 32) (drop a.at a.text.now), length-drop a.at a.text.now, c.requires, c.well_formed.0.0) }
