-- `answer_elimination`: the text that is scanned is what was read.
-- Assumes nothing.
use mathlib.Core.Path.{sym}
use lib.Seq.{length-take-le}
use Rattle.replay.proofs.scans.answer_elimination.Goals as goal

pub slice_bounds-tell_scan-end-2 : goal.slice_bounds-tell_scan-end-2
slice_bounds-tell_scan-end-2 c = sym (length-take-le _ _ c.text_at-n.ensures.within)
