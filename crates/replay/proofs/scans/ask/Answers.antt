-- `ask`: the book up to its end.
-- Assumes nothing.
use mathlib.Core.Path.{sym}
use lib.Seq.{length-take-le}
use Rattle.replay.proofs.scans.ask.Goals as goal

pub slice_bounds-answer_elimination-end-then-starts_with-2-2 : goal.slice_bounds-answer_elimination-end-then-starts_with-2-2
slice_bounds-answer_elimination-end-then-starts_with-2-2 c = sym (length-take-le _ _ c.requires.0)

pub slice_bounds-answer_top_down-end-then-starts_with-3-2 : goal.slice_bounds-answer_top_down-end-then-starts_with-3-2
slice_bounds-answer_top_down-end-then-starts_with-3-2 c = sym (length-take-le _ _ c.requires.0)
