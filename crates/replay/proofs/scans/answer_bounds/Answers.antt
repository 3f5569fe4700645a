-- `answer_bounds`: the texts are what was read, and the licence's book is a part of what was written.
-- Assumes nothing.
use mathlib.Core.Path.{sym}
use lib.Seq.{length-take-le}
use Rattle.replay.proofs.scans.answer_bounds.Goals as goal

pub slice_bounds-put_text-end-2 : goal.slice_bounds-put_text-end-2
slice_bounds-put_text-end-2 c = sym (length-take-le _ _ c.text_at-m.ensures.within)

pub slice_bounds-tell_bounds-end-2 : goal.slice_bounds-tell_bounds-end-2
slice_bounds-tell_bounds-end-2 c = sym (length-take-le _ _ c.text_at-n.ensures.within)
