-- `add`: the text that is added is what was read.
-- Assumes nothing.
use mathlib.Core.Path.{sym}
use lib.Seq.{length-take-le}
use Rattle.replay.proofs.scans.add.Goals as goal

pub slice_bounds-put_text-end-2 : goal.slice_bounds-put_text-end-2
slice_bounds-put_text-end-2 c = sym (length-take-le _ _ c.text_at-n.ensures.within)
