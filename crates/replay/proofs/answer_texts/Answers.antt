-- `answer_texts`: what each answer says it has written is what is handed to the output.
-- Assumes nothing.
use mathlib.Core.Path.{sym}
use lib.Seq.{length-take-le}
use Rattle.replay.proofs.answer_texts.Goals as goal

pub slice_bounds-write_all-end : goal.slice_bounds-write_all-end
slice_bounds-write_all-end c = sym (length-take-le _ _ c.answer-lines.ensures.within)

pub slice_bounds-write_all-end-2 : goal.slice_bounds-write_all-end-2
slice_bounds-write_all-end-2 c = sym (length-take-le _ _ c.answer-view.ensures.within)

pub slice_bounds-write_all-end-3 : goal.slice_bounds-write_all-end-3
slice_bounds-write_all-end-3 c = sym (length-take-le _ _ c.answer-table.ensures.within)

pub answer-score-requires : goal.answer-score-requires
answer-score-requires c = c.class_table-class.ensures

pub slice_bounds-write_all-end-4 : goal.slice_bounds-write_all-end-4
slice_bounds-write_all-end-4 c = sym (length-take-le _ _ c.answer-score.ensures.within)
