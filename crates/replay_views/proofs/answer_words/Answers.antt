-- `answer_words`: the view and the text that the words stand for are what was read.
-- Assumes nothing.
use mathlib.Core.Path.{sym}
use native.Mathlib.Omega.{arith}
use lib.Seq.{length-take-le}
use Rattle.replay_views.proofs.ToldLaws.{view-asked}
use Rattle.replay_views.proofs.answer_words.Goals as goal
use Rattle.replay_views.proofs.answer_words.Goals.{Start}

pub slice_bounds-answer_view-end-2 : goal.slice_bounds-answer_view-end-2
slice_bounds-answer_view-end-2 c = sym (length-take-le _ _ c.text_at-n.ensures.within)

pub answer_view-requires : goal.answer_view-requires
answer_view-requires c = let s = (goal.at.answer_view-requires c).Start in
    (s.requires.0, omega (arith, length-take-le c.text_at-n.result c.text_at-n.new.text c.text_at-n.ensures.within, c.text_at-n.ensures.within, c.text_at-n.auto.text, s.requires.1))

pub returns : goal.returns
returns c = let s = (goal.at.returns c).Start in
    let t = rw s.requires.1 at c.text_at-n.ensures.bytes in
    rw (← view-asked s.args.edition s.args.line.now _ _ _ c.number_at-start.ensures c.number_at-end.ensures t) c.answer_view.ensures
