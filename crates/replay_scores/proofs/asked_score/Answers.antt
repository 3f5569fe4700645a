-- `asked_score`: the view and the texts that the words stand for are what was read.
-- Assumes nothing.
use mathlib.Core.Path.{sym}
use native.Mathlib.Omega.{arith}
use lib.Seq.{length-take-le}
use Rattle.replay_scores.proofs.ToldLaws.{score-asked}
use Rattle.replay_scores.proofs.asked_score.Goals as goal
use Rattle.replay_scores.proofs.asked_score.Goals.{Start}

pub slice_bounds-answer_score-end-2 : goal.slice_bounds-answer_score-end-2
slice_bounds-answer_score-end-2 c = sym (length-take-le _ _ c.text_at-n.ensures.within)

pub slice_bounds-answer_score-end-4 : goal.slice_bounds-answer_score-end-4
slice_bounds-answer_score-end-4 c = sym (length-take-le _ _ c.text_at-m.ensures.within)

pub answer_score-requires : goal.answer_score-requires
answer_score-requires c = let s = (goal.at.answer_score-requires c).Start in
    (s.requires.0, omega (arith, length-take-le c.text_at-n.result c.text_at-n.new.text c.text_at-n.ensures.within, c.text_at-n.ensures.within, c.text_at-n.auto.text, s.requires.1), omega arith)

pub returns : goal.returns
returns c = let l = c.text_at-m.ensures.bytes in
    let u = c.text_at-n.ensures.bytes in
    let s = (goal.at.returns c).Start in
    let a = rw s.requires.1 at u in
    let b = rw s.requires.2 at l in
    rw (← score-asked s.args.edition s.args.line.now _ _ _ _ c.number_at-start.ensures c.number_at-end.ensures a b) c.answer_score.ensures
