-- `answer_word`: the text that the word stands for is what was read.
-- Assumes nothing.
use mathlib.Core.Path.{sym}
use native.Mathlib.Omega.{arith}
use lib.Seq.{length-take-le}
use Rattle.replay_lines.proofs.answer_word.Goals as goal
use Rattle.replay_lines.proofs.answer_word.Goals.{Start}

pub slice_bounds-answer_text-end-2 : goal.slice_bounds-answer_text-end-2
slice_bounds-answer_text-end-2 c = sym (length-take-le _ _ c.text_at-n.ensures.within)

pub answer_text-requires : goal.answer_text-requires
answer_text-requires c = let t = (goal.at.answer_text-requires c).Start in
    let h = c.text_at-n.ensures.within in
    (t.requires.0, omega (arith, length-take-le c.text_at-n.result c.text_at-n.new.text h, h, c.text_at-n.auto.text, t.requires.1))

pub returns : goal.returns
returns c = let s = (goal.at.returns c).Start in
    rw (← s.requires.1, ← c.text_at-n.ensures.bytes) c.answer_text.ensures
