-- `asked_table`: the text that the word stands for is what was read.
-- Assumes nothing.
use mathlib.Core.Path.{sym}
use lib.Seq.{length-take-le}
use Rattle.replay_tables.proofs.ToldLaws.{table-asked}
use Rattle.replay_tables.proofs.asked_table.Goals as goal
use Rattle.replay_tables.proofs.asked_table.Goals.{Start}

pub slice_bounds-answer_table-end-2 : goal.slice_bounds-answer_table-end-2
slice_bounds-answer_table-end-2 c = sym (length-take-le _ _ c.text_at-n.ensures.within)

pub returns : goal.returns
returns c = let s = (goal.at.returns c).Start in
    let a = rw s.requires at c.text_at-n.ensures.bytes in
    rw (← table-asked _ s.args.line.now _ a) c.answer_table.ensures
