-- `answer_score`: the score against what compile wrote.
-- Assumes nothing.
use mathlib.Core.Path.{refl, sym}
use native.Mathlib.Omega.{arith}
use lib.Seq.{length-take-le}
use Rattle.questions.proofs.PutLaws.{front-none}
use Rattle.rules.proofs.ToldLaws.{numbered}
use Rattle.replay_tables.proofs.MadeLaws.{TableMade, not_made, made}
use Rattle.replay_scores.proofs.ToldLaws.{no_licence, right_licence}
use Rattle.replay_scores.proofs.answer_score.Goals as goal
use Rattle.replay_scores.proofs.answer_score.Goals.{In-Ok}

module _ (k : In-Ok) where
  -- what compile wrote
  written : TableMade k.args.edition k.args.licence.now k.in-Ok.len k.compile.new.out
  written = made k.in-Ok.ensures (omega arith) (omega arith) k.requires.2 refl

pub returns-in_default : goal.returns-in_default
returns-in_default c = front-none (no_licence _ _ _ _ _ (not_made c.in_default.ensures (omega arith) (omega arith) c.requires.2 (numbered c.in_default.field-0)))

pub slice_bounds-answer_view-end : goal.slice_bounds-answer_view-end
slice_bounds-answer_view-end c = (written (goal.at.slice_bounds-answer_view-end c).In-Ok).within

pub slice_bounds-answer_view-end-2 : goal.slice_bounds-answer_view-end-2
slice_bounds-answer_view-end-2 c = sym (length-take-le _ _ (written (goal.at.slice_bounds-answer_view-end-2 c).In-Ok).within)

pub answer_view-requires : goal.answer_view-requires
answer_view-requires c = (c.requires.0, c.requires.1, (written (goal.at.answer_view-requires c).In-Ok).sound, omega arith)

pub returns : goal.returns
returns c = let w = written (goal.at.returns c).In-Ok in
    let s = c.args in
    rw (right_licence s.edition s.start s.end s.text.now s.licence.now w.here, ← w.table) c.answer_view.ensures
