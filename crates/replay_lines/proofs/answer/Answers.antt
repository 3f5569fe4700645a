-- `answer`: a question on lines, or another.
-- Assumes nothing.
use mathlib.Core.Bool.{not}
use mathlib.Core.Path.{sym, ◌∙◌, ap}
use borrow.Author.Tests.{not-true, not-false}
use Rattle.rules.specs.Bytes.{text}
use Rattle.questions.proofs.PutLaws.{front-none}
use Rattle.replay_lines.proofs.ToldLaws.{other_question, right_question}
use Rattle.replay_lines.proofs.answer.Goals as goal

pub returns-then-not-starts_with : goal.returns-then-not-starts_with
unfolding text
returns-then-not-starts_with c = front-none (other_question _ _ (sym c.starts_with.ensures ∙ not-true _ (ap not c.if-not-starts_with.true)))

pub returns : goal.returns
unfolding text
returns c = let q = c.args.line.now in
    rw (right_question _ q (sym c.starts_with.ensures ∙ not-false _ (ap not c.if-not-starts_with.false))) c.answer_word.ensures
