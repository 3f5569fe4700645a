-- `answer_text`: no answer to a text that is refused, and the lines of any other.
-- Assumes nothing.
use mathlib.Core.Path.{sym, ◌∙◌}
use native.Mathlib.Omega.{arith}
use Rattle.lists.proofs.ChainLaws.{front_of}
use Rattle.slices.proofs.KindLaws.{edition-classes, edition-lines}
use Rattle.questions.proofs.PutLaws.{front-none}
use Rattle.rules.specs.Told.{number_told}
use Rattle.rules.proofs.ToldLaws.{numbered}
use Rattle.replay_lines.proofs.ToldLaws.{told-length, few-lines, apart_wider, answer-none, answer-some}
use borrow.Author.Rules.{rules}
use Rattle.replay_lines.proofs.answer_text.Goals as goal

pub returns-in_default : goal.returns-in_default
unfolding number_told
returns-in_default c = front-none (answer-none _ _ (λ e. numbered c.in_default.field-0 (c.in_default.ensures.number ∙ e)))

pub normalise-count-requires : goal.normalise-count-requires
normalise-count-requires c = let l = edition-classes _ c.requires.0 in
    search rules

pub put_lines-requires : goal.put_lines-requires
put_lines-requires c = let p = c.normalise-count.ensures.apart in
    (omega arith, omega (arith, few-lines c.normalise-count.result p), apart_wider _ (omega arith) p, omega (arith, told-length c.normalise-count.new.area c.normalise-count.new.words p))

pub returns : goal.returns
unfolding number_told
returns c = let s = c.args.text.now in
    let lines = c.normalise-count.ensures.lines ∙ edition-lines c.args.edition c.args.class.now s c.requires.0 in
    rw (answer-some c.args.edition s (sym c.in-Ok.ensures.number), ← lines) (front_of c.put_lines.ensures)
