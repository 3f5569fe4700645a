-- `number_at`: the word's digits, read.
-- Assumes nothing.
use Rattle.questions.specs.Fields.{number_of}
use Rattle.questions.proofs.WordLaws.{word-part}
use Rattle.questions.proofs.fields.number_at.Goals as goal

pub returns : goal.returns
unfolding number_of
returns c = rw (← word-part c.word_at-w.ensures) c.number_of.ensures
