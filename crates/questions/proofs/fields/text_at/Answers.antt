-- `text_at`: what is read of the word are its first bytes.
-- Assumes nothing.
use Rattle.lists.proofs.ChainLaws.{front_of}
use Rattle.questions.specs.Fields.{text_of}
use Rattle.questions.proofs.WordLaws.{word-front}
use Rattle.questions.proofs.fields.text_at.Goals as goal

pub returns : goal.returns
unfolding text_of
returns c = rw (← word-front c.word_at-w.ensures _ _ c.read_end-e.ensures) (front_of c.unhex.ensures)
