-- `detection_texts::texts::stored_at` meets its contract: the text is the book's of the number of turns, and the walk goes on after it.
-- Assumes nothing.
use Rattle.detection_texts.specs.Texts.{Found}
use Rattle.detection_texts.proofs.texts.stored_at.Given as goal

abbrev pub invariant-loop : goal.invariant-loop
invariant-loop l = Found l.book l.counter l.text
