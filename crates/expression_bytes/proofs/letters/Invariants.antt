-- `letters`: n letters of the word stand there.
-- Assumes nothing.
use Rattle.expression_bytes.proofs.FrontLaws.{Spelt}
use Rattle.expression_bytes.proofs.letters.Given as goal

abbrev pub invariant-loop-n : goal.invariant-loop-n
invariant-loop-n l = Spelt l.word l.left l.n
