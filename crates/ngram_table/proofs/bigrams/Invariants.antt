-- `ngram_table::bigrams` meets its contract: its loop is `Marking`. The measure is what is left to read.
-- Assumes nothing.
use Rattle.ngram_table.proofs.BigramLaws.{Marking}
use Rattle.ngram_table.proofs.bigrams.Given as goal

abbrev pub invariant-loop-i : goal.invariant-loop-i
invariant-loop-i l = Marking l.text l.initial.p l.p l.k l.word l.i
