use borrow.Author.Tests.{eq-eqb, ne_eqb}
use Rattle.ngram_table.proofs.BigramLaws.{marking_start, marking_room, marking_space, marking_word, marking_end}
use Rattle.ngram_table.proofs.bigrams.Goals as goal
use Rattle.ngram_table.proofs.bigrams.Goals.{then-x-eq-SPACE, else-x-eq-SPACE}

pub loop-i-init : goal.loop-i-init
loop-i-init c = marking_start c.args.text.now c.args.p.now c.requires.text_in_bounds

pub bounds-p-k : goal.bounds-p-k
bounds-p-k c = marking_room c.loop-i.invariant c.loop-i-test.true (eq-eqb _ _ c.if-x-eq-SPACE.true)

pub loop-i-preserved : goal.loop-i-preserved
loop-i-preserved c = elim c.if-x-eq-SPACE.branch [
  | then-x-eq-SPACE w ↦ rw (w.p-is, w.k-is, w.word-is) (marking_space c.loop-i.invariant c.loop-i-test.true (eq-eqb _ _ w.if-x-eq-SPACE.true))
  | else-x-eq-SPACE w ↦ rw (w.p-is, w.k-is, w.word-is) (marking_word c.loop-i.invariant c.loop-i-test.true (ne_eqb _ _ w.if-x-eq-SPACE.false))
]

pub returns : goal.returns
returns c = let e = marking_end c.loop-i.invariant c.loop-i-test.false in
    record { many = e.0; parts = e.1; rest = e.2 }
