-- `ngram_score::score_of` meets its contract. Both whole numbers are at most 2 ^ 24, so each cast is exact, and what is returned is what
-- the definition has. Assumes nothing.
use Rattle.std.proofs.Common.{⊎_elim, arith, eq-eqb, ne_eqb}
use lib.Ieee.{of_bits}
use Rattle.ngram_score.proofs.ScoreCases.{score-first, score-second, score-full, whole-exact}
use Rattle.ngram_score.proofs.score_of.Goals as goal

pub returns-then-a-eq0 : goal.returns-then-a-eq0
unfolding of_bits
returns-then-a-eq0 c = let a = c.args in
    ⊎_elim (λ w. score-first a.m a.a a.b (eq-eqb a.a 0 w))
    (λ w. score-second a.m a.a a.b (ne_eqb a.a 0 w.0) (eq-eqb a.b 0 w.1)) c.then-a-eq0.either

pub int_to_float-result : goal.int_to_float-result
int_to_float-result c = whole-exact _ (omega arith)

pub int_to_float-result-2 : goal.int_to_float-result-2
int_to_float-result-2 c = whole-exact _ (omega arith)

pub returns : goal.returns
returns c = let a = c.args in
    score-full a.m a.a a.b (ne_eqb a.a 0 c.if-a-eq0.false) (ne_eqb a.b 0 c.if-b-eq0.false)
