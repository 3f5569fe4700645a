-- `ngram_score::value` meets its contract: its score is what `score_of` ensures.
-- Assumes nothing.
use Rattle.std.proofs.Common.{◌+◌}
use Rattle.ngram_score.proofs.value.Goals as goal

pub returns : goal.returns
returns c = let a = c.args in
    λ i. record { score = c.score_of-score.ensures i; m = a.m; t = a.a + a.b }
