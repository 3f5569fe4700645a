-- The definition's score by its cases: a table is empty, or none is. And where a whole number is a float exactly.
-- Assumes nothing.
use Rattle.std.proofs.Common.{◌≡◌, ℕ, ◌+◌, ◌*◌, ◌≤◌, true, false, T, eqb, pos, le→leb}
use lib.Ieee.{binary32, div, of_int, in_float}
use Rattle.rules.specs.Table.{nought, float, score}

-- up to 2 ^ 24
pub whole-exact : (n : ℕ) → n ≤ 16777216 → T (in_float binary32 (pos n))
unfolding in_float
whole-exact n h = le→leb n 16777216 h

module _ (m a b : ℕ) where
  pub score-first : eqb a 0 ≡ true → nought ≡ score m a b
  unfolding score
  score-first e = rw e

  pub score-second : eqb a 0 ≡ false → eqb b 0 ≡ true → nought ≡ score m a b
  unfolding score
  score-second e f = rw (e, f)

  pub score-full : eqb a 0 ≡ false → eqb b 0 ≡ false → div binary32 (of_int binary32 (pos (2 * m))) (of_int binary32 (pos (a + b))) ≡ score m a b
  unfolding score float
  score-full e f = rw (e, f)
