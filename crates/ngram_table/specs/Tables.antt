-- The table that stands in p over the text s: k starts of bigrams sorted and grouped, d distinct ones at [0, d), their counts at [k, k + d).
-- Assumes nothing.
use Rattle.std.specs.Prelude.{List, ℕ}
use Rattle.rules.specs.Table.{Table}
use Rattle.sort_tally.specs.Group.{entries_at}

unfoldable pub table_at : List ℕ → List ℕ → ℕ → ℕ → Table
table_at s p k d = record { total = k; entries = entries_at 32 2 s p k d }
