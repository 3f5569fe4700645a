-- The rows of compile, of a view and of a scan behind those of the text and the books, over numbers.
-- Assumes nothing.
use Rattle.std.specs.Prelude.{ℕ, Bool, not, ◌&&◌, ◌||◌, List, [], ◌∷◌, leb, ltb}
use Rattle.rules.specs.declared.Areas.{Areas}
use Rattle.rules.specs.declared.Limits.{Limits}
use Rattle.rules.specs.declared.Mode.{Mode}
use Rattle.rules.specs.declared.View.{View}
use Rattle.rules.specs.Sizes.{edition_most, byte_area, word_area}
use Rattle.rules.specs.Bytes.{within}
use Rattle.rules.specs.Refusal.{Row, row, unit, step_zero, results_need}

-- the rows that follow those, over the text's length, L and N
abbrev pub small_for : ℕ → Areas → Bool
small_for n a = ltb a.bytes (byte_area n) || ltb a.words (word_area n)

unfoldable pub compile_rows : (n e : ℕ) → Areas → List Row
compile_rows n e a =
    row 4 (not (within 1 edition_most e)) ∷
    row 10 (small_for n a) ∷ []

unfoldable pub view_rows : (n lines texts : ℕ) → View → ℕ → Areas → List Row
view_rows n lines texts v k a =
    row 8 (not (leb v.start v.end && leb v.end lines)) ∷
    row 9 (leb texts k) ∷
    row 10 (small_for n a) ∷ []

unfoldable pub scan_rows : (n lines : ℕ) → Limits → Mode → Areas → ℕ → List Row
scan_rows n lines lim mode a results =
    row 6 (not (unit lim.threshold && unit lim.shallow)) ∷
    row 7 (step_zero mode) ∷
    row 10 (small_for n a || ltb results (results_need lines lim mode)) ∷ []
