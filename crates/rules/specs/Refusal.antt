-- What is refused, first that applies: one ordered list for each public job.
-- Assumes nothing.
use Rattle.std.specs.Prelude.{ℕ, ◌+◌, ◌*◌, ◌/◌, Bool, false, not, ◌&&◌, ◌||◌, cond, List, [], ◌∷◌, ◌++◌, leb, ltb, eqb, length, Float}
use Rattle.std.specs.Float.Ieee.{lt, le}
use Rattle.rules.specs.declared.Areas.{Areas}
use Rattle.rules.specs.declared.Limits.{Limits}
use Rattle.rules.specs.declared.Mode.{Mode}
use Rattle.rules.specs.declared.Mode.TheVariants.{Elimination, TopDown}
use Rattle.rules.specs.Sizes.{text_most, lines_most, byte_area, word_area, record_width, edition_most}
use Rattle.rules.specs.Bytes.{within}
use Rattle.rules.specs.Points.{wide, taken}
use Rattle.rules.specs.Lines.{lines, line_count}
use Rattle.rules.specs.Table.{nought, one}
use Rattle.rules.specs.Search.{View}
use Rattle.rules.specs.Book.{sound, all_sound, shelved, edition_of, differ, compiled}
use Rattle.rules.specs.Scan.{events, scorings}

pub record Row : Type 0 where
  pub number : ℕ
  pub applies : Bool

abbrev pub row : ℕ → Bool → Row
row n b = record { number = n; applies = b }

-- the number of the first row that applies, and 0 for none
unfoldable pub refusal : List Row → ℕ
refusal [] = 0
refusal (r ∷ rs) = let more = refusal rs in cond r.applies r.number more

-- ---- the rows that several jobs share
-- of a text under edition e
unfoldable pub of_text : ℕ → List ℕ → List Row
of_text e t =
    row 1 (ltb text_most (length t)) ∷
    row 2 (not (taken (wide e) t)) ∷
    row 3 (ltb lines_most (line_count t)) ∷ []

-- of all lent books: 4 of any, 5 only where none has a text, 15 where their editions differ
unfoldable pub of_books : List (List ℕ) → List Row
of_books bs =
    row 4 (not (all_sound bs)) ∷
    row 5 (eqb (length (shelved 0 bs)) 0) ∷
    row 15 (differ bs) ∷ []

-- no stored text has the number k
abbrev pub of_number : List (List ℕ) → ℕ → Row
of_number bs k = row 9 (leb (length (shelved 0 bs)) k)

unfoldable pub small : List ℕ → Areas → Bool
small t a = ltb a.bytes (byte_area (length t)) || ltb a.words (word_area (length t))

-- ---- check a book
unfoldable pub of_check : List ℕ → List Row
of_check book = row 4 (not (sound book)) ∷ []

-- ---- compile, under edition e, to an output of so many bytes: first what is refused before any work
unfoldable pub before_compile : ℕ → List ℕ → Areas → List Row
before_compile e t a =
    of_text e t ++
    row 4 (not (within 1 edition_most e)) ∷
    row 10 (small t a) ∷ []

unfoldable pub of_compile : ℕ → List ℕ → Areas → ℕ → List Row
of_compile e t a out = before_compile e t a ++ row 11 (ltb out (length (compiled e t))) ∷ []

-- ---- score, and bounds, of a view against the stored text k
unfoldable pub of_view : List ℕ → List (List ℕ) → View → ℕ → Areas → List Row
of_view t bs v k a =
    of_text (edition_of bs) t ++ of_books bs ++
    row 8 (not (leb v.start v.end && leb v.end (line_count t))) ∷
    of_number bs k ∷
    row 10 (small t a) ∷ []

-- ---- name the stored text k
unfoldable pub of_name : List (List ℕ) → ℕ → List Row
of_name bs k = of_books bs ++ of_number bs k ∷ []

-- ---- scan
-- from 0.0 to 1.0: a NaN is not, and -0.0, which equals 0.0, is
unfoldable pub unit : Float → Bool
unit x = le nought x && le x one

unfoldable pub step_zero : Mode → Bool
step_zero (Elimination optimize p) = false
step_zero (TopDown s) = eqb s 0

-- the most records of a scan of L lines: one a pass, if it optimizes; in top-down one a line, but above 0.0 they leave a line between (`top_down_beside`)
unfoldable pub records_most : ℕ → Limits → Mode → ℕ
records_most l lim (Elimination optimize p) = cond optimize p 0
records_most l lim (TopDown s) = cond (lt nought lim.threshold) ((l + 1) / 2) l

-- the results area that it needs
unfoldable pub results_need : ℕ → Limits → Mode → ℕ
results_need l lim mode = record_width * records_most l lim mode

unfoldable pub over_budget : ℕ → Limits → Mode → List ℕ → List (List ℕ) → Bool
over_budget b lim mode t bs = ltb b (length (scorings (events lim mode (shelved 0 bs) (lines (edition_of bs) t))))

-- with results of so many u32: what is refused before any work
unfoldable pub before_scan : List ℕ → List (List ℕ) → Limits → Mode → Areas → ℕ → List Row
before_scan t bs lim mode a results =
    of_text (edition_of bs) t ++ of_books bs ++
    row 6 (not (unit lim.threshold && unit lim.shallow)) ∷
    row 7 (step_zero mode) ∷
    row 10 (small t a || ltb results (results_need (line_count t) lim mode)) ∷ []

-- with a budget of b scorings
unfoldable pub of_scan : List ℕ → List (List ℕ) → Limits → Mode → ℕ → Areas → ℕ → List Row
of_scan t bs lim mode b a results = before_scan t bs lim mode a results ++ row 12 (over_budget b lim mode t bs) ∷ []
