-- A list of events under what is left of a budget: what it records, and what is then left, if the budget pays all. What a scan works on,
-- and how it ends.
-- Assumes nothing.
use Rattle.std.specs.Prelude.{◌≡◌, ℕ, ◌-◌, ◌*◌, ◌≤◌, ◌<◌, true, false, cond, List, T, leb, length, None, Some}
use Rattle.std.specs.Prelude as prelude
use Rattle.std.proofs.Math.Option.{Option, none, some}
use Rattle.lists.specs.Wrote.{Wrote}
use Rattle.rules.specs.declared.View.{View}
use Rattle.rules.specs.Sizes.{lines_most, record_width}
use Rattle.rules.specs.declared.Bounds.{Bounds}
use Rattle.rules.specs.Search.{bounds, blank, whole, best}
use Rattle.rules.specs.Scan.{Event, afford, scorings, records, numbers}
use Rattle.rules.specs.Refusal.{unit}
use Rattle.slices.specs.Classes.{Classes}
use Rattle.preproc_table.specs.Entries.{lines_at}
use Rattle.license_charge.specs.declared.Charged.{Charged}
use Rattle.license_charge.specs.Pay.{pay, charged_of}
use Rattle.license_notes.specs.Laid.{Laid, Held}
use Rattle.detection_shelf.specs.declared.Shelved.{Shelved}
use Rattle.detect_best.specs.declared.Best.{Best}
use Rattle.detect.specs.Bests.{chosen_in, ChosenStands}
use Rattle.detection_shelf.specs.Shelves.{Shelf, texts, CountsOf, text_in}
use Rattle.scan_ranges.specs.declared.Scope.{Scope}
use Rattle.scan_ranges.specs.declared.Run.{Run}

-- the numbers that it writes to the results area, of a note with the bytes t
unfoldable pub paid_numbers : List ℕ → ℕ → List Event → List ℕ
paid_numbers t b es = numbers t (records (afford b es))

-- the scorings left, or none where the budget is out
unfoldable pub left_over : ℕ → List Event → Option ℕ
left_over b es = cond (leb (length (scorings es)) b) (some (b - length (scorings es))) none

-- what stands ready for a scan: a note's lines in the areas, and a sound books with a text
pub record Scanning (scope : Scope) (class area words : List ℕ) (books : Shelf) : Type 0 where
  pub classes : Classes class
  pub laid : Laid scope.n scope.lines area words
  pub few : scope.lines ≤ lines_most
  pub counted : CountsOf books scope.texts
  pub some-text : 0 < length (texts books)

-- the bounds of a view against a stored text, paid from the budget; the areas still hold the same lines
pub record RangeDone (scope : Scope) (class area₀ words₀ area words : List ℕ) (v : View) (books : Shelf) (text : Shelved) (budget : ℕ) (r : prelude.Option (Charged Bounds)) : Type 0 where
  pub is : r ≡ charged_of (pay (bounds (lines_at area₀ words₀ scope.lines) v (text_in books text)) budget)
  pub held : Held scope.n scope.lines area₀ words₀ area words

-- a range of the lines, with a score from 0.0 to 1.0
pub record RangeFits (lines : ℕ) (range : Bounds) : Type 0 where
  pub order : range.first ≤ range.after
  pub high : range.after ≤ lines
  pub unit : T (unit range.value.score)

-- the best of all lines, those in range made blank, paid from the budget; the areas hold these lines
pub record BestWithout (scope : Scope) (class area₀ words₀ area words : List ℕ) (books : Shelf) (range : Bounds) (budget : ℕ) (r : prelude.Option (Charged (prelude.Option Best))) : Type 0 where
  pub is :
      let rest = blank range.first range.after (lines_at area₀ words₀ scope.lines) in
      chosen_in books r ≡ pay (best (texts books) rest (whole rest)) budget
  pub lines : lines_at area words scope.lines ≡ blank range.first range.after (lines_at area₀ words₀ scope.lines)
  pub stands : ChosenStands books r
  pub ready : Scanning scope class area words books
  pub area_long : length area ≡ length area₀
  pub words_long : length words ≡ length words₀

-- how a run with so many records ends
unfoldable pub run_of : ℕ → Option ℕ → Run
run_of k none = record { records = k; left = None }
run_of k (some l) = record { records = k; left = Some (record { count = l }) }

-- x is how these events end under the budget; the results area holds their records, of the note t, and is otherwise as it was
pub record Ran (t : List ℕ) (es : List Event) (budget : ℕ) (r₀ r : List ℕ) (x : Run) : Type 0 where
  pub wrote : Wrote (paid_numbers t budget es) r₀ (record_width * x.records) r
  pub run : x ≡ run_of x.records (left_over budget es)
