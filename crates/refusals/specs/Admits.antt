-- What is let through before any work: the first row that applies, and where none does, L and N, and what then holds.
-- Assumes nothing.
use Rattle.std.specs.Prelude.{◌≡◌, ℕ, ◌≤◌, ◌<◌, true, false, List, ◌++◌, length, Option, Result, IfOk}
use Rattle.rules.specs.declared.Areas.{Areas}
use Rattle.rules.specs.declared.Limits.{Limits}
use Rattle.rules.specs.declared.Mode.{Mode}
use Rattle.rules.specs.declared.View.{View}
use Rattle.rules.specs.Sizes.{lines_most, byte_area, word_area}
use Rattle.rules.specs.Lines.{line_count}
use Rattle.rules.specs.Book.{edition_of}
use Rattle.rules.specs.Refusal.{Row, refusal, of_text, of_books, of_view, before_scan, unit, step_zero, results_need}
use Rattle.rules.specs.declared.Refusal.{Refusal}
use Rattle.rules.specs.Told.{number_told}
use Rattle.preproc_test.specs.Counts.{Passed}
use Rattle.detection_shelf.specs.Shelves.{Shelf, texts, CountsOf}
use Rattle.detection_shelf.specs.declared.Counts.{Counts}
use Rattle.refusals.specs.declared.Admitted.{Admitted}
use Rattle.refusals.specs.Lent.{books_lent, shelf_lent}

-- of the lent books alone
pub record AdmitsShelf (book : List ℕ) (second : Option (List ℕ)) (r : Result Counts Refusal) : Type 0 where
  pub number : number_told r ≡ refusal (of_books (books_lent book second))
  pub texts : IfOk r (λ x. CountsOf (shelf_lent book second) x)

pub record Admits (t : List ℕ) (books : Shelf) (rows : List Row) (r : Result Admitted Refusal) : Type 0 where
  pub number : number_told r ≡ refusal rows
  pub lines : IfOk r (λ x. x.lines ≡ line_count t)
  pub texts : IfOk r (λ x. CountsOf books x.texts)

-- refusals 1 to 5 and 15, which the jobs share: the rows of the books that are lent
abbrev pub both_rows : (t : List ℕ) (bs : List (List ℕ)) → List Row
both_rows t bs = of_text (edition_of bs) t ++ of_books bs

abbrev pub AdmitsBooks : (t book : List ℕ) (second : Option (List ℕ)) (r : Result Admitted Refusal) → Type 0
AdmitsBooks t book second r = Admits t (shelf_lent book second) (both_rows t (books_lent book second)) r

abbrev pub AdmitsView : (t book : List ℕ) (second : Option (List ℕ)) (v : View) (k : ℕ) (a : Areas) (r : Result Admitted Refusal) → Type 0
AdmitsView t book second v k a r = Admits t (shelf_lent book second) (of_view t (books_lent book second) v k a) r

abbrev pub AdmitsScan : (t book : List ℕ) (second : Option (List ℕ)) (lim : Limits) (mode : Mode) (a : Areas) (results : ℕ) (r : Result Admitted Refusal) → Type 0
AdmitsScan t book second lim mode a results r = Admits t (shelf_lent book second) (before_scan t (books_lent book second) lim mode a results) r

-- ---- what holds of what is let through, whichever rows it passed: below the refusals the work asks this and no more
pub record Through (t : List ℕ) (books : Shelf) : Type 0 where
  pub text : Passed t
  pub few : line_count t ≤ lines_most
  pub some : 0 < length (texts books)

pub record ViewThrough (t : List ℕ) (books : Shelf) (v : View) (k : ℕ) (a : Areas) : Type 0 where
  pub both : Through t books
  pub start : v.start ≤ v.end
  pub end : v.end ≤ line_count t
  pub number : k < length (texts books)
  pub bytes : byte_area (length t) ≤ a.bytes
  pub words : word_area (length t) ≤ a.words

pub record ScanThrough (t : List ℕ) (books : Shelf) (lim : Limits) (mode : Mode) (a : Areas) (results : ℕ) : Type 0 where
  pub both : Through t books
  pub threshold : unit lim.threshold ≡ true
  pub shallow : unit lim.shallow ≡ true
  pub step : step_zero mode ≡ false
  pub bytes : byte_area (length t) ≤ a.bytes
  pub words : word_area (length t) ≤ a.words
  pub room : results_need (line_count t) lim mode ≤ results
