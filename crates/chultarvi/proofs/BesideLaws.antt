-- The books that are lent, said by a bool (`books_of`, `Lends`), are those that an Option says (`books_lent`, `shelf_lent`): so what crates/refusals proves of the one holds of the other.
-- And what a refused score promises, of any number.
-- Assumes nothing.
use Rattle.std.proofs.Common.{Option, None, Some}
use mathlib.Core.Path.{◌≡◌, refl, sym, ap, subst, ◌∙◌}
use mathlib.Core.Bool.{Bool, true, false, cond, false≢true}
use mathlib.Core.List.{List}
use Prim.Native.Nat.{ℕ}
use borrow.Author.Tests.{ne_eqb}
use Rattle.rules.specs.declared.Areas.{Areas}
use Rattle.rules.specs.declared.Limits.{Limits}
use Rattle.rules.specs.declared.Mode.{Mode}
use Rattle.rules.specs.declared.Scored.{Scored}
use Rattle.rules.specs.declared.View.{View}
use Rattle.rules.specs.Table.{no_value}
use Rattle.rules.specs.Book as Book
use Rattle.rules.specs.Refusal.{refusal, of_view, before_scan}
use Rattle.rules.specs.Jobs.{lent as lent_areas, scored_as, score_job, ScoreDone}
use Rattle.detection_shelf.specs.Shelves.{Shelf, shelf, books_of, Lends}
use Rattle.refusals.specs.Lent.{books_lent, shelf_lent}
use Rattle.refusals.specs.Admits.{ViewThrough, ScanThrough}
use Rattle.refusals.proofs.AdmitLaws.{view-kept}
use Rattle.refusals.proofs.AdmitLaws as lent
use Rattle.refusals.proofs.AreaLaws.{BothAfter}

-- the second book, where it is lent
abbrev pub second_of : Shelf → Bool → Option (List ℕ)
second_of b two = cond two (Some b.second) None

pub books_as_lent : (b : Shelf) (two : Bool) → books_of b two ≡ books_lent b.first (second_of b two)
books_as_lent b true = refl
books_as_lent b false = refl

pub shelf_as_lent : (b : Shelf) (two : Bool) → Lends b two → shelf_lent b.first (second_of b two) ≡ b
shelf_as_lent b true l = refl
shelf_as_lent b false l = ap (shelf b.first) (sym (l refl))

-- what C lends: the second book's bytes, looked at only where two are lent
module _ (book second : List ℕ) (lent : Option (List ℕ)) where
  pub lent_lends : (two : Bool) → lent ≡ cond two (Some second) None → Lends (shelf_lent book lent) two
  lent_lends true e = λ h. absurd (false≢true (sym h))
  lent_lends false e = λ h. ap (λ (x : Option (List ℕ)). (shelf_lent book x).second) e

  pub lent_books : (two : Bool) → lent ≡ cond two (Some second) None → books_lent book lent ≡ books_of (shelf book second) two
  lent_books two e = ap (books_lent book) e ∙ sym (books_as_lent (shelf book second) two)

-- the edition that a text is read by beside lent books: what the first says
pub first_said : (books : Shelf) (two : Bool) → Book.edition_of (books_of books two) ≡ Book.edition books.first
unfolding Book.edition_of
first_said books true = refl
first_said books false = refl

pub view_through : (t : List ℕ) (books : Shelf) (two : Bool) → Lends books two → (v : View) (k : ℕ) (a : Areas) → refusal (of_view t (books_of books two) v k a) ≡ 0 →
    ViewThrough t books v k a
view_through t books two lends v k a h =
    subst (λ (s : Shelf). ViewThrough t s v k a) (shelf_as_lent books two lends)
    (lent.view_through t books.first (second_of books two) v k a (subst (λ (bs : List (List ℕ)). refusal (of_view t bs v k a) ≡ 0) (books_as_lent books two) h))

pub scan_through : (t : List ℕ) (books : Shelf) (two : Bool) → Lends books two → (lim : Limits) (mode : Mode) (a : Areas) (results : ℕ) →
    refusal (before_scan t (books_of books two) lim mode a results) ≡ 0 → ScanThrough t books lim mode a results
scan_through t books two lends lim mode a results h =
    subst (λ (s : Shelf). ScanThrough t s lim mode a results) (shelf_as_lent books two lends)
    (lent.scan_through t books.first (second_of books two) lim mode a results (subst (λ (bs : List (List ℕ)). refusal (before_scan t bs lim mode a results) ≡ 0) (books_as_lent books two) h))

-- a score that is refused by the number n: the answer is that number and nothing else, and the areas are as they were
pub score-refused : (t : List ℕ) (bs : List (List ℕ)) (v : View) (k : ℕ) (b₀ w₀ : List ℕ) (n : ℕ) (x : Scored) → n ≡ refusal (of_view t bs v k (lent_areas b₀ w₀)) → (n ≡ 0 → ⊥) →
    x ≡ scored_as n no_value → ScoreDone t bs v k b₀ b₀ w₀ w₀ x
unfolding score_job
score-refused t bs v k b₀ w₀ n x e q r =
    let areas = view-kept t bs v k b₀ w₀ n e q in
    rw r (record { answer = rw (← e, ne_eqb n 0 q); bytes = areas.bytes; words = areas.words })
