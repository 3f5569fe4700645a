-- The score of bounds is a scoring's, so from 0.0 to 1.0.
--     search-value      what holds of every index's value holds of the value that a search finds
--     stands-sound      a stored text that the code has found is sound
--     bounds-unit       the score of bounds is from 0.0 to 1.0
-- Assumes nothing.
use mathlib.Core.Path.{◌≡◌, refl, sym, subst}
use mathlib.Core.Bool.{Bool, true, false}
use mathlib.Core.List.{List}
use Prim.Native.Nat.{ℕ, zero, suc, ◌+◌, ◌-◌, ◌*◌, ◌≤◌, ◌<◌}
use native.Mathlib.Nat.{not-suc-le-zero}
use native.Mathlib.Omega.{arith}
use lib.Dec.{T, leb}
use lib.Ieee.{lt, le}
use borrow.Author.Tests.{leb-true, leb-false}
use Rattle.rules.specs.declared.Index.{Index}
use Rattle.rules.specs.declared.Value.{Value}
use Rattle.rules.specs.declared.View.{View}
use Rattle.rules.specs.Sizes.{text_most}
use Rattle.rules.specs.Points.{encoded}
use Rattle.rules.specs.Passes.{aggressive}
use Rattle.rules.specs.Table.{view_table, bigrams}
use Rattle.rules.specs.Search.{Made, Stored, no_text, Span, width, low, high, higher, sweep_from, sweep, search, scored, score_view, view, viewed, bounds}
use Rattle.rules.specs.Refusal.{unit}
use Rattle.rules.proofs.BoolLaws.{cond_of}
use Rattle.rules.proofs.Steps.{search_near, search_far}
use Rattle.rules.specs.Lines.{size}
use Rattle.rules.proofs.GrowthLaws.{bigrams-length, aggressive-length, viewed-size}
use Rattle.rules.proofs.SoundLaws.{StoredSound}
use Rattle.rules.proofs.DownLaws.{each_at}
use Rattle.rules.specs.Book.{Proper}
use Rattle.rules.proofs.TableLaws.{table_proper, stored_proper, value-unit}
use Rattle.detection_shelf.specs.declared.Shelved.{Shelved}
use Rattle.detection_shelf.specs.declared.Counts.{Counts}
use Rattle.detection_shelf.proofs.ShelfLaws.{stands-text, stands-inside, counted-sound}
use Rattle.detection_shelf.specs.Shelves.{Shelf, texts, CountsOf, text_in, Stands}

-- ---- what holds of every value
module _ (P : Value → Type 0) (score_at : ℕ → Made Value) (each : (i : ℕ) → P (score_at i).value) where
  sweep_from-value : (n i : ℕ) (b : Index) → P b.value → P (sweep_from score_at n i b).value.value
  unfolding sweep_from higher
  sweep_from-value zero i b h = h
  sweep_from-value (suc n) i b h =
      let x : Index = record { at = i; value = (score_at i).value } in
      sweep_from-value n (suc i) (higher b x)
      (cond_of (λ (j : Index). P j.value) (le b.value.score x.value.score) x b (each i) h)

  search-to : (n : ℕ) (s : Span) → width s < n → P (search score_at s.left s.right).value.value
  unfolding sweep
  search-to zero s h = absurd (not-suc-le-zero h)
  search-to (suc n) s h = at (leb (width s) 3) refl (λ u p. search-to n u p)
    where
      is : Made Index → Type 0
      is m = P m.value.value

      at : (t : Bool) → leb (width s) 3 ≡ t → ((u : Span) → width u < n → P (search score_at u.left u.right).value.value) →
          P (search score_at s.left s.right).value.value
      at true q go =
          subst is (sym (search_near score_at s (leb-true (width s) 3 q)))
          (sweep_from-value (s.right - s.left) (suc s.left) (record { at = s.left; value = (score_at s.left).value }) (each s.left))
      at false q go =
          let w = leb-false (width s) 3 q in
          let a = search score_at s.left (high s - 1) in
          let b = search score_at (low s + 1) s.right in
          subst is (sym (search_far score_at s w))
          (cond_of is (lt (score_at (high s)).value.score (score_at (low s)).value.score) a b
          (go (record { left = s.left; right = high s - 1 }) (omega arith)) (go (record { left = low s + 1; right = s.right }) (omega arith)))

  pub search-value : (l r : ℕ) → P (search score_at l r).value.value
  search-value l r = search-to (suc (r - l)) (record { left = l; right = r }) (omega arith)

-- ---- the texts of sound books
pub stands-sound : (books : Shelf) (c : Counts) (t : Shelved) → CountsOf books c → Stands books t → StoredSound (text_in books t)
stands-sound books c t s h =
    subst StoredSound (stands-text books t h)
    (each_at StoredSound (texts books) t.number no_text (stands-inside books t h) (counted-sound books c s))

-- ---- of lines that are few enough
view_proper : (ls : List (List ℕ)) (n : ℕ) (v : View) → n ≤ text_most → size ls ≤ 3 * n + 3 → Proper (view_table (viewed ls v))
unfolding view_table
view_proper ls n v h k =
    table_proper (bigrams (encoded (aggressive (viewed ls v))))
    (omega (arith, bigrams-length (encoded (aggressive (viewed ls v))), aggressive-length (viewed ls v), viewed-size ls v))

pub bounds-unit : (ls : List (List ℕ)) (n : ℕ) (v : View) (s : Stored) → n ≤ text_most → size ls ≤ 3 * n + 3 → StoredSound s →
    T (unit (bounds ls v s).value.value.score)
unfolding bounds score_view scored
bounds-unit ls n v s h k q =
    let e = (search (λ e. score_view ls s (view v.start e)) v.start v.end).value.at in
    search-value (λ (x : Value). T (unit x.score)) (λ a. score_view ls s (view a e))
    (λ a. value-unit (view_table (viewed ls (view a e))) s.table (view_proper ls n (view a e) h k) (stored_proper s q)) v.start e
