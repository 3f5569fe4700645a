-- The line table: an entry after a write, the lines after one more, entries that are as they were, and lines made blank.
-- Assumes nothing.
use mathlib.Core.Path.{◌≡◌, refl, sym, ap, ap₂, ◌∙◌, subst}
use mathlib.Core.Bool.{Bool, true, false}
use mathlib.Core.List.{List, [], ◌∷◌, ◌++◌}
use Prim.Native.Nat.{ℕ, zero, suc, ◌+◌, ◌-◌, ◌*◌, ◌≤◌, ◌<◌}
use native.Mathlib.Nat.{add-zero, le_of_suc-le-suc, not-suc-le-zero}
use native.Mathlib.Numerals.{add-one}
use native.Mathlib.Omega.{arith}
use lib.Dec.{eqb}
use lib.ListN.{length, take, drop, get_or, set, length-set}
use lib.Seq.{slice, slice_empty, get_or-set_same, get_or-set_other, get_or-take}
use borrow.Author.Tests.{eqb-true, eqb-false}
use Rattle.lists.proofs.SliceLaws.{slice_first, slice_within}
use Rattle.rules.specs.Search.{blank}
use Rattle.preproc_table.specs.Entries.{start_at, end_at, line_at, lines_from, lines_at, entry_set, blanked, Apart, Blanked}

-- ---- an entry after a write
module _ (table : List ℕ) (k start end : ℕ) where
  pub start-written : 2 * k + 1 < length table → start_at (entry_set table k start end) k ≡ start
  start-written h =
      get_or-set_other (set table (2 * k) start) (2 * k + 1) (2 * k) end 0 (λ e. omega arith)
      ∙ get_or-set_same table (2 * k) start 0 (omega arith)

  pub end-written : 2 * k + 1 < length table → end_at (entry_set table k start end) k ≡ end
  end-written h = get_or-set_same (set table (2 * k) start) (2 * k + 1) end 0 (rw length-set h)

  pub start-other : (j : ℕ) → (j ≡ k → ⊥) → start_at (entry_set table k start end) j ≡ start_at table j
  start-other j n =
      get_or-set_other (set table (2 * k) start) (2 * k + 1) (2 * j) end 0 (λ e. omega arith)
      ∙ get_or-set_other table (2 * k) (2 * j) start 0 (λ e. n (omega arith))

  pub end-other : (j : ℕ) → (j ≡ k → ⊥) → end_at (entry_set table k start end) j ≡ end_at table j
  end-other j n =
      get_or-set_other (set table (2 * k) start) (2 * k + 1) (2 * j + 1) end 0 (λ e. n (omega arith))
      ∙ get_or-set_other table (2 * k) (2 * j + 1) start 0 (λ e. omega arith)

-- ---- the lines
-- one more at the end
pub lines_more : (area table : List ℕ) (i n : ℕ) → lines_from area table i (suc n) ≡ lines_from area table i n ++ (line_at area table (i + n) ∷ [])
unfolding lines_from
lines_more area table i zero = rw (add-zero i)
lines_more area table i (suc n) =
    let e : suc i + n ≡ i + suc n = omega arith in
    ap (λ (ls : List (List ℕ)). line_at area table i ∷ ls) (lines_more area table (suc i) n ∙ rw e)

-- lines that are the same one by one
pub lines_same : (a a' t t' : List ℕ) (i n : ℕ) → ((j : ℕ) → i ≤ j → j < i + n → line_at a t j ≡ line_at a' t' j) → lines_from a t i n ≡ lines_from a' t' i n
unfolding lines_from
lines_same a a' t t' i zero f = refl
lines_same a a' t t' i (suc n) f =
    ap₂ (λ (l : List ℕ) (ls : List (List ℕ)). l ∷ ls) (f i (omega arith) (omega arith))
    (lines_same a a' t t' (suc i) n (λ j h k. f j (omega arith) (omega arith)))

pub lines-length : (area table : List ℕ) (i n : ℕ) → length (lines_from area table i n) ≡ n
unfolding lines_from
lines-length area table i zero = refl
lines-length area table i (suc n) = ap suc (lines-length area table (suc i) n)

lines-drop : (area table : List ℕ) (i f n : ℕ) → f ≤ n → drop f (lines_from area table i n) ≡ lines_from area table (i + f) (n - f)
unfolding lines_from
lines-drop area table i zero n h =
    let q : n - 0 ≡ n = omega arith in
    rw (add-zero i, q)
lines-drop area table i (suc f) zero h = absurd (not-suc-le-zero h)
lines-drop area table i (suc f) (suc n) h =
    let p : suc i + f ≡ i + suc f = omega arith in
    let q : n - f ≡ suc n - suc f = omega arith in
    lines-drop area table (suc i) f n (le_of_suc-le-suc h) ∙ rw (p, q)

lines-take : (area table : List ℕ) (i k n : ℕ) → k ≤ n → take k (lines_from area table i n) ≡ lines_from area table i k
unfolding lines_from
lines-take area table i zero n h = refl
lines-take area table i (suc k) zero h = absurd (not-suc-le-zero h)
lines-take area table i (suc k) (suc n) h = ap (λ (ls : List (List ℕ)). line_at area table i ∷ ls) (lines-take area table (suc i) k n (le_of_suc-le-suc h))

-- the lines of a view
pub lines-viewed : (area table : List ℕ) (f e n : ℕ) → f ≤ e → e ≤ n → take (e - f) (drop f (lines_at area table n)) ≡ lines_from area table f (e - f)
unfolding lines_at
lines-viewed area table f e n h k =
    let q : 0 + f ≡ f = omega arith in
    ap (take (e - f)) (lines-drop area table 0 f n (omega arith)) ∙ rw q (lines-take area table f (e - f) (n - f) (omega arith))

-- the lines are the same where the bytes between the entries' ends are
pub lines-kept : {first last : ℕ} {table : List ℕ} (n : ℕ) (area area' : List ℕ) → Apart first last table n → slice first last area ≡ slice first last area' →
    lines_at area table n ≡ lines_at area' table n
unfolding lines_at line_at
lines-kept {first} {last} {table} n area area' a e =
    lines_same area area' table table 0 n
    (λ j u v.
    let l : j < n = omega arith in
    slice_within first last area area' (a.low j l) (a.order j l) (a.high j l) e)

-- ---- tables whose first k numbers are the same have the same entries there
module _ (lines k : ℕ) (fits : 2 * lines ≤ k) (t t' : List ℕ) (e : take k t ≡ take k t') where
  entry-same : (j : ℕ) → j < k → get_or t j 0 ≡ get_or t' j 0
  entry-same j h = sym (get_or-take k t j 0 h) ∙ ap (λ (l : List ℕ). get_or l j 0) e ∙ get_or-take k t' j 0 h

  pub start-same : (i : ℕ) → i < lines → start_at t i ≡ start_at t' i
  start-same i h = entry-same (2 * i) (omega arith)

  pub end_same : (i : ℕ) → i < lines → end_at t i ≡ end_at t' i
  end_same i h = entry-same (2 * i + 1) (omega arith)

  pub lines-below : (area : List ℕ) → lines_at area t lines ≡ lines_at area t' lines
  unfolding lines_at line_at
  lines-below area =
      lines_same area area t t' 0 lines (λ j h l.
      let j< : j < lines = omega arith in
      ap₂ (λ (a b : ℕ). slice a b area) (start-same j j<) (end_same j j<))

  pub apart_below : (first last : ℕ) → Apart first last t lines → Apart first last t' lines
  apart_below first last p =
      record {
        low = λ i h. omega (arith, p.low i h, start-same i h);
        order = λ i h. omega (arith, p.order i h, start-same i h, end_same i h);
        high = λ i h. omega (arith, p.high i h, end_same i h);
        apart = λ i j h l. omega (arith, p.apart i j h l, end_same i (omega arith), start-same j l);
      }

  -- and the same lines, over areas that are the same up to m
  pub line_same : (m : ℕ) (area area' : List ℕ) → take m area ≡ take m area' → (i : ℕ) → i < lines → end_at t' i ≤ m → line_at area t i ≡ line_at area' t' i
  unfolding line_at
  line_same m area area' s i h l =
      rw (start-same i h, end_same i h)
      (sym (slice_first (start_at t' i) (end_at t' i) m area l) ∙ rw s (slice_first (start_at t' i) (end_at t' i) m area' l))

-- what holds of each of the first k, and of k, holds of each of the first k + 1
pub up_to : (P : ℕ → Type 0) (k : ℕ) → ((i : ℕ) → i < k → P i) → P k → (i : ℕ) → i < k + 1 → P i
up_to P k f p i h = at (eqb i k) refl
  where
    at : (b : Bool) → eqb i k ≡ b → P i
    at true e = subst P (sym (eqb-true i k e)) p
    at false e = let n = eqb-false i k e in f i (below n)
      where
        below : (i ≡ k → ⊥) → i < k
        below n = omega arith

-- ---- lines made blank
blank_zero : (a : ℕ) (ls : List (List ℕ)) → blank a zero ls ≡ ls
unfolding blank
blank_zero a [] = refl
blank_zero a (l ∷ ls) = refl

pub blank_none : (a : ℕ) (ls : List (List ℕ)) → blank a a ls ≡ ls
unfolding blank
blank_none zero ls = blank_zero zero ls
blank_none (suc a) [] = refl
blank_none (suc a) (l ∷ ls) = ap (λ (ms : List (List ℕ)). l ∷ ms) (blank_none a ls)

-- from a up to i, and i
pub blank-more : (a i : ℕ) (ls : List (List ℕ)) → a ≤ i → blank i (suc i) (blank a i ls) ≡ blank a (suc i) ls
unfolding blank
blank-more a i [] h = refl
blank-more zero zero (l ∷ ls) h = refl
blank-more zero (suc i) (l ∷ ls) h = ap (λ (ms : List (List ℕ)). [] ∷ ms) (blank-more zero i ls (omega arith))
blank-more (suc a) zero (l ∷ ls) h = absurd (not-suc-le-zero h)
blank-more (suc a) (suc i) (l ∷ ls) h = ap (λ (ms : List (List ℕ)). l ∷ ms) (blank-more a i ls (le_of_suc-le-suc h))

module _ (t : List ℕ) (k : ℕ) where
  start-blanked : (j : ℕ) → start_at (blanked t k) j ≡ start_at t j
  start-blanked j = get_or-set_other t (2 * k + 1) (2 * j) (start_at t k) 0 (λ e. omega arith)

  end-blanked : 2 * k + 1 < length t → end_at (blanked t k) k ≡ start_at t k
  end-blanked h = get_or-set_same t (2 * k + 1) (start_at t k) 0 h

  end_unblanked : (j : ℕ) → (j ≡ k → ⊥) → end_at (blanked t k) j ≡ end_at t j
  end_unblanked j n = get_or-set_other t (2 * k + 1) (2 * j + 1) (start_at t k) 0 (λ e. n (omega arith))

  -- its end is its start, or as it was
  end-between : 2 * k + 1 < length t → (j : ℕ) → start_at t j ≤ end_at t j → (start_at t j ≤ end_at (blanked t k) j) × (end_at (blanked t k) j ≤ end_at t j)
  end-between h j o = at (eqb j k) refl
    where
      at : (b : Bool) → eqb j k ≡ b → (start_at t j ≤ end_at (blanked t k) j) × (end_at (blanked t k) j ≤ end_at t j)
      at true e = let q = eqb-true j k e in rw q (here (rw q at o))
        where
          here : start_at t k ≤ end_at t k → (start_at t k ≤ end_at (blanked t k) k) × (end_at (blanked t k) k ≤ end_at t k)
          here o = rw (end-blanked h) (omega arith, o)
      at false e = rw (end_unblanked j (eqb-false j k e)) (o, omega arith)

  pub blanked-apart : {first last n : ℕ} → 2 * k + 1 < length t → Apart first last t n → Apart first last (blanked t k) n
  blanked-apart h a =
      record {
        low = λ i l. rw (start-blanked i) (a.low i l);
        order = λ i l. rw (start-blanked i) (end-between h i (a.order i l)).0;
        high = λ i l. omega (arith, a.high i l, (end-between h i (a.order i l)).1);
        apart = λ i j l m. rw (start-blanked j) (omega (arith, a.apart i j l m, (end-between h i (a.order i (omega arith))).1));
      }

  module _ (area : List ℕ) where
    line-blanked : 2 * k + 1 < length t → line_at area (blanked t k) k ≡ []
    unfolding line_at
    line-blanked h = rw (start-blanked k, end-blanked h) (slice_empty (start_at t k) area)

    line_unblanked : (j : ℕ) → (j ≡ k → ⊥) → line_at area (blanked t k) j ≡ line_at area t j
    unfolding line_at
    line_unblanked j n = rw (start-blanked j, end_unblanked j n)

    lines-behind : (n i : ℕ) → k < i → lines_from area (blanked t k) i n ≡ lines_from area t i n
    lines-behind n i h = lines_same area area (blanked t k) t i n (λ j u v. line_unblanked j (λ e. omega arith))

    lines-blanked : 2 * k + 1 < length t → (d n i : ℕ) → i + d ≡ k → lines_from area (blanked t k) i n ≡ blank d (suc d) (lines_from area t i n)
    unfolding lines_from blank
    lines-blanked h d zero i e = refl
    lines-blanked h zero (suc n) i e =
        let q : i ≡ k = omega arith in
        rw q (ap₂ (λ (l : List ℕ) (ls : List (List ℕ)). l ∷ ls) (line-blanked h) (lines-behind n (suc k) (omega arith) ∙ sym (blank_zero zero (lines_from area t (suc k) n))))
    lines-blanked h (suc d) (suc n) i e =
        ap₂ (λ (l : List ℕ) (ls : List (List ℕ)). l ∷ ls) (line_unblanked i (λ q. omega arith)) (lines-blanked h d n (suc i) (omega arith))

-- ---- white-out, line after line
pub blanked-none : (a : ℕ) (t : List ℕ) → Blanked a a t t
unfolding lines_at
blanked-none a t = record { lines = λ area n. sym (blank_none a (lines_from area t 0 n)); kept = λ first last n p. p }

pub blanked-more : {a i : ℕ} {t₀ t : List ℕ} → a ≤ i → 2 * i + 1 < length t → Blanked a i t₀ t → Blanked a (i + 1) t₀ (blanked t i)
unfolding lines_at
blanked-more {a} {i} {t₀} {t} h k b =
    record {
      lines = λ area n. rw (add-one i) (lines-blanked t i area k i n 0 (omega arith) ∙ ap (blank i (suc i)) (b.lines area n) ∙ blank-more a i (lines_from area t₀ 0 n) h);
      kept = λ first last n p. blanked-apart t i k (b.kept first last n p);
    }
