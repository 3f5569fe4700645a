-- The first refusal that applies: a text too long, bytes that its edition does not take, lines too many, over any text of that kind; and of scan, that 12 comes
-- exactly if nothing else is refused and the list of scorings is longer than the budget, that the count is the smaller of both, and 0
-- where anything else is refused.
-- Assumes nothing.
use mathlib.Core.Path.{◌≡◌, refl, sym, ap, ◌∙◌}
use Prim.Native.Nat.{ℕ, ◌≤◌, ◌<◌, min}
use native.Mathlib.Omega.{arith}
use mathlib.Core.Bool.{Bool, true, false, not, ◌&&◌, ◌||◌, cond, false≢true}
use mathlib.Core.List.{List, [], ◌∷◌, ◌++◌}
use lib.ListN.{length, length-map}
use lib.Dec.{ltb, eqb}
use borrow.Author.Tests.{lt-ltb, le-ltb, ne_eqb, eqb-true, eqb-false, ltb-true, ltb-false}
use Rattle.rules.specs.declared.Areas.{Areas}
use Rattle.rules.specs.declared.Limits.{Limits}
use Rattle.rules.specs.declared.Mode.{Mode}
use Rattle.rules.specs.Sizes.{text_most, lines_most}
use Rattle.rules.specs.Bytes.{split}
use Rattle.rules.specs.Points.{wide, taken}
use Rattle.rules.specs.Lines.{gap, line_by, lines_by, lines, line_count}
use Rattle.rules.specs.Book.{shelved, edition_of, compiled}
use Rattle.rules.specs.Scan.{Event, events, afford, scorings}
use Rattle.rules.specs.Refusal.{Row, row, refusal, of_text, of_books, before_compile, of_compile, before_scan, over_budget, of_scan}
use Rattle.rules.specs.Jobs.{happened, answered, scan}
use Rattle.rules.proofs.BoolLaws.{and_left, and_right}
use Rattle.rules.proofs.BudgetLaws.{afford-count}

-- ---- texts, under edition e
module _ (e : ℕ) (t : List ℕ) (rest : List Row) where
  pub text_too_long : text_most < length t → refusal (of_text e t ++ rest) ≡ 1
  unfolding refusal of_text
  text_too_long h = simp (lt-ltb text_most (length t) h)

  pub text_not_taken : length t ≤ text_most → taken (wide e) t ≡ false → refusal (of_text e t ++ rest) ≡ 2
  unfolding refusal of_text
  text_not_taken h k = simp (le-ltb text_most (length t) h, k)

  pub too_many-lines : length t ≤ text_most → taken (wide e) t ≡ true → lines_most < line_count t → refusal (of_text e t ++ rest) ≡ 3
  unfolding refusal of_text
  too_many-lines h k l = simp (le-ltb text_most (length t) h, k, lt-ltb lines_most (line_count t) l)

  pub text-passes : length t ≤ text_most → taken (wide e) t ≡ true → line_count t ≤ lines_most → refusal (of_text e t ++ rest) ≡ refusal rest
  unfolding refusal of_text
  text-passes h k l = simp (le-ltb text_most (length t) h, k, le-ltb lines_most (line_count t) l)

-- L
pub lines_by-count : (set : ℕ → Bool) (t : List ℕ) → length (lines_by set t) ≡ line_count t
unfolding lines_by line_count
lines_by-count set t = length-map (split 10 t) (line_by set)

pub lines-count : (e : ℕ) (t : List ℕ) → length (lines e t) ≡ line_count t
unfolding lines
lines-count e t = lines_by-count (gap e) t

-- ---- rows of what is refused before any work: none of them has the number of an answer (0), of an output too short (11), of a budget (12) or
-- of an allowance (17), so after each of them no lent memory has changed
unfoldable pub early : ℕ → Bool
early n = not (eqb n 0) && not (eqb n 11) && not (eqb n 12) && not (eqb n 17)

unfoldable pub all_early : List Row → Bool
all_early [] = true
all_early (r ∷ rs) = early r.number && all_early rs

-- antt computes it of every list of rows
abbrev pub Numbered : List Row → Type 0
Numbered rs = all_early rs ≡ true

pub not_early : (m n : ℕ) → early m ≡ false → early n ≡ true → n ≡ m → ⊥
not_early m n h k e = false≢true (sym h ∙ ap early (sym e) ∙ k)

-- ---- rows after rows: those before decide, unless none of them applies
pub refusal-first : (rs qs : List Row) → (refusal rs ≡ 0 → ⊥) → refusal (rs ++ qs) ≡ refusal rs
unfolding refusal
refusal-first [] qs h = absurd (h refl)
refusal-first (r ∷ rs) qs h = at r.applies h (refusal-first rs qs)
  where
    at : (t : Bool) → (cond t r.number (refusal rs) ≡ 0 → ⊥) → ((refusal rs ≡ 0 → ⊥) → refusal (rs ++ qs) ≡ refusal rs) →
        cond t r.number (refusal (rs ++ qs)) ≡ cond t r.number (refusal rs)
    at true k go = refl
    at false k go = go k

pub refusal_then : (rs qs : List Row) → Numbered rs → refusal rs ≡ 0 → refusal (rs ++ qs) ≡ refusal qs
unfolding refusal all_early early
refusal_then [] qs n h = refl
refusal_then (r ∷ rs) qs n h = at r.applies h (refusal_then rs qs (and_right (early r.number) (all_early rs) n))
  where
    at : (t : Bool) → cond t r.number (refusal rs) ≡ 0 → (refusal rs ≡ 0 → refusal (rs ++ qs) ≡ refusal qs) →
        cond t r.number (refusal (rs ++ qs)) ≡ refusal qs
    at true k go = absurd (not_early 0 r.number refl (and_left (early r.number) (all_early rs) n) k)
    at false k go = go k

pub refusal-early : (rs : List Row) → Numbered rs → (refusal rs ≡ 0 → ⊥) → early (refusal rs) ≡ true
unfolding refusal all_early
refusal-early [] n h = absurd (h refl)
refusal-early (r ∷ rs) n h = at r.applies h (refusal-early rs (and_right (early r.number) (all_early rs) n))
  where
    at : (t : Bool) → (cond t r.number (refusal rs) ≡ 0 → ⊥) → ((refusal rs ≡ 0 → ⊥) → early (refusal rs) ≡ true) →
        early (cond t r.number (refusal rs)) ≡ true
    at true k go = and_left (early r.number) (all_early rs) n
    at false k go = go k

-- ---- compile: 11 exactly if nothing before applies and the output is shorter than the body
module _ (e : ℕ) (t : List ℕ) (a : Areas) where
  pub compile-numbered : Numbered (before_compile e t a)
  unfolding before_compile of_text all_early early
  compile-numbered = refl

  pub compile-before : (out : ℕ) → (refusal (before_compile e t a) ≡ 0 → ⊥) → refusal (of_compile e t a out) ≡ refusal (before_compile e t a)
  unfolding of_compile
  compile-before out h = refusal-first (before_compile e t a) _ h

  pub compile_fits : (out : ℕ) → refusal (before_compile e t a) ≡ 0 → refusal (of_compile e t a out) ≡ cond (ltb out (length (compiled e t))) 11 0
  unfolding of_compile refusal
  compile_fits out h = refusal_then (before_compile e t a) (row 11 (ltb out (length (compiled e t))) ∷ []) compile-numbered h

-- ---- scan
module _ (t : List ℕ) (bs : List (List ℕ)) (lim : Limits) (mode : Mode) (a : Areas) (results : ℕ) where
  abbrev before : ℕ
  before = refusal (before_scan t bs lim mode a results)

  -- the list of the full scan
  abbrev full : List Event
  full = events lim mode (shelved 0 bs) (lines (edition_of bs) t)

  pub scan-numbered : Numbered (before_scan t bs lim mode a results)
  unfolding before_scan of_text of_books all_early early
  scan-numbered = refl

  pub scan-before : (b : ℕ) → (before ≡ 0 → ⊥) → refusal (of_scan t bs lim mode b a results) ≡ before
  unfolding of_scan
  scan-before b h = refusal-first (before_scan t bs lim mode a results) _ h

  pub scan_then : (b : ℕ) → before ≡ 0 → refusal (of_scan t bs lim mode b a results) ≡ cond (ltb b (length (scorings full))) 12 0
  unfolding of_scan refusal over_budget
  scan_then b h =
      refusal_then (before_scan t bs lim mode a results) (row 12 (ltb b (length (scorings full))) ∷ []) scan-numbered h

  -- 12 exactly if the list is longer than the budget
  pub scan-over : (b : ℕ) → before ≡ 0 → b < length (scorings full) → refusal (of_scan t bs lim mode b a results) ≡ 12
  scan-over b h k = scan_then b h ∙ simp (lt-ltb b (length (scorings full)) k)

  pub scan-paid : (b : ℕ) → before ≡ 0 → length (scorings full) ≤ b → refusal (of_scan t bs lim mode b a results) ≡ 0
  scan-paid b h k = scan_then b h ∙ simp (le-ltb b (length (scorings full)) k)

  -- what is not refused before any work happens as far as the budget pays
  pub scan-happened : (b : ℕ) → before ≡ 0 → happened t bs lim mode b a results ≡ afford b full
  unfolding happened
  scan-happened b h = at (ltb b (length (scorings full))) (scan_then b h)
    where
      n : ℕ
      n = refusal (of_scan t bs lim mode b a results)

      at : (u : Bool) → n ≡ cond u 12 0 → cond (eqb n 0 || eqb n 12) (afford b full) [] ≡ afford b full
      at true q = simp q
      at false q = simp q

  -- count = min(budget, length of the list)
  pub scan-count : (b : ℕ) → before ≡ 0 → (scan t bs lim mode b a results).count ≡ min b (length (scorings full))
  unfolding scan answered
  scan-count b h = ap (λ (es : List Event). length (scorings es)) (scan-happened b h) ∙ afford-count b full

  -- 12 only then: no refusal before any work has that number
  pub scan_only : (b : ℕ) → refusal (of_scan t bs lim mode b a results) ≡ 12 → (before ≡ 0) × (b < length (scorings full))
  unfolding early
  scan_only b h = at (eqb before 0) refl
    where
      over : (u : Bool) → ltb b (length (scorings full)) ≡ u → ◌≡◌ {A = ℕ} 12 (cond u 12 0) → b < length (scorings full)
      over true q e = ltb-true b (length (scorings full)) q
      over false q e = absurd (no e)
        where
          no : ◌≡◌ {A = ℕ} 12 0 → ⊥
          no e = omega arith

      at : (u : Bool) → eqb before 0 ≡ u → (before ≡ 0) × (b < length (scorings full))
      at true q =
          let z = eqb-true before 0 q in
          (z, over (ltb b (length (scorings full))) refl (sym h ∙ scan_then b z))
      at false q =
          let k = eqb-false before 0 q in
          absurd (not_early 12 before refl (refusal-early (before_scan t bs lim mode a results) scan-numbered k) (sym (scan-before b k) ∙ h))

  -- 0 only where nothing is refused before any work and the budget pays the list
  pub scan_zero : (b : ℕ) → refusal (of_scan t bs lim mode b a results) ≡ 0 → (before ≡ 0) × (length (scorings full) ≤ b)
  scan_zero b h = at (eqb before 0) refl
    where
      paid : (u : Bool) → ltb b (length (scorings full)) ≡ u → ◌≡◌ {A = ℕ} 0 (cond u 12 0) → length (scorings full) ≤ b
      paid true q e = absurd (no e)
        where
          no : ◌≡◌ {A = ℕ} 0 12 → ⊥
          no e = omega arith
      paid false q e = ltb-false b (length (scorings full)) q

      at : (u : Bool) → eqb before 0 ≡ u → (before ≡ 0) × (length (scorings full) ≤ b)
      at true q =
          let z = eqb-true before 0 q in
          (z, paid (ltb b (length (scorings full))) refl (sym h ∙ scan_then b z))
      at false q = let k = eqb-false before 0 q in absurd (k (sym (scan-before b k) ∙ h))

  -- of what is refused before any work nothing happens, so it makes no scoring
  pub scan_nothing : (b : ℕ) → (before ≡ 0 → ⊥) → happened t bs lim mode b a results ≡ []
  unfolding happened early
  scan_nothing b h =
      let n = refusal (of_scan t bs lim mode b a results) in
      let e = scan-before b h in
      let l = refusal-early (before_scan t bs lim mode a results) scan-numbered h in
      simp (ne_eqb n 0 (λ z. h (sym e ∙ z)), ne_eqb n 12 (λ z. not_early 12 before refl l (sym e ∙ z)))

  pub scan-none : (b : ℕ) → (before ≡ 0 → ⊥) → (scan t bs lim mode b a results).count ≡ 0
  unfolding scan answered scorings
  scan-none b h = ap (λ (es : List Event). length (scorings es)) (scan_nothing b h)

  -- so a limit on the list of what is not refused is one on every count
  pub scan-within : (b m : ℕ) → (before ≡ 0 → length (scorings full) ≤ m) → (scan t bs lim mode b a results).count ≤ m
  scan-within b m h = at (eqb before 0) refl
    where
      at : (u : Bool) → eqb before 0 ≡ u → (scan t bs lim mode b a results).count ≤ m
      at true q = let z = eqb-true before 0 q in omega (arith, scan-count b z, h z)
      at false q = omega (arith, scan-none b (eqb-false before 0 q))
