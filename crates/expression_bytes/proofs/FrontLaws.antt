-- What stands at the front of the rest of a text, by the byte at its place; and where runs of bytes stop.
-- Assumes nothing.
use mathlib.Core.Path.{◌≡◌, refl, sym, ap, ◌∙◌}
use Prim.Native.Nat.{ℕ, zero, suc, ◌+◌, ◌≤◌, ◌<◌}
use mathlib.Core.Bool.{Bool, true, false, cond, ◌&&◌, false≢true}
use mathlib.Core.List.{List, [], ◌∷◌}
use native.Mathlib.Omega.{arith}
use borrow.Author.Tests.{eqb-true, eq-eqb, ne_eqb}
use lib.Dec.{eqb}
use lib.ListN.{length, drop, get_or, length-drop}
use lib.Seq.{drop-drop}
use Rattle.std.specs.List.{starts_with}
use Rattle.rules.specs.Bytes.{lead, starts}
use Rattle.lists.proofs.SliceLaws.{drop-next, drop-done}
use Rattle.rules.proofs.PlaceLaws.{lead-most}
use Rattle.expression.specs.Reading.{id_byte}
use Rattle.expression_bytes.specs.Front.{head_is, head_id, spelt}

pub false_true : {A : Type 0} → false ≡ true → A
false_true e = absurd (false≢true e)

-- ---- one byte
module _ (l : List ℕ) (i b : ℕ) where
  pub head-here : i < length l → head_is b (drop i l) ≡ eqb (get_or l i 0) b
  unfolding head_is
  head-here h = rw (drop-next l i h)

  pub head-none : length l ≤ i → head_is b (drop i l) ≡ false
  unfolding head_is
  head-none h = rw (drop-done l i h)

pub head-within : (l : List ℕ) (i b : ℕ) → head_is b (drop i l) ≡ true → i < length l
unfolding head_is
head-within [] zero b e = false_true e
head-within [] (suc i) b e = false_true e
head-within (x ∷ l) zero b e = omega arith
head-within (x ∷ l) (suc i) b e = let h = head-within l i b e in omega arith

pub drop-one : (i : ℕ) (l : List ℕ) → drop 1 (drop i l) ≡ drop (i + 1) l
drop-one i l = drop-drop 1 i l

-- ---- runs
pub id-stop : (s : List ℕ) → head_id (drop (lead id_byte s) s) ≡ false
unfolding lead head_id
id-stop [] = refl
id-stop (x ∷ s) = one (id_byte x) refl (id-stop s)
  where
    one : (t : Bool) → id_byte x ≡ t → head_id (drop (lead id_byte s) s) ≡ false → head_id (drop (cond t (suc (lead id_byte s)) 0) (x ∷ s)) ≡ false
    one true e h = h
    one false e h = e

pub eqb-turn : (a b : ℕ) → eqb a b ≡ eqb b a
eqb-turn a b = one (eqb a b) refl
  where
    one : (t : Bool) → eqb a b ≡ t → t ≡ eqb b a
    one true e = sym (eq-eqb b a (sym (eqb-true a b e)))
    one false e = sym (ne_eqb b a (λ h. false_true (sym e ∙ eq-eqb a b (sym h))))

pub blank-stop : (s : List ℕ) → head_is 32 (drop (lead (eqb 32) s) s) ≡ false
unfolding lead head_is
blank-stop [] = refl
blank-stop (x ∷ s) = one (eqb 32 x) refl (blank-stop s)
  where
    one : (t : Bool) → eqb 32 x ≡ t → head_is 32 (drop (lead (eqb 32) s) s) ≡ false → head_is 32 (drop (cond t (suc (lead (eqb 32) s)) 0) (x ∷ s)) ≡ false
    one true e h = h
    one false e h = eqb-turn x 32 ∙ e

-- ---- words
count_most : (t : Bool) (k n : ℕ) → k ≤ n → cond t (suc k) 0 ≤ suc n
count_most true k n h = omega arith
count_most false k n h = omega arith

pub spelt-most : (ws s : List ℕ) → spelt ws s ≤ length ws
unfolding spelt
spelt-most [] s = omega arith
spelt-most (w ∷ ws) [] = omega arith
spelt-most (w ∷ ws) (x ∷ s) = count_most (eqb x w) (spelt ws s) (length ws) (spelt-most ws s)

pub spelt-inside : (ws s : List ℕ) → spelt ws s ≤ length s
unfolding spelt
spelt-inside [] s = omega arith
spelt-inside (w ∷ ws) [] = omega arith
spelt-inside (w ∷ ws) (x ∷ s) = count_most (eqb x w) (spelt ws s) (length s) (spelt-inside ws s)

pub spelt-more : (word s : List ℕ) (n : ℕ) → n < length word → head_is (get_or word n 0) s ≡ true → spelt (drop n word) s ≡ suc (spelt (drop (n + 1) word) (drop 1 s))
unfolding spelt head_is
spelt-more word [] n h e = false_true e
spelt-more word (x ∷ s) n h e = ap (λ (w : List ℕ). spelt w (x ∷ s)) (drop-next word n h) ∙ rw e

pub spelt_less : (word s : List ℕ) (n : ℕ) → n < length word → head_is (get_or word n 0) s ≡ false → spelt (drop n word) s ≡ 0
unfolding spelt head_is
spelt_less word [] n h e = ap (λ (w : List ℕ). spelt w []) (drop-next word n h)
spelt_less word (x ∷ s) n h e = ap (λ (w : List ℕ). spelt w (x ∷ s)) (drop-next word n h) ∙ rw e

pub spelt-end : (word s : List ℕ) (n : ℕ) → length word ≤ n → spelt (drop n word) s ≡ 0
unfolding spelt
spelt-end word s n h = rw (drop-done word n h)

-- n letters stand in s, and what follows is counted from there on
pub record Spelt (word s : List ℕ) (n : ℕ) : Type 0 where
  pub count : spelt word s ≡ n + spelt (drop n word) (drop n s)

pub spelt_start : (word s : List ℕ) → Spelt word s 0
spelt_start word s = record { count = omega arith }

module _ {word s : List ℕ} {n : ℕ} where
  pub spelt_next : n < length word → head_is (get_or word n 0) (drop n s) ≡ true → Spelt word s n → Spelt word s (n + 1)
  spelt_next h e l =
      let m : spelt (drop n word) (drop n s) ≡ suc (spelt (drop (n + 1) word) (drop (n + 1) s)) =
      spelt-more word (drop n s) n h e ∙ ap (λ (t : List ℕ). suc (spelt (drop (n + 1) word) t)) (drop-one n s) in
      record { count = omega (arith, l.count, m) }

  pub spelt_stop : n < length word → head_is (get_or word n 0) (drop n s) ≡ false → Spelt word s n → n ≡ spelt word s
  spelt_stop h e l = omega (arith, l.count, spelt_less word (drop n s) n h e)

  pub spelt_all : n ≤ length word → length word ≤ n → Spelt word s n → length word ≡ spelt word s
  spelt_all m h l = omega (arith, l.count, spelt-end word (drop n s) n h)

-- and as std asks whether one stands there
pub starts_as : (w s : List ℕ) → starts_with eqb s w ≡ starts w s
unfolding starts
starts_as [] s = refl
starts_as (x ∷ w) [] = refl
starts_as (x ∷ w) (y ∷ s) = ap (λ (b : Bool). eqb x y && b) (starts_as w s)

-- ---- places in a text
module _ (l : List ℕ) (at : ℕ) where
  pub ids_in : (n : ℕ) → at ≤ length l → n ≡ lead id_byte (drop at l) → at + n ≤ length l
  ids_in n h e = omega (arith, e, lead-most id_byte (drop at l), length-drop at l)

  pub ids_stop : (n : ℕ) → n ≡ lead id_byte (drop at l) → head_id (drop (at + n) l) ≡ false
  ids_stop n e = rw (← drop-drop n at l, e) (id-stop (drop at l))

  pub ids_none : (n : ℕ) → n ≡ lead id_byte (drop at l) → n ≡ 0 → head_id (drop at l) ≡ false
  ids_none n e z =
      let q : at + n ≡ at = omega arith in
      ap (λ (m : ℕ). head_id (drop m l)) (sym q) ∙ ids_stop n e

  pub letters_in : (n : ℕ) (ws : List ℕ) → at ≤ length l → n ≡ spelt ws (drop at l) → at + n ≤ length l
  letters_in n ws h e = omega (arith, e, spelt-inside ws (drop at l), length-drop at l)

  pub blanks-high : (r : ℕ) → at ≤ length l → r ≡ at + lead (eqb 32) (drop at l) → r ≤ length l
  blanks-high r h e = omega (arith, e, lead-most (eqb 32) (drop at l), length-drop at l)

  pub blanks-stop : (r : ℕ) → r ≡ at + lead (eqb 32) (drop at l) → head_is 32 (drop r l) ≡ false
  blanks-stop r e = rw (e, ← drop-drop (lead (eqb 32) (drop at l)) at l) (blank-stop (drop at l))
