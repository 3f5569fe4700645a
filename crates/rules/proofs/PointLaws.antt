-- UTF-8 up to U+00FF read and written: ASCII is left as it is (`ascii-points`, `ascii-encoded`), and writing what was read, and reading what was
-- written, gives the same (`encoded-points`, `points-encoded`). The lines of the code points are the code points of the lines (`split-points`).
-- Assumes nothing.
use mathlib.Core.Path.{◌≡◌, refl, sym, ap, ◌∙◌}
use mathlib.Core.Bool.{Bool, true, false, ◌&&◌, false≢true}
use mathlib.Core.List.{List, [], ◌∷◌, map}
use Prim.Native.Nat.{ℕ, ◌+◌, ◌-◌, ◌*◌, ◌/◌, ◌%◌, ◌≤◌, ◌<◌}
use native.Mathlib.Omega.{arith}
use lib.Dec.{leb, ltb, eqb}
use borrow.Author.Tests.{ltb-true, ltb-false, le-ltb, leb-true, le-leb, lt-leb, ne_eqb}
use Rattle.rules.specs.Bytes.{within, every, on_first, split}
use Rattle.rules.specs.Points.{opens, utf8, ascii, taken, points_on, points, encoded}
use Rattle.rules.proofs.BoolLaws.{and_left, and_right}

-- ---- ASCII
pub ascii_cons : (x : ℕ) (xs : List ℕ) → ascii (x ∷ xs) ≡ true → (ltb x 128 ≡ true) × (ascii xs ≡ true)
unfolding ascii every
ascii_cons x xs h = (and_left (ltb x 128) (ascii xs) h, and_right (ltb x 128) (ascii xs) h)

-- a byte below 128 opens nothing
pub low-opens : (x : ℕ) → ltb x 128 ≡ true → opens x ≡ false
unfolding opens within
low-opens x h = let k = ltb-true x 128 h in rw (lt-leb 194 x (omega arith))

pub ascii-encoded : (s : List ℕ) → ascii s ≡ true → encoded s ≡ s
unfolding encoded
ascii-encoded [] h = refl
ascii-encoded (x ∷ xs) h = let c = ascii_cons x xs h in rw c.0 (ap (λ (l : List ℕ). x ∷ l) (ascii-encoded xs c.1))

pub ascii-points : (s : List ℕ) → ascii s ≡ true → points s ≡ s
unfolding points points_on
ascii-points [] h = refl
ascii-points (x ∷ xs) h = let c = ascii_cons x xs h in rw (low-opens x c.0) (ap (λ (l : List ℕ). x ∷ l) (ascii-points xs c.1))

pub ascii-utf8 : (t : List ℕ) → ascii t ≡ true → utf8 false t ≡ true
unfolding utf8
ascii-utf8 [] h = refl
ascii-utf8 (x ∷ xs) h = let c = ascii_cons x xs h in rw (c.0, low-opens x c.0) (ascii-utf8 xs c.1)

-- so every edition takes it, and what any edition takes is such UTF-8
pub ascii-taken : (w : Bool) (t : List ℕ) → ascii t ≡ true → taken w t ≡ true
unfolding taken
ascii-taken true t h = ascii-utf8 t h
ascii-taken false t h = h

pub taken-utf8 : (w : Bool) (t : List ℕ) → taken w t ≡ true → utf8 false t ≡ true
unfolding taken
taken-utf8 true t h = h
taken-utf8 false t h = ascii-utf8 t h

-- what is written for a code point from 128 on, read again
two_bytes : (x : ℕ) (ys : List ℕ) → 128 ≤ x → x < 256 → points_on 0 ((192 + x / 64) ∷ (128 + x % 64) ∷ ys) ≡ x ∷ points_on 0 ys
unfolding points_on opens within
two_bytes x ys l h =
    let a : 194 ≤ 192 + x / 64 = omega arith in
    let b : 192 + x / 64 ≤ 195 = omega arith in
    let high : eqb (64 * (192 + x / 64 - 192)) 0 ≡ false = ne_eqb (64 * (192 + x / 64 - 192)) 0 (λ e. omega arith) in
    let same : 64 * (192 + x / 64 - 192) + (128 + x % 64) % 64 ≡ x = omega arith in
    rw (le-leb 194 (192 + x / 64) a, le-leb (192 + x / 64) 195 b, high) (ap (λ (y : ℕ). y ∷ points_on 0 ys) same)

pub points-encoded : (s : List ℕ) → every (λ x. ltb x 256) s ≡ true → points (encoded s) ≡ s
unfolding every encoded points points_on
points-encoded [] h = refl
points-encoded (x ∷ xs) h = at (ltb x 128) refl (points-encoded xs (and_right (ltb x 256) (every (λ y. ltb y 256) xs) h))
  where
    at : (t : Bool) → ltb x 128 ≡ t → points (encoded xs) ≡ xs → points (encoded (x ∷ xs)) ≡ x ∷ xs
    at true q e = rw q (rw (low-opens x q) (ap (λ (l : List ℕ). x ∷ l) e))
    at false q e =
        rw q (two_bytes x (encoded xs) (ltb-false x 128 q) (ltb-true x 256 (and_left (ltb x 256) (every (λ y. ltb y 256) xs) h)) ∙ ap (λ (l : List ℕ). x ∷ l) e)

-- ---- such UTF-8, taken apart
pub opens-range : (x : ℕ) → opens x ≡ true → (194 ≤ x) × (x ≤ 195)
unfolding opens within
opens-range x h = (leb-true 194 x (and_left (leb 194 x) (leb x 195) h), leb-true x 195 (and_right (leb 194 x) (leb x 195) h))

module _ (x : ℕ) (xs : List ℕ) where
  pub utf8-low : ltb x 128 ≡ true → utf8 false (x ∷ xs) ≡ true → utf8 false xs ≡ true
  unfolding utf8
  utf8-low q h = rw (q, low-opens x q) at h

  pub utf8-high : ltb x 128 ≡ false → utf8 false (x ∷ xs) ≡ true → (opens x ≡ true) × (utf8 true xs ≡ true)
  unfolding utf8
  utf8-high q h =
      let k : (opens x && utf8 (opens x) xs) ≡ true = rw q at h in
      let o = and_left (opens x) (utf8 (opens x) xs) k in
      (o, rw o at (and_right (opens x) (utf8 (opens x) xs) k))

  pub utf8-second : utf8 true (x ∷ xs) ≡ true → (128 ≤ x) × (x ≤ 191) × (utf8 false xs ≡ true)
  unfolding utf8 within
  utf8-second h =
      let w = and_left (leb 128 x && leb x 191) (utf8 false xs) h in
      (leb-true 128 x (and_left (leb 128 x) (leb x 191) w), leb-true x 191 (and_right (leb 128 x) (leb x 191) w), and_right (leb 128 x && leb x 191) (utf8 false xs) h)

-- what the byte x behind the byte h ends
pub point_second : (h x : ℕ) (xs : List ℕ) → opens h ≡ true → points_on (64 * (h - 192)) (x ∷ xs) ≡ (64 * (h - 192) + x % 64) ∷ points_on 0 xs
unfolding points_on
point_second h x xs o =
    let r = opens-range h o in
    rw (ne_eqb (64 * (h - 192)) 0 (λ e. omega (arith, r.0, r.1)))

-- ---- what was read, written
points-both : (t : List ℕ) → (utf8 false t ≡ true → encoded (points_on 0 t) ≡ t) × ((h : ℕ) → opens h ≡ true → utf8 true t ≡ true → encoded (points_on (64 * (h - 192)) t) ≡ h ∷ t)
unfolding encoded points_on utf8
points-both [] = (λ k. refl, λ h o k. absurd (false≢true k))
points-both (x ∷ xs) = (λ k. at (ltb x 128) refl k (points-both xs).0 (points-both xs).1, λ h o k. second h o k (points-both xs).0)
  where
    at : (t : Bool) → ltb x 128 ≡ t → utf8 false (x ∷ xs) ≡ true → (utf8 false xs ≡ true → encoded (points_on 0 xs) ≡ xs) →
        ((h : ℕ) → opens h ≡ true → utf8 true xs ≡ true → encoded (points_on (64 * (h - 192)) xs) ≡ h ∷ xs) → encoded (points_on 0 (x ∷ xs)) ≡ x ∷ xs
    at true q k a b = rw (low-opens x q, q) (ap (λ (l : List ℕ). x ∷ l) (a (utf8-low x xs q k)))
    at false q k a b = let o = utf8-high x xs q k in rw o.0 (b x o.0 o.1)

    second : (h : ℕ) → opens h ≡ true → utf8 true (x ∷ xs) ≡ true → (utf8 false xs ≡ true → encoded (points_on 0 xs) ≡ xs) →
        encoded (points_on (64 * (h - 192)) (x ∷ xs)) ≡ h ∷ x ∷ xs
    second h o k a =
        let r = opens-range h o in
        let s = utf8-second x xs k in
        let p = 64 * (h - 192) + x % 64 in
        let e : 192 + p / 64 ≡ h = omega (arith, r.0, r.1, s.0, s.1) in
        let f : 128 + p % 64 ≡ x = omega (arith, r.0, r.1, s.0, s.1) in
        ap encoded (point_second h x xs o) ∙ rw (le-ltb p 128 (omega (arith, r.0))) (rw (e, f) (ap (λ (l : List ℕ). h ∷ x ∷ l) (a s.2)))

pub encoded-points : (t : List ℕ) → utf8 false t ≡ true → encoded (points t) ≡ t
unfolding points
encoded-points t h = (points-both t).0 h

-- ---- lines of code points are the code points of lines
low_first : (x : ℕ) → ltb x 128 ≡ true → (ls : List (List ℕ)) → map points (on_first x ls) ≡ on_first x (map points ls)
unfolding on_first points points_on
low_first x q [] = rw (low-opens x q)
low_first x q (l ∷ ls) = rw (low-opens x q)

two_first : (h x : ℕ) → opens h ≡ true → (ls : List (List ℕ)) → map points (on_first h (on_first x ls)) ≡ on_first (64 * (h - 192) + x % 64) (map points ls)
unfolding on_first points points_on
two_first h x o [] = let r = opens-range h o in rw (o, ne_eqb (64 * (h - 192)) 0 (λ e. omega (arith, r.0, r.1)))
two_first h x o (l ∷ ls) = let r = opens-range h o in rw (o, ne_eqb (64 * (h - 192)) 0 (λ e. omega (arith, r.0, r.1)))

split-both : (t : List ℕ) → (utf8 false t ≡ true → split 10 (points_on 0 t) ≡ map points (split 10 t)) ×
    ((h : ℕ) → opens h ≡ true → utf8 true t ≡ true → split 10 (points_on (64 * (h - 192)) t) ≡ map points (on_first h (split 10 t)))
unfolding split points points_on utf8
split-both [] = (λ k. refl, λ h o k. absurd (false≢true k))
split-both (x ∷ xs) = (λ k. at (ltb x 128) refl k (split-both xs).0 (split-both xs).1, λ h o k. second h o k (split-both xs).0)
  where
    low : (t : Bool) → eqb x 10 ≡ t → ltb x 128 ≡ true → split 10 (points_on 0 xs) ≡ map points (split 10 xs) → split 10 (x ∷ points_on 0 xs) ≡ map points (split 10 (x ∷ xs))
    low true q l e = rw q (ap (λ (ls : List (List ℕ)). [] ∷ ls) e)
    low false q l e = rw q (ap (on_first x) e ∙ sym (low_first x l (split 10 xs)))

    at : (t : Bool) → ltb x 128 ≡ t → utf8 false (x ∷ xs) ≡ true → (utf8 false xs ≡ true → split 10 (points_on 0 xs) ≡ map points (split 10 xs)) →
        ((h : ℕ) → opens h ≡ true → utf8 true xs ≡ true → split 10 (points_on (64 * (h - 192)) xs) ≡ map points (on_first h (split 10 xs))) →
        split 10 (points_on 0 (x ∷ xs)) ≡ map points (split 10 (x ∷ xs))
    at true q k a b = rw (low-opens x q) (low (eqb x 10) refl q (a (utf8-low x xs q k)))
    at false q k a b =
        let o = utf8-high x xs q k in
        let r = opens-range x o.0 in
        rw (o.0, ne_eqb x 10 (λ e. omega (arith, r.0))) (b x o.0 o.1)

    second : (h : ℕ) → opens h ≡ true → utf8 true (x ∷ xs) ≡ true → (utf8 false xs ≡ true → split 10 (points_on 0 xs) ≡ map points (split 10 xs)) →
        split 10 (points_on (64 * (h - 192)) (x ∷ xs)) ≡ map points (on_first h (split 10 (x ∷ xs)))
    second h o k a =
        let r = opens-range h o in
        let s = utf8-second x xs k in
        let p = 64 * (h - 192) + x % 64 in
        ap (split 10) (point_second h x xs o) ∙
        rw (ne_eqb p 10 (λ e. omega (arith, r.0)), ne_eqb x 10 (λ e. omega (arith, s.0))) (ap (on_first p) (a s.2) ∙ sym (two_first h x o (split 10 xs)))

pub split-points : (t : List ℕ) → utf8 false t ≡ true → split 10 (points t) ≡ map points (split 10 t)
unfolding points
split-points t h = (split-both t).0 h
