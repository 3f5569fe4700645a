-- `encoded` by the front of a list and by its parts; and a walk that writes it in place from the end backwards.
--     Back start end r d₀ d i w     from w up to r stands the UTF-8 of what stood from i up to end, and below i all is as it was
--     back_start, back_low, back_high, back_end
-- Assumes nothing.
use mathlib.Core.Path.{◌≡◌, refl, sym, ap, ◌∙◌}
use mathlib.Core.Bool.{Bool, true, false, ◌&&◌}
use mathlib.Core.List.{List, [], ◌∷◌, ◌++◌}
use Prim.Native.Nat.{ℕ, suc, ◌+◌, ◌-◌, ◌*◌, ◌/◌, ◌%◌, ◌≤◌, ◌<◌}
use native.Mathlib.Nat.{max-le, le-max_left, le-max_right}
use Rattle.std.specs.Prelude.{max}
use native.Mathlib.Omega.{arith}
use lib.Dec.{ltb}
use lib.ListN.{length, take, drop, set, get_or, length-append, length-set, take-append-drop}
use lib.Seq.{slice, length-slice, take-set-le, get_or-set_same, get_or-take, take-take, drop-append-le, length-take-le}
use borrow.Author.Tests.{lt-ltb, le-ltb, ltb-true, ltb-false}
use Rattle.lists.proofs.SliceLaws.{slice_next, slice_done}
use Rattle.lists.proofs.StoreLaws.{slice_set_low}
use Rattle.rules.specs.Bytes.{every}
use Rattle.rules.specs.Points.{ascii, encoded}
use Rattle.rules.proofs.GrowthLaws.{encoded-more}
use Rattle.points.specs.Spread.{Spread}

-- ---- by the front
module _ (x : ℕ) {l l' : List ℕ} where
  pub encoded-low : l ≡ x ∷ l' → x < 128 → encoded l ≡ x ∷ encoded l'
  unfolding encoded
  encoded-low e h = rw (e, lt-ltb x 128 h)

  pub encoded-high : l ≡ x ∷ l' → 128 ≤ x → encoded l ≡ (192 + x / 64) ∷ (128 + x % 64) ∷ encoded l'
  unfolding encoded
  encoded-high e h = rw (e, le-ltb x 128 h)

-- a byte for each, and one more from 128 on
pub encoded-next : (x : ℕ) {l l' : List ℕ} → l ≡ x ∷ l' → x < 256 → length (encoded l) ≡ 1 + x / 128 + length (encoded l')
encoded-next x {l} {l'} e h = at (ltb x 128) refl
  where
    at : (t : Bool) → ltb x 128 ≡ t → length (encoded l) ≡ 1 + x / 128 + length (encoded l')
    at true q = let k = ltb-true x 128 q in omega (arith, ap length (encoded-low x e k))
    at false q = let k = ltb-false x 128 q in omega (arith, ap length (encoded-high x e k))

pub encoded-end : {l : List ℕ} → l ≡ [] → encoded l ≡ []
unfolding encoded
encoded-end e = rw e

-- ---- all below 128: of the greater of two, of a list by its end
and_assoc : (a b c : Bool) → (a && b && c) ≡ (a && (b && c))
and_assoc true b c = refl
and_assoc false b c = refl

and_true : (a : Bool) → a && true ≡ a
and_true true = refl
and_true false = refl

greatest-low : (a x : ℕ) → ltb (max a x) 128 ≡ (ltb a 128 && ltb x 128)
greatest-low a x = at (ltb a 128) (ltb x 128) refl refl
  where
    at : (t u : Bool) → ltb a 128 ≡ t → ltb x 128 ≡ u → ltb (max a x) 128 ≡ (t && u)
    at true true q r =
        let h : max a x ≤ 127 = max-le (omega (arith, ltb-true a 128 q)) (omega (arith, ltb-true x 128 r)) in
        lt-ltb (max a x) 128 (omega (arith, h))
    at true false q r = le-ltb (max a x) 128 (omega (arith, le-max_right a x, ltb-false x 128 r))
    at false u q r = le-ltb (max a x) 128 (omega (arith, le-max_left a x, ltb-false a 128 q))

ascii_last : (ys : List ℕ) (x : ℕ) → ascii (ys ++ (x ∷ [])) ≡ (ascii ys && ltb x 128)
unfolding ascii every
ascii_last [] x = and_true (ltb x 128)
ascii_last (y ∷ ys) x = ap (λ (b : Bool). ltb y 128 && b) (ascii_last ys x) ∙ sym (and_assoc (ltb y 128) (ascii ys) (ltb x 128))

-- one more is read into the greatest so far
pub ascii_more : (ys : List ℕ) (a b x : ℕ) → ltb a 128 ≡ ascii ys → b ≡ max a x → ltb b 128 ≡ ascii (ys ++ (x ∷ []))
ascii_more ys a b x e q = ap (λ (n : ℕ). ltb n 128) q ∙ greatest-low a x ∙ ap (λ (t : Bool). t && ltb x 128) e ∙ sym (ascii_last ys x)

-- ---- by parts, and how long it is
pub encoded-append : (a b : List ℕ) → encoded (a ++ b) ≡ encoded a ++ encoded b
unfolding encoded
encoded-append [] b = refl
encoded-append (x ∷ a) b = at (ltb x 128) refl (encoded-append a b)
  where
    at : (t : Bool) → ltb x 128 ≡ t → encoded (a ++ b) ≡ encoded a ++ encoded b → encoded ((x ∷ a) ++ b) ≡ encoded (x ∷ a) ++ encoded b
    at true q e = rw (q, e)
    at false q e = rw (q, e)

pub encoded_twice : (s : List ℕ) → length (encoded s) ≤ 2 * length s
unfolding encoded
encoded_twice [] = omega arith
encoded_twice (x ∷ s) = at (ltb x 128) refl (encoded_twice s)
  where
    at : (t : Bool) → ltb x 128 ≡ t → length (encoded s) ≤ 2 * length s → length (encoded (x ∷ s)) ≤ 2 * length (x ∷ s)
    at true q h = rw q (omega arith)
    at false q h = rw q (omega arith)

-- no longer: all are below 128
pub encoded-same : (s : List ℕ) → length (encoded s) ≡ length s → encoded s ≡ s
unfolding encoded
encoded-same [] h = refl
encoded-same (x ∷ s) h = at (ltb x 128) refl (λ k. encoded-same s k)
  where
    at : (t : Bool) → ltb x 128 ≡ t → (length (encoded s) ≡ length s → encoded s ≡ s) → encoded (x ∷ s) ≡ x ∷ s
    at true q go =
        let k : suc (length (encoded s)) ≡ suc (length s) = rw q at h in
        rw q (ap (λ (l : List ℕ). x ∷ l) (go (omega arith)))
    at false q go =
        let k : suc (suc (length (encoded s))) ≡ suc (length s) = rw q at h in
        absurd (none k)
      where
        none : suc (suc (length (encoded s))) ≡ suc (length s) → ⊥
        none k = omega (arith, encoded-more s)

-- ---- slices
-- of two parts that meet
pub slice_join : (a b e : ℕ) (l : List ℕ) → a ≤ b → b ≤ e → b ≤ length l → slice a e l ≡ slice a b l ++ slice b e l
slice_join a b e l h k m =
    let t : take e l ≡ take b l ++ slice b e l = sym (take-append-drop b (take e l)) ∙ ap (λ (f : List ℕ). f ++ slice b e l) (take-take b e l k) in
    ap (drop a) t ∙ drop-append-le a (take b l) (slice b e l) (omega (arith, length-take-le b l m))

-- a store at its front
pub slice_set_front : (w e x : ℕ) (l : List ℕ) → w < e → e ≤ length l → slice w e (set l w x) ≡ x ∷ slice (w + 1) e l
slice_set_front w e x l h k =
    let n : length (set l w x) ≡ length l = length-set l w x in
    slice_next (set l w x) w e h (omega arith) ∙ rw (get_or-set_same l w x 0 (omega arith), slice_set_low (w + 1) e l w x (omega arith))

-- ---- the walk
pub record Back (start end r : ℕ) (d₀ d : List ℕ) (i w : ℕ) : Type 0 where
  pub long : length d ≡ length d₀
  pub low : start ≤ i
  pub order : i ≤ end
  pub within : end ≤ length d₀
  pub count : w ≡ start + length (encoded (slice start i d₀))
  pub whole : r ≡ start + length (encoded (slice start end d₀))
  pub room : r ≤ length d₀
  pub front : take i d ≡ take i d₀
  pub back : slice w r d ≡ encoded (slice i end d₀)

pub back_start : (start end r : ℕ) (d : List ℕ) → start ≤ end → end ≤ length d → r ≡ start + length (encoded (slice start end d)) → r ≤ length d → Back start end r d d end r
back_start start end r d h k q m =
    record {
      long = refl;
      low = h;
      order = omega arith;
      within = k;
      count = q;
      whole = q;
      room = m;
      front = refl;
      back = slice_done d r r (omega arith) ∙ sym (encoded-end (slice_done d end end (omega arith)));
    }

module _ {start end r i w : ℕ} {d₀ d : List ℕ} (p : Back start end r d₀ d i w) where
  parts : length (encoded (slice start end d₀)) ≡ length (encoded (slice start i d₀)) + length (encoded (slice i end d₀))
  parts = rw (slice_join start i end d₀ p.low p.order (omega arith), encoded-append) (length-append (encoded (slice start i d₀)) (encoded (slice i end d₀)))

  pub back_within : w ≤ r
  back_within = omega (arith, parts, p.count, p.whole)

  -- the writer is not behind the reader
  pub back_ahead : i ≤ w
  back_ahead = omega (arith, p.count, encoded-more (slice start i d₀), length-slice start i d₀ (omega arith))

  pub back_end : w ≤ i → Spread d₀ start end r d
  back_end h =
      let n : length (slice start i d₀) ≡ i - start = length-slice start i d₀ (omega arith) in
      let e : w ≡ i = omega (arith, back_ahead) in
      let s : encoded (slice start i d₀) ≡ slice start i d₀ = encoded-same (slice start i d₀) (omega (arith, p.count)) in
      let f : slice start i d ≡ slice start i d₀ = ap (drop start) p.front in
      let b : slice i r d ≡ encoded (slice i end d₀) = rw e at p.back in
      record {
        low = omega (arith, p.whole);
        high = omega arith;
        bytes =
            slice_join start i r d p.low (omega (arith, back_within)) (omega arith) ∙ ap (λ (l : List ℕ). l ++ slice i r d) (f ∙ sym s) ∙
            ap (λ (l : List ℕ). encoded (slice start i d₀) ++ l) b ∙ sym (encoded-append (slice start i d₀) (slice i end d₀)) ∙ ap encoded (sym (slice_join start i end d₀ p.low p.order (omega arith)));
        below = sym (take-take start i d p.low) ∙ ap (take start) p.front ∙ take-take start i d₀ p.low;
      }

  module _ (h : i < w) where
    pub back_some : start < i
    back_some = omega (arith, p.count, encoded_twice (slice start i d₀), length-slice start i d₀ (omega arith))

    -- the code point that is read
    read : get_or d (i - 1) 0 ≡ get_or d₀ (i - 1) 0
    read =
        let k : i - 1 < i = omega (arith, back_some) in
        sym (get_or-take i d (i - 1) 0 k) ∙ ap (λ (l : List ℕ). get_or l (i - 1) 0) p.front ∙ get_or-take i d₀ (i - 1) 0 k

    next : (n : ℕ) → i ≤ n → n ≤ length d₀ → slice (i - 1) n d₀ ≡ get_or d (i - 1) 0 ∷ slice i n d₀
    next n k m =
        let e : i - 1 + 1 ≡ i = omega (arith, back_some) in
        slice_next d₀ (i - 1) n (omega arith) m ∙ rw (← read, e)

    last : slice start i d₀ ≡ slice start (i - 1) d₀ ++ (get_or d (i - 1) 0 ∷ [])
    last =
        slice_join start (i - 1) i d₀ (omega (arith, back_some)) (omega arith) (omega arith) ∙
        ap (λ (l : List ℕ). slice start (i - 1) d₀ ++ l) (next i (omega arith) (omega arith) ∙ rw (slice_done d₀ i i (omega arith)))

    less : length (encoded (slice start i d₀)) ≡ length (encoded (slice start (i - 1) d₀)) + length (encoded (get_or d (i - 1) 0 ∷ []))
    less = rw (last, encoded-append) (length-append (encoded (slice start (i - 1) d₀)) (encoded (get_or d (i - 1) 0 ∷ [])))

    ahead : i - 1 ≤ start + length (encoded (slice start (i - 1) d₀))
    ahead = omega (arith, encoded-more (slice start (i - 1) d₀), length-slice start (i - 1) d₀ (omega arith), back_some)

    front_less : (e : List ℕ) → take (i - 1) e ≡ take (i - 1) d → take (i - 1) e ≡ take (i - 1) d₀
    front_less e q = q ∙ sym (take-take (i - 1) i d (omega arith)) ∙ ap (take (i - 1)) p.front ∙ take-take (i - 1) i d₀ (omega arith)

    pub back_low : get_or d (i - 1) 0 < 128 → Back start end r d₀ (set d (w - 1) (get_or d (i - 1) 0)) (i - 1) (w - 1)
    back_low l =
        let x = get_or d (i - 1) 0 in
        let n : length (encoded (x ∷ [])) ≡ suc (length (encoded [])) = ap length (encoded-low x refl l) in
        let z : length (encoded []) ≡ 0 = ap length (encoded-end refl) in
        let e : w - 1 + 1 ≡ w = omega arith in
        let c : w - 1 ≡ start + length (encoded (slice start (i - 1) d₀)) = omega (arith, p.count, less) in
        let a : i - 1 ≤ w - 1 = omega (arith, ahead) in
        record {
          long = length-set d (w - 1) x ∙ p.long;
          low = omega (arith, back_some);
          order = omega arith;
          within = p.within;
          count = c;
          whole = p.whole;
          room = p.room;
          front = front_less (set d (w - 1) x) (take-set-le (i - 1) d (w - 1) x a);
          back =
              slice_set_front (w - 1) r x d (omega (arith, back_within)) (omega arith) ∙ ap (λ (k : ℕ). x ∷ slice k r d) e ∙ ap (λ (m : List ℕ). x ∷ m) p.back ∙
              sym (encoded-low x (next end p.order p.within) l);
        }

    pub back_room : 128 ≤ get_or d (i - 1) 0 → i - 1 + 2 ≤ w
    back_room l =
        let x = get_or d (i - 1) 0 in
        let n : length (encoded (x ∷ [])) ≡ suc (suc (length (encoded []))) = ap length (encoded-high x refl l) in
        omega (arith, p.count, less, ahead)

    pub back_high : 128 ≤ get_or d (i - 1) 0 → Back start end r d₀ (set (set d (w - 1) (128 + get_or d (i - 1) 0 % 64)) (w - 1 - 1) (192 + get_or d (i - 1) 0 / 64)) (i - 1) (w - 1 - 1)
    back_high l =
        let x = get_or d (i - 1) 0 in
        let n : length (encoded (x ∷ [])) ≡ suc (suc (length (encoded []))) = ap length (encoded-high x refl l) in
        let z : length (encoded []) ≡ 0 = ap length (encoded-end refl) in
        let b = back_room l in
        let e : w - 1 + 1 ≡ w = omega arith in
        let f : w - 1 - 1 + 1 ≡ w - 1 = omega arith in
        let c : w - 1 - 1 ≡ start + length (encoded (slice start (i - 1) d₀)) = omega (arith, p.count, less) in
        let y = 128 + x % 64 in
        let v = 192 + x / 64 in
        let d₁ = set d (w - 1) y in
        let m : length d₁ ≡ length d = length-set d (w - 1) y in
        let first : slice (w - 1) r d₁ ≡ y ∷ encoded (slice i end d₀) =
        slice_set_front (w - 1) r y d (omega (arith, back_within)) (omega arith) ∙ ap (λ (k : ℕ). y ∷ slice k r d) e ∙ ap (λ (q : List ℕ). y ∷ q) p.back in
        record {
          long = length-set d₁ (w - 1 - 1) v ∙ m ∙ p.long;
          low = omega (arith, back_some);
          order = omega arith;
          within = p.within;
          count = c;
          whole = p.whole;
          room = p.room;
          front = front_less (set d₁ (w - 1 - 1) v) (take-set-le (i - 1) d₁ (w - 1 - 1) v (omega arith) ∙ take-set-le (i - 1) d (w - 1) y (omega arith));
          back =
              slice_set_front (w - 1 - 1) r v d₁ (omega (arith, back_within)) (omega arith) ∙ ap (λ (k : ℕ). v ∷ slice k r d₁) f ∙ ap (λ (q : List ℕ). v ∷ q) first ∙
              sym (encoded-high x (next end p.order p.within) l);
        }

-- nothing is left
pub back_out : {start end r : ℕ} {d₀ d : List ℕ} {i w : ℕ} → Back start end r d₀ d i w → i ≤ start → Spread d₀ start end r d
back_out {start} {end} {r} {d₀} {d} {i} {w} p h =
    let n : length (encoded (slice start i d₀)) ≡ 0 = ap length (encoded-end (slice_done d₀ start i h)) in
    back_end p (omega (arith, p.count, p.low))
