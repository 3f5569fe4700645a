-- Scores and limits, the binary32 values from 0.0 to 1.0, are ordered as whole numbers: `lt` and `le` of two of them are `ltb` and `leb`
-- of their ranks, so the order is total (`order-total`).
-- Assumes nothing.
use mathlib.Core.Path.{◌≡◌, refl, sym, ap, ap₂, ◌∙◌}
use mathlib.Core.Logic.{◌≢◌}
use Prim.Native.Nat.{ℕ, zero, suc, ◌-◌, ◌*◌, ◌/◌, ◌%◌, ◌^◌, ◌≤◌, ◌<◌, compare, Ordering}
use native.Mathlib.Nat.{lt_of_not-le, not-le_of_lt, zero-add, mul-one, mul_comm, mul_assoc, mul_right_comm, mul-pos, mul-lt-mul_of_pos_right, lt_of_mul-lt-mul_right, eq_of_mul-eq-mul_right, mul-div_cancel, div-one, zero-mul, zero-div}
use native.Mathlib.Omega.{arith}
use mathlib.Core.Bool.{Bool, true, false, ◌&&◌, ◌||◌}
use lib.IntN.{ℤ, pos, negsuc}
use lib.Dec.{T, is_le, compare_is_eq, ltb, leb, eqb, leb→le, eqb→eq}
use lib.Pow.{pow_pos, pow-lt}
use lib.Ieee.{Float, nan, inf, fin, binary32, up, down, fits, lt, le, eq, below, level}
use lib.Ieee.Fits.{down_pos, and_l, and_r}
use borrow.Author.Tests.{lt-ltb, le-ltb, eq-eqb}
use Rattle.rules.specs.Table.{nought, one, times}
use Rattle.rules.specs.Refusal.{unit}
use Rattle.rules.proofs.OrderLaws.{Compared, compared, compare_is, flip, compare_flip}
use Rattle.rules.proofs.ScoreRound.{split}

-- x in units of the format's smallest value, 2 ^ -149
abbrev pub rank : Float → ℕ
rank x = times 149 x

-- ---- what `fits` says of an m above 0: no bit lies below the smallest value, so the rank has nothing cut off
fits_down : (s : Bool) (m : ℕ) (e : ℤ) → T (fits binary32 (fin s (suc m) e)) → down e ≤ 2 ^ 149
unfolding fits
fits_down s m e t =
    let o : Bool = eqb (suc m % 2) 1 in
    let a : Bool = ltb (suc m) (2 ^ 24) in
    let c : Bool = leb (down e) (2 ^ 149) in
    leb→le (down e) (2 ^ 149) (and_r (o && a) c (and_l (o && a && c) (ltb (suc m * up e) (2 ^ 128 * down e)) t))

low-enough : (k : ℕ) → 2 ^ k ≤ 2 ^ 149 → k ≤ 149
low-enough k h = let g : k < 150 = lt_of_not-le (λ (g : 150 ≤ k). not-le_of_lt (pow-lt g) h) in less k g
  where
    less : (k : ℕ) → k < 150 → k ≤ 149
    less k h = omega arith

shift : (n k : ℕ) → k ≤ 149 → n * 2 ^ 149 / 2 ^ k * 2 ^ k ≡ n * 2 ^ 149
shift n k h =
    let e = split n 149 k h in
    ap (λ (z : ℕ). z / 2 ^ k * 2 ^ k) e ∙ ap (λ (z : ℕ). z * 2 ^ k) (mul-div_cancel (n * 2 ^ (149 - k)) (pow_pos k)) ∙ sym e

exact : (s : Bool) (m : ℕ) (e : ℤ) → T (fits binary32 (fin s m e)) → rank (fin s m e) * down e ≡ m * up e * 2 ^ 149
exact s m (pos k) t = mul-one (m * 2 ^ k * 2 ^ 149 / 1) ∙ div-one (m * 2 ^ k * 2 ^ 149)
exact s zero (negsuc k) t = ap (λ (z : ℕ). z * 2 ^ suc k) (zero-div (2 ^ suc k)) ∙ zero-mul (2 ^ suc k)
exact s (suc m) (negsuc k) t = shift (suc m * 1) (suc k) (low-enough (suc k) (fits_down s m (negsuc k) t))

-- ---- the tests of the format by `compare`, where only a zero has the sign set
abbrev is_lt : Ordering → Bool
is_lt Ordering.lt = true
is_lt Ordering.eq = false
is_lt Ordering.gt = false

ltb_is : (a b : ℕ) → ltb a b ≡ is_lt (compare a b)
ltb_is a b = go (compare a b) (compared a b)
  where
    go : (o : Ordering) → Compared o a b → ltb a b ≡ is_lt o
    go Ordering.lt h = lt-ltb a b h
    go Ordering.eq h = le-ltb a b (omega arith)
    go Ordering.gt h = le-ltb a b (omega arith)

le_is : (o : Ordering) → is_lt o || compare_is_eq o ≡ is_le o
le_is Ordering.lt = refl
le_is Ordering.eq = refl
le_is Ordering.gt = refl

below-is : (s : Bool) (a : ℕ) (t : Bool) (b : ℕ) → (T s → a ≡ 0) → (T t → b ≡ 0) → below s a t b ≡ ltb a b
below-is false a false b h k = refl
below-is false a true b h k = sym (le-ltb a b (omega (arith, k tt)))
below-is true a false b h k = rw (h tt) (ap (ltb 0) (zero-add b))
below-is true a true b h k = rw (h tt, k tt)

and_yes : (p q : Bool) → (T p → q ≡ true) → p && q ≡ p
and_yes true q e = e tt
and_yes false q e = refl

level_is : (s : Bool) (a : ℕ) (t : Bool) (b : ℕ) → (T s → a ≡ 0) → (T t → b ≡ 0) → level s a t b ≡ eqb a b
level_is false a false b h k = and_yes (eqb a b) true (λ _. refl)
level_is true a true b h k = and_yes (eqb a b) true (λ _. refl)
level_is true a false b h k = and_yes (eqb a b) (eqb a 0) (λ _. eq-eqb a 0 (h tt))
level_is false a true b h k = and_yes (eqb a b) (eqb a 0) (λ e. eq-eqb a 0 (eqb→eq a b e ∙ k tt))

-- ---- from the magnitudes to the ranks
cross_lt : (a b U c d D : ℕ) → 0 < U → a * U ≡ c * D → b * U ≡ d * D → a < b → c < d
cross_lt a b U c d D P p q h = lt_of_mul-lt-mul_right D (rw (← p, ← q) (mul-lt-mul_of_pos_right h P))

cross : (o : Ordering) (a b U c d D : ℕ) → 0 < U → 0 < D → a * U ≡ c * D → b * U ≡ d * D → Compared o a b → Compared o c d
cross Ordering.lt a b U c d D P Q p q h = cross_lt a b U c d D P p q h
cross Ordering.eq a b U c d D P Q p q h = eq_of_mul-eq-mul_right D Q c d (sym p ∙ ap (λ (z : ℕ). z * U) h ∙ q)
cross Ordering.gt a b U c d D P Q p q h = cross_lt b a U d c D P q p h

scaled : (s : Bool) (m : ℕ) (e : ℤ) (D : ℕ) → T (fits binary32 (fin s m e)) → m * up e * D * 2 ^ 149 ≡ rank (fin s m e) * (down e * D)
scaled s m e D p =
    mul_right_comm (m * up e) D (2 ^ 149) ∙ ap (λ (z : ℕ). z * D) (sym (exact s m e p)) ∙ mul_assoc (rank (fin s m e)) (down e) D

module _ (s : Bool) (m : ℕ) (e : ℤ) (t : Bool) (n : ℕ) (d : ℤ) (p : T (fits binary32 (fin s m e))) (q : T (fits binary32 (fin t n d))) where
  -- the two magnitudes over one denominator
  abbrev A : ℕ
  A = m * up e * down d

  abbrev B : ℕ
  B = n * up d * down e

  left : A * 2 ^ 149 ≡ rank (fin s m e) * (down e * down d)
  left = scaled s m e (down d) p

  right : B * 2 ^ 149 ≡ rank (fin t n d) * (down e * down d)
  right = scaled t n d (down e) q ∙ ap (λ (z : ℕ). rank (fin t n d) * z) (mul_comm (down d) (down e))

  by_rank : compare A B ≡ compare (rank (fin s m e)) (rank (fin t n d))
  by_rank =
      let x = rank (fin s m e) in
      let y = rank (fin t n d) in
      let D = down e * down d in
      sym (compare_is (compare A B) x y
      (cross (compare A B) A B (2 ^ 149) x y D (pow_pos 149) (mul-pos (down_pos e) (down_pos d)) left right (compared A B)))

-- ---- what lies from 0.0 to 1.0 is finite, and only a zero has the sign set
pub data Finite : Float → Type 0 where
  number : (s : Bool) (m : ℕ) (e : ℤ) → (T s → m * up e ≡ 0) → Finite (fin s m e)

neg_zero : (m : ℕ) (e : ℤ) → T (le nought (fin true m e)) → m * up e ≡ 0
unfolding le
neg_zero m e t =
    let z = eqb→eq (0 * down e) (m * up e * 1) (and_l (eqb (0 * down e) (m * up e * 1)) (eqb (0 * down e) 0) t) in
    sym (mul-one (m * up e)) ∙ sym z ∙ zero-mul (down e)

no_inf : (s : Bool) → T (le nought (inf s)) → T (le (inf s) one) → ⊥
unfolding le
no_inf true t u = t
no_inf false t u = u

not_nan : T (le nought nan) → ⊥
unfolding le
not_nan t = t

pub finite : (x : Float) → T (unit x) → Finite x
unfolding unit
finite nan t = absurd (not_nan (and_l (le nought nan) (le nan one) t))
finite (inf s) t = absurd (no_inf s (and_l (le nought (inf s)) (le (inf s) one) t) (and_r (le nought (inf s)) (le (inf s) one) t))
finite (fin false m e) t = number false m e (λ h. absurd h)
finite (fin true m e) t = number true m e (λ h. neg_zero m e (and_l (le nought (fin true m e)) (le (fin true m e) one) t))

-- ---- the comparisons by the ranks
by_order : (x y : Float) → T (fits binary32 x) → T (fits binary32 y) → Finite x → Finite y
    → (lt x y ≡ is_lt (compare (rank x) (rank y))) × (eq x y ≡ eqb (rank x) (rank y))
unfolding lt eq
by_order x y p q (number s m e h) (number t n d k) =
    let a = m * up e * down d in
    let b = n * up d * down e in
    let H : T s → a ≡ 0 = λ u. ap (λ (z : ℕ). z * down d) (h u) ∙ zero-mul (down d) in
    let K : T t → b ≡ 0 = λ u. ap (λ (z : ℕ). z * down e) (k u) ∙ zero-mul (down e) in
    let r = by_rank s m e t n d p q in
    (below-is s a t b H K ∙ ltb_is a b ∙ ap is_lt r, level_is s a t b H K ∙ ap compare_is_eq r)

-- exactly one of the three
pub data Ordered (x y : Float) : Type 0 where
  lower : lt x y ≡ true → lt y x ≡ false → rank x ≢ rank y → Ordered x y
  equal : lt x y ≡ false → lt y x ≡ false → rank x ≡ rank y → Ordered x y
  higher : lt x y ≡ false → lt y x ≡ true → rank x ≢ rank y → Ordered x y

module _ (x y : Float) (p : T (fits binary32 x)) (q : T (fits binary32 y)) (h : T (unit x)) (k : T (unit y)) where
  pub lt_rank : lt x y ≡ ltb (rank x) (rank y)
  lt_rank = (by_order x y p q (finite x h) (finite y k)).0 ∙ sym (ltb_is (rank x) (rank y))

  pub le_rank : le x y ≡ leb (rank x) (rank y)
  unfolding le
  le_rank = let r = by_order x y p q (finite x h) (finite y k) in ap₂ ◌||◌ r.0 r.1 ∙ le_is (compare (rank x) (rank y))

  pub order-total : Ordered x y
  order-total =
      let r = rank x in
      let s = rank y in
      go (compare r s) (compared r s) (by_order x y p q (finite x h) (finite y k)).0
      ((by_order y x q p (finite y k) (finite x h)).0 ∙ ap is_lt (compare_flip r s))
    where
      go : (o : Ordering) → Compared o (rank x) (rank y) → lt x y ≡ is_lt o → lt y x ≡ is_lt (flip o) → Ordered x y
      go Ordering.lt l a b = lower a b (λ e. omega arith)
      go Ordering.eq l a b = equal a b l
      go Ordering.gt l a b = higher a b (λ e. omega arith)
