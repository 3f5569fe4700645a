-- The order of floats by their comparisons alone, whatever format holds them.
--     le_not         where x is at most y, y is not below x
--     lt_not         where x is below y, y is not below x
--     lt_between     what is below z is below any y from 0.0 to 1.0 that is not below z
-- Assumes nothing.
use mathlib.Core.Path.{◌≡◌, refl, ap, ◌∙◌}
use mathlib.Core.Logic.{inl, inr}
use mathlib.Core.Bool.{Bool, true, false, ◌||◌, true≢false, false≢true}
use Prim.Native.Nat.{ℕ, ◌+◌, ◌*◌, ◌≤◌, ◌<◌}
use native.Mathlib.Nat.{zero-mul, mul-pos, mul_right_comm, mul-le-mul_right, mul-lt-mul_of_pos_right, lt_of_mul-lt-mul_right, eq-zero-or-pos}
use native.Mathlib.Omega.{arith}
use lib.Dec.{T, ltb, eqb, ltb→lt, eqb→eq}
use lib.Ieee.{Float, nan, inf, fin, up, down, lt, le, eq, below, level}
use lib.Ieee.Fits.{down_pos, and_l, and_r}
use borrow.Author.Tests.{ltb-true, ltb-false, lt-ltb, le-ltb}
use Rattle.rules.specs.Refusal.{unit}
use Rattle.rules.proofs.ScoreOrder.{Finite, number, finite}

-- ---- not both
or_elim : {A : Type 0} (p q : Bool) → T (p || q) → (T p → A) → (T q → A) → A
or_elim true q t f g = f tt
or_elim false q t f g = g t

not_below : (s : Bool) (a : ℕ) (t : Bool) (b : ℕ) → T (below s a t b || level s a t b) → below t b s a ≡ false
not_below false a false b h =
    or_elim (ltb a b) (level false a false b) h (λ u. let l = ltb→lt a b u in le-ltb b a (omega arith))
    (λ u. let e = eqb→eq a b (and_l (eqb a b) true u) in le-ltb b a (omega arith))
not_below false a true b h =
    let z = eqb→eq a 0 (and_r (eqb a b) (eqb a 0) h) in
    let e = eqb→eq a b (and_l (eqb a b) (eqb a 0) h) in
    le-ltb 0 (b + a) (omega arith)
not_below true a false b h = refl
not_below true a true b h =
    or_elim (ltb b a) (level true a true b) h (λ u. let l = ltb→lt b a u in le-ltb a b (omega arith))
    (λ u. let e = eqb→eq a b (and_l (eqb a b) true u) in le-ltb a b (omega arith))

pub le_not : (x y : Float) → T (le x y) → lt y x ≡ false
unfolding le lt eq
le_not nan y h = absurd h
le_not (inf s) nan h = absurd h
le_not (inf true) (inf true) h = refl
le_not (inf true) (inf false) h = refl
le_not (inf false) (inf true) h = absurd h
le_not (inf false) (inf false) h = refl
le_not (inf true) (fin t n d) h = refl
le_not (inf false) (fin t n d) h = absurd h
le_not (fin s m e) nan h = absurd h
le_not (fin s m e) (inf true) h = absurd h
le_not (fin s m e) (inf false) h = refl
le_not (fin s m e) (fin t n d) h = not_below s (m * up e * down d) t (n * up d * down e) h

pub lt_not : (x y : Float) → lt x y ≡ true → lt y x ≡ false
unfolding le
lt_not x y h = le_not x y (rw h tt)

-- ---- between: x is X / D, y is Y / E and z is Z / F, each with its sign
some : (a b : ℕ) → 0 < a * b → 0 < a
some a b h = elim (eq-zero-or-pos a) [
  | inl z ↦ let y : a * b ≡ 0 = ap (λ (n : ℕ). n * b) z ∙ zero-mul b in absurd (omega (arith, h, y))
  | inr p ↦ p
]

module _ (X D Y E Z F : ℕ) (d : 0 < D) (e : 0 < E) (f : 0 < F) where
  across : X * F < Z * D → Z * E ≤ Y * F → X * E < Y * D
  across h k =
      let p = mul_right_comm X E F in
      let q : X * F * E < Z * D * E = mul-lt-mul_of_pos_right h e in
      let r = mul_right_comm Z D E in
      let s : Z * E * D ≤ Y * F * D = mul-le-mul_right D k in
      let t = mul_right_comm Y F D in
      let both : X * E * F < Y * D * F = omega (arith, p, q, r, s, t) in
      lt_of_mul-lt-mul_right F both

  between : (s u t : Bool) → (T t → Y ≡ 0) → below s (X * F) u (Z * D) ≡ true → below t (Y * F) u (Z * E) ≡ false → below s (X * E) t (Y * D) ≡ true
  between false false false zero h k = lt-ltb (X * E) (Y * D) (across (ltb-true (X * F) (Z * D) h) (ltb-false (Y * F) (Z * E) k))
  between false false true zero h k =
      let a = ltb-true (X * F) (Z * D) h in
      let b = ltb-false 0 (Y * F + Z * E) k in
      absurd (omega (arith, b, mul-pos (some Z D (omega (arith, a))) e))
  between false true t zero h k = absurd (false≢true h)
  between true false false zero h k =
      let a = ltb-true 0 (X * F + Z * D) h in
      let b = ltb-false (Y * F) (Z * E) k in
      lt-ltb 0 (X * E + Y * D) (elim (eq-zero-or-pos X) [
        | inl z ↦
            let y : X * F ≡ 0 = ap (λ (n : ℕ). n * F) z ∙ zero-mul F in
            let c = mul-pos (some Z D (omega (arith, a, y))) e in
            omega (arith, mul-pos (some Y F (omega (arith, b, c))) d)
        | inr p ↦ omega (arith, mul-pos p e)
      ])
  between true false true zero h k =
      let a = ltb-true 0 (X * F + Z * D) h in
      let b = ltb-false 0 (Y * F + Z * E) k in
      let y : Y * D ≡ 0 = ap (λ (n : ℕ). n * D) (zero tt) ∙ zero-mul D in
      lt-ltb (Y * D) (X * E) (elim (eq-zero-or-pos Z) [
        | inl z ↦
            let w : Z * D ≡ 0 = ap (λ (n : ℕ). n * D) z ∙ zero-mul D in
            omega (arith, y, mul-pos (some X F (omega (arith, a, w))) e)
        | inr p ↦ absurd (omega (arith, b, mul-pos p e))
      ])
  between true true false zero h k =
      let a = ltb-true (Z * D) (X * F) h in
      lt-ltb 0 (X * E + Y * D) (omega (arith, mul-pos (some X F (omega (arith, a))) e))
  between true true true zero h k =
      let a = ltb-true (Z * D) (X * F) h in
      let y : Y * D ≡ 0 = ap (λ (n : ℕ). n * D) (zero tt) ∙ zero-mul D in
      lt-ltb (Y * D) (X * E) (omega (arith, y, mul-pos (some X F (omega (arith, a))) e))

below_finite : (x y z : Float) → Finite y → lt x z ≡ true → lt y z ≡ false → lt x y ≡ true
unfolding lt
below_finite nan y z (number t n d w) h k = absurd (false≢true h)
below_finite (inf true) y z (number t n d w) h k = refl
below_finite (inf false) y nan (number t n d w) h k = absurd (false≢true h)
below_finite (inf false) y (inf u) (number t n d w) h k = absurd (false≢true h)
below_finite (inf false) y (fin u l g) (number t n d w) h k = absurd (false≢true h)
below_finite (fin s m e) y nan (number t n d w) h k = absurd (false≢true h)
below_finite (fin s m e) y (inf true) (number t n d w) h k = absurd (false≢true h)
below_finite (fin s m e) y (inf false) (number t n d w) h k = absurd (true≢false k)
below_finite (fin s m e) y (fin u l g) (number t n d w) h k =
    between (m * up e) (down e) (n * up d) (down d) (l * up g) (down g) (down_pos e) (down_pos d) (down_pos g) s u t w h k

pub lt_between : (x y z : Float) → T (unit y) → lt x z ≡ true → lt y z ≡ false → lt x y ≡ true
lt_between x y z u h k = below_finite x y z (finite y u) h k
