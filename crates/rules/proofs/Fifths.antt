-- 0.8f32 times a line count, truncated, is 4 L / 5 rounded down: `four_fifths_lem`. So the definition of aggressive pass 1 needs no float.
-- Assumes nothing.
use mathlib.Core.Path.{◌≡◌, refl, sym, ap, ◌∙◌}
use mathlib.Core.Logic.{inl, inr}
use Prim.Native.Nat.{ℕ, ◌+◌, ◌*◌, ◌-◌, ◌/◌, ◌^◌, ◌≤◌, ◌<◌, zero-le, min}
use native.Mathlib.Nat.{lt_of_lt_of_le, eq-zero-or-pos, mul-one, one-mul, mul_assoc, add-mul, le-div_iff_mul-le, div-lt_iff_lt-mul, zero-mul}
use native.Mathlib.Omega.{arith}
use mathlib.Core.Bool.{true, false}
use lib.IntN.{negsuc}
use lib.Dec.{T, lit<, lit≤}
use lib.Pow.{shl_lt}
use lib.Ieee.{Float, nan, inf, fin, binary32, round, mul, of_int, of_bits, to_unsigned, le}
use lib.Ieee.Exact.{HasValue, round_exact}
use lib.Ieee.Back.{round_whole}
use lib.Ieee.Order.{round_mono}
use lib.Ieee.Positive.{num, den, positive, den_pos, own_value, positive_of_value, values_of_le, between, mul_at}
use Rattle.rules.specs.Sizes.{lines_most}
use Rattle.rules.specs.Prefix.{four_fifths}
use Rattle.rules.specs.Table.{float}
use Rattle.rules.proofs.ScoreRound.{R, float-exact}

abbrev eighty : Float
eighty = fin false 13421773 (negsuc 23)

eighty-is : of_bits binary32 0x3f4ccccd ≡ eighty
unfolding of_bits
eighty-is = refl

to_unsigned_lem : (x : Float) → T (positive x) → to_unsigned 64 x ≡ min (num x / den x) (2 ^ 64 - 1)
unfolding to_unsigned
to_unsigned_lem nan p = absurd p
to_unsigned_lem (inf s) p = absurd p
to_unsigned_lem (fin true m e) p = absurd p
to_unsigned_lem (fin false m e) p = refl

cut : (N D q : ℕ) → 0 < D → q * D ≤ N → N * 256 ≤ (256 * q + 255) * D → N / D ≡ q
cut N D q P lo hi =
    let e : (256 * q + 255) * D ≡ 256 * (q * D) + 255 * D = add-mul (256 * q) 255 D ∙ ap (λ (z : ℕ). z + 255 * D) (mul_assoc 256 q D) in
    let f : (q + 1) * D ≡ q * D + D = add-mul q 1 D ∙ ap (λ (z : ℕ). q * D + z) (one-mul D) in
    let l : N < (q + 1) * D = omega arith in
    let a : N / D < q + 1 = (div-lt_iff_lt-mul P).1 l in
    let b : q ≤ N / D = (le-div_iff_mul-le P).1 lo in
    omega arith

-- the result lies from q to q + 255 / 256
module _ (L : ℕ) (P : 0 < L) (h : L ≤ lines_most) where
  abbrev q : ℕ
  q = 4 * L / 5

  abbrev v : Float
  v = R (13421773 * L) (2 ^ 24 * 1)

  low_half : T (le (R 1 2) v)
  low_half = round_mono binary32 1 2 (13421773 * L) (2 ^ 24 * 1) (lit< tt) (lit< tt) (omega arith)

  low-q : T (le (R q 1) v)
  low-q = round_mono binary32 q 1 (13421773 * L) (2 ^ 24 * 1) (lit< tt) (lit< tt) (omega arith)

  high-q : T (le v (R (256 * q + 255) 256))
  high-q = round_mono binary32 (13421773 * L) (2 ^ 24 * 1) (256 * q + 255) 256 (lit< tt) (lit< tt) (omega arith)

top_value : (n : ℕ) → n < 2 ^ 24 → HasValue (R n 256) false n 256
top_value n h =
    round_exact binary32 false n 256 n 141 (lit< tt) h (lt_of_lt_of_le (shl_lt 24 141 h) (lit≤ tt)) (sym (mul_assoc n (2 ^ 141) 256))

half_positive : T (positive (R 1 2))
unfolding round
half_positive = tt

truncated : (L : ℕ) → 0 < L → L ≤ lines_most → to_unsigned 64 (R (13421773 * L) (2 ^ 24 * 1)) ≡ 4 * L / 5
truncated L P h =
    let q = 4 * L / 5 in
    let n = 256 * q + 255 in
    let x = R (13421773 * L) (2 ^ 24 * 1) in
    let hv : HasValue (R n 256) false n 256 = top_value n (omega arith) in
    let ph : T (positive (R n 256)) = positive_of_value (R n 256) n 256 hv (omega arith) in
    let px : T (positive x) = between (R 1 2) x (R n 256) half_positive ph (low_half L P h) (high-q L P h) in
    let hi : num x * 256 ≤ n * den x = values_of_le x (R n 256) (num x) (den x) n 256 px ph (own_value x px) hv (high-q L P h) in
    let lo : q * den x ≤ num x = elim (eq-zero-or-pos q) [
      | inl z ↦ rw (z, zero-mul (den x)) zero-le
      | inr Q ↦
          let lv = round_whole binary32 false q (omega arith) in
          let pq = positive_of_value (R q 1) q 1 lv Q in
          rw (mul-one (num x)) at (values_of_le (R q 1) x q 1 (num x) (den x) pq px lv (own_value x px) (low-q L P h))
    ] in
    to_unsigned_lem x px ∙ ap (λ (z : ℕ). min z (2 ^ 64 - 1)) (cut (num x) (den x) q (den_pos x) lo hi) ∙ under q (omega arith)
  where
    under : (q : ℕ) → q ≤ lines_most → min q (2 ^ 64 - 1) ≡ q
    under q h = omega arith

-- 0.8f32 is the value of bits 0x3f4ccccd
pub four_fifths_lem : (L : ℕ) → L ≤ lines_most → to_unsigned 64 (mul binary32 (of_bits binary32 0x3f4ccccd) (float L)) ≡ four_fifths L
unfolding four_fifths
four_fifths_lem L h = elim (eq-zero-or-pos L) [
  | inl z ↦ rw z (unfold to_unsigned mul of_bits of_int float in refl)
  | inr P ↦
      let w = float-exact L (omega arith) in
      let p = positive_of_value (float L) L 1 w P in
      ap (λ x. to_unsigned 64 (mul binary32 x (float L))) eighty-is
      ∙ ap (to_unsigned 64) (mul_at binary32 eighty (float L) 13421773 (2 ^ 24) L 1 tt p (lit< tt) (lit< tt) (refl, refl) w)
      ∙ truncated L P h
]
