-- 2 m / t rounded once to binary32: what the division of two exact whole numbers is (`quotient`), where it is 1.0 (`one_at`, `below_one`)
-- and 0.0 (`zero_at`, `above_zero`), and how far it lies from the fraction (`close`).
-- Assumes nothing.
use mathlib.Core.Path.{◌≡◌, refl, sym, ap, ◌∙◌, subst}
use mathlib.Core.Logic.{inl, inr}
use Prim.Native.Nat.{ℕ, suc, ◌+◌, ◌-◌, ◌*◌, ◌/◌, ◌%◌, ◌^◌, ◌≤◌, ◌<◌, compare, Ordering}
use native.Mathlib.Nat.{le_trans, le_of_eq, le_of_lt, lt_of_lt_of_le, lt_of_le_of_lt, eq-or-lt_of_le, eq-zero-or-pos, zero-mul, mul-one, one-mul, mul_comm, mul_assoc, mul_left_comm, mul_right_comm, add-mul, mul-add, mul-le-mul_right, mul-le-mul_left, mul-lt-mul_of_pos_right, le_of_mul-le-mul_right, eq_of_mul-eq-mul_right, mul-pos, mod-lt, lt_of_not-le, not-le_of_lt, div-add-mod', le-div_iff_mul-le, div-lt_iff_lt-mul, mul-div_cancel}
use native.Mathlib.Omega.{arith}
use mathlib.Core.Bool.{true, false, cond, true≢false}
use lib.Dec.{T, eqb, lit<, lit≤}
use lib.Pow.{pow-add, pow_pos, pow_mono}
use lib.Ieee.{Float, nan, inf, fin, Format, binary32, up, down, size, nearest, round, div, of_int, le}
use lib.Ieee.Digits.{size-le, size-lt, back}
use lib.Ieee.Fits.{nearest-le, down_pos}
use lib.Ieee.Exact.{HasValue}
use lib.Ieee.Back.{round_whole}
use lib.Ieee.Nearest.{closest, nearest-ge}
use lib.Ieee.Order.{drop, kept, round_mono}
use lib.Ieee.Positive.{first_pos}
use lib.Ieee.Scale.{round_same, grid, overflow, round_val}
use borrow.Author.Tests.{ne_eqb}
use Rattle.rules.specs.Table.{nought, one, float, times, Close}
use Rattle.rules.proofs.OrderLaws.{Compared, compared}

-- ---- the division of two whole numbers that the format holds
no_zero : (n : ℕ) (x y : Float) → 0 < n → cond (eqb n 0) x y ≡ y
no_zero n x y h = rw (ne_eqb n 0 (λ z. omega arith))

div_at : (f : Format) (x y : Float) (a b : ℕ) → 0 < b → HasValue x false a 1 → HasValue y false b 1 → div f x y ≡ round f false a b
unfolding div
div_at f nan y a b B h k = absurd h
div_at f (inf s) y a b B h k = absurd h
div_at f (fin true m e) y a b B h k = absurd (true≢false h.0)
div_at f (fin false m e) nan a b B h k = absurd k
div_at f (fin false m e) (inf t) a b B h k = absurd k
div_at f (fin false m e) (fin true n d) a b B h k = absurd (true≢false k.0)
div_at f (fin false m e) (fin false n d) a b B h k =
    let hx : m * up e ≡ a * down e = sym (mul-one (m * up e)) ∙ h.1 in
    let ky : n * up d ≡ b * down d = sym (mul-one (n * up d)) ∙ k.1 in
    let N : 0 < n * up d = subst (λ (z : ℕ). 0 < z) (sym ky) (mul-pos B (down_pos d)) in
    let mid : a * down e * down d * b ≡ a * (b * down d * down e) = simp (mul_assoc, mul_comm, mul_left_comm) in
    no_zero n _ (round f false (m * up e * down d) (n * up d * down e)) (first_pos n (up d) N)
    ∙ round_same f false (m * up e * down d) (n * up d * down e) a b (mul-pos N (down_pos e)) B
    (ap (λ (z : ℕ). z * down d * b) hx ∙ mid ∙ ap (λ (z : ℕ). a * (z * down e)) (sym ky))

-- a whole number up to 2 ^ 24 is exact
pub float-exact : (n : ℕ) → n ≤ 2 ^ 24 → HasValue (float n) false n 1
unfolding float of_int
float-exact n h = round_whole binary32 false n h

-- n / t rounded once
abbrev pub R : ℕ → ℕ → Float
R n t = round binary32 false n t

pub quotient : (n t : ℕ) → n ≤ 2 ^ 24 → 0 < t → t ≤ 2 ^ 24 → div binary32 (float n) (float t) ≡ R n t
quotient n t h P k = div_at binary32 (float n) (float t) n t P (float-exact n h) (float-exact t k)

-- ---- 1.0 and 0.0
pub one_at : (t : ℕ) → 0 < t → R t t ≡ one
unfolding round
one_at t P = round_same binary32 false t t 1 1 P (lit< tt) (mul-one t ∙ sym (one-mul t))

pub zero_at : (t : ℕ) → 0 < t → R 0 t ≡ nought
unfolding round
zero_at t P = round_same binary32 false 0 t 0 1 P (lit< tt) (zero-mul 1 ∙ sym (zero-mul t))

-- R (2 ^ 24 - 1) (2 ^ 24) is the largest value below 1.0, and R 1 (2 ^ 24) lies above 0.0
one_not : T (le one (R 16777215 (2 ^ 24))) → ⊥
unfolding round le
one_not t = t

pub below_one : (n t : ℕ) → n < t → t ≤ 2 ^ 24 → R n t ≡ one → ⊥
below_one n t h k e =
    one_not (rw (← e) (round_mono binary32 n t 16777215 (2 ^ 24) (omega arith) (lit< tt) (omega arith)))

zero_not : T (le (R 1 (2 ^ 24)) nought) → ⊥
unfolding round le
zero_not t = t

pub above_zero : (n t : ℕ) → 0 < n → 0 < t → t ≤ 2 ^ 24 → R n t ≡ nought → ⊥
above_zero n t h P k e = zero_not (rw (← e) (round_mono binary32 1 (2 ^ 24) n t (lit< tt) P (omega arith)))

-- ---- the nearest whole number is within a half
abbrev Within : ℕ → ℕ → ℕ → Type 0
Within v a b = (v * b * 2 ≤ a * 2 + b) × (a * 2 ≤ v * b * 2 + b)

suc_mul' : (q b : ℕ) → suc q * b ≡ q * b + b
suc_mul' q b = omega arith

within : (q r b : ℕ) (o : Ordering) → r < b → Compared o (r * 2) b → Within (nearest q o) (q * b + r) b
within q r b Ordering.lt h c = omega arith
within q r b Ordering.eq h c =
    let u : (q + q % 2) * b ≤ q * b + b = le_trans (mul-le-mul_right b (nearest-le q Ordering.eq)) (le_of_eq (suc_mul' q b)) in
    let l : q * b ≤ (q + q % 2) * b = mul-le-mul_right b (nearest-ge q Ordering.eq) in
    omega arith
within q r b Ordering.gt h c = let e : suc q * b ≡ q * b + b = suc_mul' q b in omega arith

closest_within : (a b : ℕ) → 0 < b → Within (closest a b) a b
closest_within a b B =
    subst (λ (z : ℕ). Within (closest a b) z b) (div-add-mod' a b)
    (within (a / b) (a % b) b (compare (a % b * 2) b) (mod-lt a B) (compared (a % b * 2) b))

-- ---- n / t below 1, in units of 2 ^ -149. `omega` reads no number of more than 38 digits, so the powers are kept out of its reach
halve : (g g' N w v : ℕ) → (g' * 2 ≤ N * 2 + w) × (N * 2 ≤ g' * 2 + w) → g' ≡ g → w ≤ v * 2 → (g ≤ N + v) × (N ≤ g + v)
halve g g' N w v c e h = omega arith

few : (z : ℕ) → z ≤ 149 → z - 24 ≤ 125
few z h = omega arith

many : (z : ℕ) → 126 < z → 103 ≤ z - 24
many z h = omega arith

join : (g X Y Z W : ℕ) → g ≤ X + Y → X ≤ Z → Y ≤ Z → Z + Z ≡ W → g ≤ W
join g X Y Z W h a b e = omega arith

units_close : (n t : ℕ) → 0 < t → n < t
    → (grid binary32 n t * t ≤ n * 2 ^ 149 + t * 2 ^ 124) × (n * 2 ^ 149 ≤ grid binary32 n t * t + t * 2 ^ 124)
units_close n t P h =
    let N = n * 2 ^ 149 in
    let k = drop 24 N t in
    let under : N < 2 ^ 149 * t = lt_of_lt_of_le (mul-lt-mul_of_pos_right h (pow_pos 149)) (le_of_eq (mul_comm t (2 ^ 149))) in
    let k125 : k ≤ 125 = few (size (N / t)) (size-le (N / t) 149 ((div-lt_iff_lt-mul P).1 under)) in
    let w : t * 2 ^ k ≤ t * 2 ^ 124 * 2 = le_trans (mul-le-mul_left t (pow_mono k125)) (le_of_eq (sym (mul_assoc t (2 ^ 124) 2))) in
    let K = closest N (t * 2 ^ k) in
    let e : K * (t * 2 ^ k) ≡ K * 2 ^ k * t = ap (λ (z : ℕ). K * z) (mul_comm t (2 ^ k)) ∙ sym (mul_assoc K (2 ^ k) t) in
    let c = closest_within N (t * 2 ^ k) (mul-pos P (pow_pos k)) in
    halve (K * 2 ^ k * t) (K * (t * 2 ^ k)) N (t * 2 ^ k) (t * 2 ^ 124) c e w

size_gt : (n j : ℕ) → 2 ^ j ≤ n → j < size n
size_gt n j h = lt_of_not-le (λ (g : size n ≤ j). not-le_of_lt (lt_of_lt_of_le (size-lt n) (pow_mono g)) h)

dropped : (n t : ℕ) → 0 < t → t ≤ 2 ^ 24 → 2 ≤ n → 103 ≤ drop 24 (n * 2 ^ 149) t
dropped n t P L h =
    let N = n * 2 ^ 149 in
    let l : 2 ^ 126 * t ≤ N = le_trans (mul-le-mul_left (2 ^ 126) L) (mul-le-mul_right (2 ^ 149) h) in
    many (size (N / t)) (size_gt (N / t) 126 ((le-div_iff_mul-le P).1 l))

grid_under : (n t : ℕ) → 0 < t → n < t → grid binary32 n t < overflow binary32
grid_under n t P h =
    let e : t * 2 ^ 149 + t * 2 ^ 149 ≡ 2 ^ 150 * t = sym (mul-add t (2 ^ 149) (2 ^ 149)) ∙ mul_comm t (2 ^ 150) in
    let l : grid binary32 n t * t ≤ 2 ^ 150 * t =
    join (grid binary32 n t * t) (n * 2 ^ 149) (t * 2 ^ 124) (t * 2 ^ 149) (2 ^ 150 * t)
    (units_close n t P h).0 (mul-le-mul_right (2 ^ 149) (le_of_lt h)) (mul-le-mul_left t (lit≤ tt)) e in
    lt_of_le_of_lt (le_of_mul-le-mul_right l P) (lit< tt)

-- ---- r times 2 ^ 46
pub split : (n k j : ℕ) → j ≤ k → n * 2 ^ k ≡ n * 2 ^ (k - j) * 2 ^ j
split n k j h =
    ap (λ (z : ℕ). n * 2 ^ z) (sym (back k j h)) ∙ ap (λ (z : ℕ). n * z) (pow-add 2 (k - j) j) ∙ sym (mul_assoc n (2 ^ (k - j)) (2 ^ j))

narrow : (x : Float) (S : ℕ) → HasValue x false (S * 2 ^ 103) (2 ^ 149) → HasValue x false S (2 ^ 46)
narrow nan S v = v
narrow (inf t) S v = v
narrow (fin t m e) S v =
    let q = mul_assoc (m * up e) (2 ^ 46) (2 ^ 103) ∙ v.1 ∙ mul_right_comm S (2 ^ 103) (down e) in
    (v.0, eq_of_mul-eq-mul_right (2 ^ 103) (pow_pos 103) (m * up e * 2 ^ 46) (S * down e) q)

times-of : (k : ℕ) (x : Float) (S : ℕ) → HasValue x false S (2 ^ k) → times k x ≡ S
times-of k nan S v = absurd v
times-of k (inf t) S v = absurd v
times-of k (fin t m e) S v = ap (λ (z : ℕ). z / down e) v.1 ∙ mul-div_cancel S (down_pos e)

-- ---- the distance
pub close_zero : (t : ℕ) → Close 0 t nought
close_zero t = record { exact = (refl, refl); at_most = omega arith; at_least = omega arith }

close_one : (m : ℕ) → Close m (2 * m) one
close_one m = record { exact = (refl, refl); at_most = omega arith; at_least = omega arith }

close_by : (m t S : ℕ) (r : Float) → HasValue r false S (2 ^ 46)
    → S * t ≤ 2 * m * 2 ^ 46 + t * 2 ^ 21 → 2 * m * 2 ^ 46 ≤ S * t + t * 2 ^ 21 → Close m t r
close_by m t S r v a b =
    let e = times-of 46 r S v in
    record { exact = rw e v; at_most = rw e a; at_least = rw e b }

both : (a t : ℕ) → (a + t * 2 ^ 21) * 2 ^ 103 ≡ a * 2 ^ 103 + t * 2 ^ 124
both a t = add-mul a (t * 2 ^ 21) (2 ^ 103) ∙ ap (λ (z : ℕ). a * 2 ^ 103 + z) (mul_assoc t (2 ^ 21) (2 ^ 103))

close_mid : (m t : ℕ) → 0 < t → t ≤ 2 ^ 24 → 2 ≤ 2 * m → 2 * m < t → Close m t (R (2 * m) t)
close_mid m t P L h l =
    let n = 2 * m in
    let N = n * 2 ^ 149 in
    let k = drop 24 N t in
    let K = kept 24 N t in
    let S = K * 2 ^ (k - 103) in
    let g : K * 2 ^ k ≡ S * 2 ^ 103 = split K k 103 (dropped n t P L h) in
    let v = subst (λ (z : ℕ). HasValue (R n t) false z (2 ^ 149)) g (round_val binary32 n t (grid_under n t P l)) in
    let c = units_close n t P l in
    let e : K * 2 ^ k * t ≡ S * t * 2 ^ 103 = ap (λ (z : ℕ). z * t) g ∙ mul_right_comm S (2 ^ 103) t in
    let f : n * 2 ^ 46 * 2 ^ 103 ≡ N = mul_assoc n (2 ^ 46) (2 ^ 103) in
    let a = both (n * 2 ^ 46) t ∙ ap (λ (z : ℕ). z + t * 2 ^ 124) f in
    let b = both (S * t) t ∙ ap (λ (z : ℕ). z + t * 2 ^ 124) (sym e) in
    close_by m t S (R n t) (narrow (R n t) S v)
    (le_of_mul-le-mul_right (le_trans (le_of_eq (sym e)) (le_trans c.0 (le_of_eq (sym a)))) (pow_pos 103))
    (le_of_mul-le-mul_right (le_trans (le_of_eq f) (le_trans c.1 (le_of_eq (sym b)))) (pow_pos 103))

pub close : (m t : ℕ) → 0 < t → t ≤ 2 ^ 24 → 2 * m ≤ t → Close m t (R (2 * m) t)
close m t P L l = elim (eq-zero-or-pos m) [
  | inl z ↦ rw (z, zero_at t P) (close_zero t)
  | inr M ↦ elim (eq-or-lt_of_le l) [
    | inl e ↦ rw (← e, one_at (2 * m) (omega arith)) (close_one m)
    | inr g ↦ close_mid m t P L (omega arith) g
  ]
]
