-- Numbers in bytes, by one law over the width: m + n bytes hold the number in the first m and, 256 ^ m times as much, that in the next n.
--     number-split, number-next       it is read so; and at a place
--     number_two, number_four, number_eight      the bytes of it
--     put_bytes                       it is written so over a place
--     number-written                  what was written is read again
--     put_two                         one run of bytes after the other
-- Assumes nothing.
use mathlib.Core.Path.{◌≡◌, refl, sym, ap, ◌∙◌}
use mathlib.Core.List.{List, [], ◌∷◌, ◌++◌, append_assoc}
use Prim.Native.Nat.{ℕ, zero, suc, ◌+◌, ◌-◌, ◌*◌, ◌/◌, ◌%◌, ◌^◌, ◌≤◌, ◌<◌}
use native.Mathlib.Nat.{zero-add, suc-add, mul-zero, mul_assoc, div-one, pow-suc, pow-succ', div-div-eq-div-mul, mod-eq_of_lt, one-le-pow}
use native.Mathlib.Omega.{arith}
use borrow.Rule.Slice.PartMut.{put_mid}
use Rattle.std.specs.Int.{byte_at, bytes_low_first}
use lib.Arith.{mod-mul}
use lib.ListN.{length, get_or, take, drop, length-append}
use lib.Seq.{drop-drop, take_at, drop_at, length-take-le}
use Rattle.lists.proofs.SliceLaws.{drop-next}
use Rattle.rules.specs.Book.{number, written}
use Rattle.records.specs.Written.{put_at}

-- ---- read
number_nil : (n : ℕ) → number n [] ≡ 0
unfolding number
number_nil zero = refl
number_nil (suc n) = refl

pub number-split : (m n : ℕ) (s : List ℕ) → number (m + n) s ≡ number m s + 256 ^ m * number n (drop m s)
unfolding number
number-split zero n s = ap (λ (k : ℕ). number k s) (zero-add n) ∙ omega arith
number-split (suc m) n [] = number_nil (suc m + n) ∙ sym (ap (λ (k : ℕ). 0 + 256 ^ suc m * k) (number_nil n) ∙ ap (λ (k : ℕ). 0 + k) (mul-zero (256 ^ suc m)))
number-split (suc m) n (x ∷ xs) =
    let more = number n (drop m xs) in
    let e : 256 ^ suc m * more ≡ 256 * (256 ^ m * more) = ap (λ (k : ℕ). k * more) (pow-succ' 256 m) ∙ mul_assoc 256 (256 ^ m) more in
    ap (λ (k : ℕ). number k (x ∷ xs)) (suc-add m n) ∙ omega (arith, number-split m n xs, e)

pub number-next : (m n at : ℕ) (s : List ℕ) → number (m + n) (drop at s) ≡ number m (drop at s) + 256 ^ m * number n (drop (at + m) s)
number-next m n at s = number-split m n (drop at s) ∙ ap (λ (l : List ℕ). number m (drop at s) + 256 ^ m * number n l) (drop-drop m at s)

pub number_two : (s : List ℕ) (at : ℕ) → at + 2 ≤ length s → number 2 (drop at s) ≡ get_or s at 0 + 256 * get_or s (at + 1) 0
unfolding number
number_two s at h = rw (drop-next s at (omega arith), drop-next s (at + 1) (omega arith)) (omega arith)

same_place : (s : List ℕ) {i j : ℕ} → i ≡ j → get_or s i 0 ≡ get_or s j 0
same_place s e = ap (λ (i : ℕ). get_or s i 0) e

pub number_four : (s : List ℕ) (at : ℕ) → at + 4 ≤ length s →
    number 4 (drop at s) ≡ get_or s at 0 + 256 * get_or s (at + 1) 0 + 65536 * get_or s (at + 2) 0 + 16777216 * get_or s (at + 3) 0
number_four s at h =
    let e : at + 2 + 1 ≡ at + 3 = omega arith in
    omega (arith, number-next 2 2 at s, number_two s at (omega arith), number_two s (at + 2) (omega arith), same_place s e)

pub number_eight : (s : List ℕ) (at : ℕ) → at + 8 ≤ length s →
    number 8 (drop at s) ≡ get_or s at 0 + 256 * get_or s (at + 1) 0 + 65536 * get_or s (at + 2) 0 + 16777216 * get_or s (at + 3) 0 +
    4294967296 * get_or s (at + 4) 0 + 1099511627776 * get_or s (at + 5) 0 + 281474976710656 * get_or s (at + 6) 0 + 72057594037927936 * get_or s (at + 7) 0
number_eight s at h =
    let e : at + 4 + 1 ≡ at + 5 = omega arith in
    let f : at + 4 + 2 ≡ at + 6 = omega arith in
    let g : at + 4 + 3 ≡ at + 7 = omega arith in
    omega (
      arith,
      number-next 4 4 at s,
      number_four s at (omega arith),
      number_four s (at + 4) (omega arith),
      same_place s e,
      same_place s f,
      same_place s g,
    )

-- ---- written
pub length-written : (n x : ℕ) → length (written n x) ≡ n
unfolding written
length-written zero x = refl
length-written (suc n) x = ap suc (length-written n (x / 256))

-- the low digits of x, to the base 256
low : (m x : ℕ) → x % 256 ^ suc m ≡ (x / 256 % 256 ^ m) * 256 + x % 256
low m x = ap (λ (k : ℕ). x % k) (pow-suc 256 m) ∙ mod-mul x (one-le-pow m 256 (omega arith)) (omega arith)

-- as the library writes it: k bytes of x, from byte i on
bytes_written : (k i x : ℕ) → bytes_low_first i k x ≡ written k (x / 256 ^ i)
unfolding written
bytes_written zero i x = refl
bytes_written (suc k) i x =
    ap (λ (b : ℕ). b ∷ bytes_low_first (suc i) k x) (first i) ∙ ap (λ (l : List ℕ). x / 256 ^ i % 256 ∷ l) (bytes_written k (suc i) x ∙ ap (written k) (sym (less i)))
  where
    first : (i : ℕ) → byte_at i x ≡ x / 256 ^ i % 256
    first zero = ap (λ (n : ℕ). n % 256) (sym (div-one x))
    first (suc i) = refl

    less : (i : ℕ) → x / 256 ^ i / 256 ≡ x / 256 ^ suc i
    less i = div-div-eq-div-mul x (256 ^ i) 256 ∙ ap (λ (k : ℕ). x / k) (sym (pow-suc 256 i))

-- over the n bytes of s at a place
pub put_bytes : (n at x : ℕ) (s ys : List ℕ) → ys ≡ bytes_low_first 0 n x → put_mid at (at + n - at) s ys ≡ put_at at (written n x) s
unfolding put_at
put_bytes n at x s ys h =
    let e : at + n - at ≡ n = omega arith in
    let w : ys ≡ written n x = h ∙ bytes_written n 0 x ∙ ap (written n) (div-one x) in
    ap (λ (k : ℕ). put_mid at k s ys) e ∙ ap (λ (l : List ℕ). put_mid at n s l) w ∙ sym (append_assoc (take at s) (written n x) (drop n (drop at s))) ∙
    ap (λ (l : List ℕ). take at s ++ written n x ++ l) (drop-drop n at s ∙ ap (λ (k : ℕ). drop (at + k) s) (sym (length-written n x)))

-- ---- written, and read again
pub number-written : (n x : ℕ) (s : List ℕ) → number n (written n x ++ s) ≡ x % 256 ^ n
unfolding number written
number-written zero x s = omega arith
number-written (suc n) x s = omega (arith, number-written n (x / 256) s, low n x)

pub number_again : (n x : ℕ) (s : List ℕ) → x < 256 ^ n → number n (written n x ++ s) ≡ x
number_again n x s h = number-written n x s ∙ mod-eq_of_lt h

-- ---- one run of bytes after the other
pub put_two : (at : ℕ) (a b d : List ℕ) → at + length a ≤ length d → put_at (at + length a) b (put_at at a d) ≡ put_at at (a ++ b) d
unfolding put_at
put_two at a b d h =
    let l : length (take at d ++ a) ≡ at + length a = length-append (take at d) a ∙ omega (arith, length-take-le at d (omega arith)) in
    let k : at + length a + length b ≡ at + length (a ++ b) = omega (arith, length-append a b) in
    let front = take at d ++ a in
    let whole = front ++ drop (at + length a) d in
    ap (λ (l : List ℕ). l ++ b ++ drop (at + length a + length b) whole) (take_at front (drop (at + length a) d) (at + length a) l) ∙
    ap (λ (l : List ℕ). front ++ b ++ l)
    (sym (drop-drop (length b) (at + length a) whole) ∙ ap (drop (length b)) (drop_at front (drop (at + length a) d) (at + length a) l) ∙
    drop-drop (length b) (at + length a) d ∙ ap (λ (n : ℕ). drop n d) k) ∙
    ap (λ (l : List ℕ). l ++ drop (at + length (a ++ b)) d) (append_assoc (take at d) a b)
