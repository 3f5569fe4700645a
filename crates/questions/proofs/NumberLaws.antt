-- A number read digit by digit, and written so.
-- Assumes nothing.
use mathlib.Core.Path.{◌≡◌, refl, sym, ap, ◌∙◌}
use mathlib.Core.Bool.{Bool, true, false}
use mathlib.Core.List.{List, [], ◌∷◌, ◌++◌}
use Prim.Native.Nat.{ℕ, zero, suc, ◌+◌, ◌/◌, ◌%◌, ◌^◌, ◌≤◌, ◌<◌}
use native.Mathlib.Nat.{pow-suc}
use native.Mathlib.Omega.{arith}
use lib.Dec.{ltb}
use lib.ListN.{length, drop, get_or, length-append}
use borrow.Author.Tests.{lt-ltb, le-ltb, ltb-true, ltb-false}
use Rattle.lists.proofs.SliceLaws.{drop-next, drop-done}
use Rattle.questions.specs.Numbers.{read_digits, digits, decimal}

module _ (more : ℕ → ℕ → ℕ) (s : List ℕ) (v i : ℕ) where
  pub read_next : i < length s → read_digits more v (drop i s) ≡ read_digits more (more v (get_or s i 0)) (drop (i + 1) s)
  unfolding read_digits
  read_next h = rw (drop-next s i h)

  pub read_done : length s ≤ i → read_digits more v (drop i s) ≡ v
  unfolding read_digits
  read_done h = rw (drop-done s i h)

-- ---- decimals
one-digit : (k x : ℕ) → x < 10 → digits k x ≡ (48 + x) ∷ []
unfolding digits
one-digit zero x h = refl
one-digit (suc k) x h = rw (lt-ltb x 10 h)

more_fuel : (k x : ℕ) → 10 ≤ x → digits (suc k) x ≡ digits k (x / 10) ++ (48 + x % 10) ∷ []
unfolding digits
more_fuel k x h = rw (le-ltb x 10 h)

-- any fuel that is enough gives the same
enough : (k j x : ℕ) → x ≤ k → x ≤ j → digits k x ≡ digits j x
enough zero j x p q =
    let h : x < 10 = omega arith in
    one-digit zero x h ∙ sym (one-digit j x h)
enough (suc k) zero x p q =
    let h : x < 10 = omega arith in
    one-digit (suc k) x h ∙ sym (one-digit zero x h)
enough (suc k) (suc j) x p q = at (ltb x 10) refl (λ h. enough k j (x / 10) (omega arith) (omega arith))
  where
    at : (b : Bool) → ltb x 10 ≡ b → (10 ≤ x → digits k (x / 10) ≡ digits j (x / 10)) → digits (suc k) x ≡ digits (suc j) x
    at true e r = let h = ltb-true x 10 e in one-digit (suc k) x h ∙ sym (one-digit (suc j) x h)
    at false e r = let h = ltb-false x 10 e in more_fuel k x h ∙ rw (r h) (sym (more_fuel j x h))

pub decimal-one : (x : ℕ) → x < 10 → decimal x ≡ (48 + x) ∷ []
unfolding decimal
decimal-one x h = one-digit x x h

pub decimal-more : (x : ℕ) → 10 ≤ x → decimal x ≡ decimal (x / 10) ++ (48 + x % 10) ∷ []
unfolding decimal
decimal-more zero h = absurd (none h)
  where
    none : 10 ≤ 0 → ⊥
    none h = omega arith
decimal-more (suc x) h = more_fuel x (suc x) h ∙ rw (enough x (suc x / 10) (suc x / 10) (omega arith) (omega arith))

-- ten digits at most for 32 bits
decimal-within : (k x : ℕ) → x < 10 ^ suc k → length (decimal x) ≤ suc k
decimal-within zero x h = omega (arith, ap length (decimal-one x (omega (arith, h))))
decimal-within (suc k) x h = at (ltb x 10) refl (decimal-within k (x / 10) (omega (arith, pow-suc 10 (suc k), h)))
  where
    at : (b : Bool) → ltb x 10 ≡ b → length (decimal (x / 10)) ≤ suc k → length (decimal x) ≤ suc (suc k)
    at true e r = omega (arith, ap length (decimal-one x (ltb-true x 10 e)))
    at false e r =
        omega (arith, r, ap length (decimal-more x (ltb-false x 10 e)), length-append (decimal (x / 10)) ((48 + x % 10) ∷ []))

pub decimal-length : (x : ℕ) → x < 4294967296 → length (decimal x) ≤ 10
decimal-length x h = decimal-within 9 x (omega arith)
