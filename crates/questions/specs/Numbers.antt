-- Numbers read digit by digit, from the highest on; the bytes of one, and its digits.
-- Assumes nothing.
use Rattle.std.specs.Prelude.{cond, List, [], ◌∷◌, ◌++◌, ℕ, zero, suc, ◌+◌, ◌-◌, ◌*◌, ◌/◌, ◌%◌, min, ltb}
use Rattle.questions.specs.Hex.{hex_value}

-- all digits, after v
unfoldable pub read_digits : (ℕ → ℕ → ℕ) → ℕ → List ℕ → ℕ
read_digits more v [] = v
read_digits more v (x ∷ s) = read_digits more (more v x) s

-- 0-9; any other byte is worth nothing
unfoldable pub digit_value : ℕ → ℕ
digit_value x = cond (ltb x 48) 0 (cond (ltb x 58) (x - 48) 0)

-- one digit more; a number that does not fit is the greatest
unfoldable pub more_digits : ℕ → ℕ → ℕ
more_digits v x = min (10 * v + digit_value x) 18446744073709551615

-- one hex digit more; of more than eight the last eight count
unfoldable pub more_bits : ℕ → ℕ → ℕ
more_bits v x = 16 * (v % 268435456) + hex_value x

-- the bytes of a number, the highest first
unfoldable pub four_bytes : ℕ → List ℕ
four_bytes x = x / 16777216 ∷ x / 65536 % 256 ∷ x / 256 % 256 ∷ x % 256 ∷ []

-- a number in decimal; k is fuel, at least the number
unfoldable pub digits : ℕ → ℕ → List ℕ
digits zero x = (48 + x) ∷ []
digits (suc k) x = cond (ltb x 10) ((48 + x) ∷ []) (digits k (x / 10) ++ (48 + x % 10) ∷ [])

unfoldable pub decimal : ℕ → List ℕ
decimal x = digits x x
