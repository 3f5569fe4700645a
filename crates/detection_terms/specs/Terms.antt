-- The words of a table character by character: one of a byte below 128, or of two bytes.
-- Assumes nothing.
use Rattle.std.specs.Prelude.{ℕ, ◌+◌, ◌-◌, ◌*◌, ◌%◌, Bool, true, false, not, ◌&&◌, ◌||◌, cond, List, [], ◌∷◌, ltb, eqb}
use Rattle.rules.specs.Bytes.{within, lower, digit}
use Rattle.rules.specs.Points.{opens}

-- a code point of a word
unfoldable pub term_point : ℕ → Bool
term_point x = lower x || digit x || eqb x 95

unfoldable pub plain_term : ℕ → Bool
plain_term x = ltb x 128 && term_point x

-- x opens such a code point, and its second byte comes first in s
unfoldable pub wide_term : ℕ → List ℕ → Bool
wide_term x [] = false
wide_term x (y ∷ ys) = opens x && within 128 191 y && term_point (64 * (x - 192) + y % 64)

-- ---- byte by byte: x may stand in a word behind a byte that adds `high`, and what it adds to the next
unfoldable pub term_byte : Bool → ℕ → ℕ → Bool
term_byte wide high x =
    let first = cond (ltb x 128) (term_point x) (wide && opens x) in
    cond (eqb high 0) first (within 128 191 x && term_point (high + x % 64))

unfoldable pub next_high : Bool → ℕ → ℕ → ℕ
next_high wide high x = cond (wide && (eqb high 0 && opens x)) (64 * (x - 192)) 0

-- ---- two words, byte by byte: `second`, the space is passed; `some`, the word is not empty so far
unfoldable pub terms_from : Bool → Bool → Bool → ℕ → List ℕ → Bool
terms_from wide second some high [] = eqb high 0 && (second && some)
terms_from wide second some high (x ∷ xs) =
    cond (eqb x 32) (eqb high 0 && (not second && some && terms_from wide true false 0 xs)) (term_byte wide high x && terms_from wide second true (next_high wide high x) xs)
