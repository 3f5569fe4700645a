-- Texts in hex.
-- Assumes nothing.
use Rattle.std.specs.Prelude.{cond, List, [], ◌∷◌, ℕ, ◌+◌, ◌-◌, ◌*◌, ◌/◌, ◌%◌, ltb}

-- 0-9 and a-f; any other byte is worth nothing
unfoldable pub hex_value : ℕ → ℕ
hex_value x = cond (ltb x 48) 0 (cond (ltb x 58) (x - 48) (cond (ltb x 97) 0 (cond (ltb x 103) (x - 87) 0)))

abbrev pub hex_byte : ℕ → ℕ → ℕ
hex_byte high low = 16 * hex_value high + hex_value low

-- a byte for each two digits; one that is left alone, as the dash of the empty text, is none
unfoldable pub unhexed : List ℕ → List ℕ
unhexed [] = []
unhexed (x ∷ []) = []
unhexed (x ∷ y ∷ s) = hex_byte x y ∷ unhexed s

unfoldable pub hex_glyph : ℕ → ℕ
hex_glyph n = cond (ltb n 10) (48 + n) (87 + n)

unfoldable pub hex_pairs : List ℕ → List ℕ
hex_pairs [] = []
hex_pairs (x ∷ s) = hex_glyph (x / 16) ∷ hex_glyph (x % 16) ∷ hex_pairs s

unfoldable pub hexed : List ℕ → List ℕ
hexed [] = 45 ∷ []
hexed (x ∷ s) = hex_pairs (x ∷ s)
