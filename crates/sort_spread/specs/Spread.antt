-- What a pass by a byte counts, and what it keeps: the same starts in whatever order.
-- Assumes nothing.
use Rattle.std.specs.Prelude.{◌≡◌, Bool, List, [], ◌∷◌, ℕ, ◌+◌, ◌<◌, ltb, eqb, length, get_or}
use Rattle.sort_spread.specs.Sort.{count_of}

-- the byte d places past a start; 0 past the text's end
abbrev pub byte_from : ℕ → List ℕ → ℕ → ℕ
byte_from d s x = get_or s (x + d) 0

-- how many have the key b, and how many a lower one
abbrev pub keyed : (ℕ → ℕ) → List ℕ → ℕ → ℕ
keyed key xs b = count_of (λ x. eqb (key x) b) xs

abbrev pub keyed_below : (ℕ → ℕ) → List ℕ → ℕ → ℕ
keyed_below key xs b = count_of (λ x. ltb (key x) b) xs

-- the sum of some numbers
unfoldable pub added : List ℕ → ℕ
added [] = 0
added (x ∷ xs) = x + added xs

-- the counters of the 256 bytes hold f
pub record Counters (f : ℕ → ℕ) (c : List ℕ) : Type 0 where
  pub all : length c ≡ 256
  pub each : (b : ℕ) → b < 256 → get_or c b 0 ≡ f b

-- the same elements: as many of each kind
abbrev pub Shuffled : List ℕ → List ℕ → Type 0
Shuffled xs ys = (q : ℕ → Bool) → count_of q xs ≡ count_of q ys
