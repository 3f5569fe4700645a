-- How much two tables share, as far as it matters to what has to be beaten.
-- Assumes nothing.
use Rattle.std.specs.Prelude.{◌≡◌, ℕ, ◌<◌, ◌≤◌, false}
use Rattle.rules.specs.Table.{score}
use Rattle.floors.specs.declared.Floor.{Floor}
use Rattle.floors.specs.Floors.{beats}

-- with totals a and b, to share less than w does not beat it
unfoldable pub Useless : Floor → ℕ → ℕ → ℕ → Type 0
Useless floor a b w = (m : ℕ) → m < w → m ≤ a → m ≤ b → beats floor (score m a b) ≡ false

-- r is n, unless n is less than w, and then so is r
pub record Reached (w n r : ℕ) : Type 0 where
  pub most : r ≤ n
  pub whole : w ≤ n → r ≡ n
