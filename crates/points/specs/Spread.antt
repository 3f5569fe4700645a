-- The code points of a part of an area, as UTF-8 in the same place.
-- Assumes nothing.
use Rattle.std.specs.Prelude.{◌≡◌, List, ℕ, ◌≤◌, length, take}
use Rattle.std.proofs.Math.Seq.{slice}
use Rattle.rules.specs.Points.{encoded}

-- what stood from start up to end is UTF-8 up to r; below start nothing changed, and behind r nothing is said
pub record Spread (d₀ : List ℕ) (start end r : ℕ) (d : List ℕ) : Type 0 where
  pub low : start ≤ r
  pub high : r ≤ length d
  pub bytes : slice start r d ≡ encoded (slice start end d₀)
  pub below : take start d ≡ take start d₀
