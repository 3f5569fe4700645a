-- One line in the byte area, made from a place on, over a scratch front as long as the line; `set` is what pass 4 takes.
-- Assumes nothing.
use Rattle.std.specs.Prelude.{◌≡◌, Bool, false, not, List, ℕ, ◌+◌, ◌*◌, ◌≤◌, length}
use Rattle.std.proofs.Math.Seq.{slice}
use Rattle.rules.specs.Bytes.{dropped, keep, runs}
use Rattle.rules.specs.Points.{points}
use Rattle.rules.specs.Lines.{urls, signs, line_by}
use Rattle.slices.specs.declared.ends.ByteSpan.{ByteSpan}

-- what line passes 2 to 5 make of a line
unfoldable pub untrimmed : (ℕ → Bool) → List ℕ → List ℕ
untrimmed set s = signs (runs set 32 false (urls false (keep (λ x. not (dropped x)) (points s))))

-- from `to` up to r stands what passes 2 to 5 make of src; between the scratch front and `to` nothing changed
pub record Filled (set : ℕ → Bool) (src d₀ : List ℕ) (to r : ℕ) (d : List ℕ) : Type 0 where
  pub low : to ≤ r
  pub high : r ≤ to + 3 * length src
  pub bytes : slice to r d ≡ untrimmed set src
  pub same : slice (length src) to d ≡ slice (length src) to d₀

-- the span r, at or behind `to`, holds the line that src becomes; between the scratch front and `to` nothing changed
pub record Placed (set : ℕ → Bool) (src d₀ : List ℕ) (to : ℕ) (r : ByteSpan) (d : List ℕ) : Type 0 where
  pub low : to ≤ r.start
  pub order : r.start ≤ r.end
  pub high : r.end ≤ to + 3 * length src
  pub bytes : slice r.start r.end d ≡ line_by set src
  pub same : slice (length src) to d ≡ slice (length src) to d₀
