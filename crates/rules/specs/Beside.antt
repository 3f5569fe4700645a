-- Ranges that a viewer draws side by side: what top-down's are where the threshold is above 0.0 (`top_down_beside` of proofs/BesideLaws.antt).
-- Assumes nothing.
use Rattle.std.specs.Prelude.{ℕ, ◌+◌, ◌≤◌, ◌<◌, List, [], ◌∷◌}
use Rattle.rules.specs.Scan.{Recorded}

-- of n lines, from line c on: each range has a line, and at least one stands between it and the next
unfoldable pub Beside : ℕ → ℕ → List Recorded → Type 0
Beside c n [] = Unit {0}
Beside c n (r ∷ rs) =
    (c ≤ r.range.first) × (r.range.first < r.range.after) × (r.range.after ≤ n) × Beside (r.range.after + 1) n rs
