-- Which refusal comes where more is used of an allowance than its cap.
-- Assumes nothing.
use Rattle.std.specs.Prelude.{cond, ℕ, eqb}

-- n, what is refused before any work, comes first
abbrev pub or_overdrawn : ℕ → ℕ
or_overdrawn n = cond (eqb n 0) 17 n
