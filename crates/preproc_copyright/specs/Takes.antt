-- What a matcher finds, over the rules' number, which is 0 for no hit.
-- Assumes nothing.
use Rattle.std.specs.Prelude.{◌≡◌, ℕ, ◌<◌, Option, MatchOption}

-- none, where the rules' number is 0; else that number
abbrev pub Takes : Option ℕ → ℕ → Type 0
Takes found n = MatchOption found (n ≡ 0) (λ k. (k ≡ n) × (0 < k))
