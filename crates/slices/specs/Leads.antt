-- How many bytes a closure's test leads with, by what its calls may answer.
-- Assumes nothing.
use Rattle.std.specs.Prelude.{◌≡◌, ℕ, Bool, List, drop}
use Rattle.rules.specs.Bytes.{lead}

-- n bytes from `at` on, by every test p of the rules that the calls answer
abbrev pub Leads : (ℕ → Bool → Type 0) → List ℕ → ℕ → ℕ → Type 0
Leads gives s at n = (p : ℕ → Bool) → ((x : ℕ) (r : Bool) → gives x r → r ≡ p x) → n ≡ lead p (drop at s)
