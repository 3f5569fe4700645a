-- A table body in a lent output, or refusal 11 where it does not fit.
-- Assumes nothing.
use Rattle.std.specs.Prelude.{◌≡◌, cond, List, ℕ, ltb, length, Result, Ok, Err}
use Rattle.rules.specs.declared.Refusal.{Refusal}
use Rattle.rules.specs.declared.Refusal.TheVariants as refused
use Rattle.rules.specs.Jobs.{over}

-- the body stands at the front of the output, where there is room for it, and its length is known; what is there otherwise stays
pub record Bodied (body out₀ : List ℕ) (r : Result ℕ Refusal) (out : List ℕ) : Type 0 where
  pub answer : r ≡ cond (ltb (length out₀) (length body)) (Err refused.OutputShort) (Ok (length body))
  pub bytes : out ≡ cond (ltb (length out₀) (length body)) out₀ (over body out₀)
