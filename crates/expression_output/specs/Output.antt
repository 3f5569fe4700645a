-- Bytes laid over an output as far as it reaches, and places that stop at the last number: the writing of an expression into whatever is lent.
-- Assumes nothing.
use Rattle.std.specs.Prelude.{◌≡◌, ℕ, zero, suc, ◌+◌, min, Bool, List, [], ◌∷◌, length}
use Rattle.expression.specs.Writing.{wrap}

-- `overlay o bs s`: s with bs over it from place o on, cut off at the end of s
unfoldable pub overlay : ℕ → List ℕ → List ℕ → List ℕ
overlay o bs [] = []
overlay zero [] (x ∷ s) = x ∷ s
overlay zero (b ∷ bs) (x ∷ s) = b ∷ overlay zero bs s
overlay (suc o) bs (x ∷ s) = x ∷ overlay o bs s

-- a number that stops at 2^64 - 1
abbrev pub capped : ℕ → ℕ
capped n = min n 18446744073709551615

-- bs was put over s from o on, which left d, and r is the place behind it
abbrev pub Put : ℕ → List ℕ → List ℕ → List ℕ → ℕ → Type 0
Put o bs s d r = (d ≡ overlay o bs s) × (r ≡ capped (o + length bs))

-- whatever was put from `from` up to `to` of s stands wrapped in d, with r behind it
abbrev pub Wrapped : Bool → ℕ → ℕ → List ℕ → List ℕ → ℕ → Type 0
Wrapped or from to s d r = (bs s₀ : List ℕ) → s ≡ overlay from bs s₀ → to ≡ capped (from + length bs) → Put from (wrap or bs) s₀ d r

unfoldable pub opened : Unit {0}
unfolding overlay
opened = tt
