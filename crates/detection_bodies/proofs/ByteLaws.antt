-- A test of every byte of a list, as std has it and as the definitions do.
-- Assumes nothing.
use mathlib.Core.Path.{◌≡◌, refl, ap}
use mathlib.Core.Bool.{Bool, true, false, ◌&&◌}
use mathlib.Core.List.{List, [], ◌∷◌}
use Prim.Native.Nat.{ℕ}
use Rattle.rules.specs.Bytes.{every}
use Rattle.std.specs.List.{list_all}

pub and_false : (a : Bool) → a && false ≡ false
and_false true = refl
and_false false = refl

-- std's test of every byte is the definition's
pub every_list_all : (p : ℕ → Bool) (s : List ℕ) → list_all p s ≡ every p s
unfolding every
every_list_all p [] = refl
every_list_all p (x ∷ xs) = ap (λ (b : Bool). p x && b) (every_list_all p xs)
