-- A law of the classes that no walk here needs any more: one range of classes given twice is that range.
-- Assumes nothing.
use mathlib.Core.Path.{◌≡◌, refl, fun_ext}
use mathlib.Core.Bool.{Bool, true, false, ◌||◌}
use mathlib.Core.List.{List}
use Prim.Native.Nat.{ℕ}
use Rattle.slices.specs.Classes.{in_class, in_either}

pub either_same : (t : List ℕ) (lo hi : ℕ) → in_either t lo hi lo hi ≡ in_class t lo hi
unfolding in_either
either_same t lo hi = fun_ext (λ x. twice (in_class t lo hi x))
  where
    twice : (b : Bool) → (b || b) ≡ b
    twice true = refl
    twice false = refl
