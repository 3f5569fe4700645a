-- Bytes side by side, pair by pair.
-- Assumes nothing.
use mathlib.Core.Path.{◌≡◌, refl, ap}
use Prim.Native.Nat.{ℕ}
use mathlib.Core.Bool.{Bool, ◌&&◌}
use mathlib.Core.List.{List, [], ◌∷◌}
use lib.ListN.{drop}
use Rattle.std.specs.List.{list_all, zip}
use Rattle.expression_spelling.specs.Flat.{apart, spaced_out}

abbrev pub pair_apart : ℕ × ℕ → Bool
pair_apart p = apart p.0 p.1

pub spaced_pairs : (s : List ℕ) → spaced_out s ≡ list_all pair_apart (zip s (drop 1 s))
unfolding spaced_out
spaced_pairs [] = refl
spaced_pairs (x ∷ []) = refl
spaced_pairs (x ∷ y ∷ s) = ap (λ (b : Bool). apart x y && b) (spaced_pairs (y ∷ s))
