-- Texts of which every byte passes a test: taken apart and joined.
-- Assumes nothing.
use mathlib.Core.Path.{◌≡◌, refl}
use Prim.Native.Nat.{ℕ}
use mathlib.Core.Bool.{Bool, true}
use mathlib.Core.List.{List, [], ◌∷◌, ◌++◌}
use Rattle.rules.specs.Bytes.{every}
use Rattle.rules.proofs.BoolLaws.{and_left, and_right, and_both}

module _ (p : ℕ → Bool) where
  pub every_cons : (x : ℕ) (xs : List ℕ) → every p (x ∷ xs) ≡ true → (p x ≡ true) × (every p xs ≡ true)
  unfolding every
  every_cons x xs e = (and_left (p x) (every p xs) e, and_right (p x) (every p xs) e)

  pub every-both : (u v : List ℕ) → every p u ≡ true → every p v ≡ true → every p (u ++ v) ≡ true
  unfolding every
  every-both [] v h k = k
  every-both (x ∷ u) v h k = let i = every_cons x u h in and_both (p x) (every p (u ++ v)) i.0 (every-both u v i.1 k)

  pub every_back : (u v : List ℕ) → every p (u ++ v) ≡ true → every p v ≡ true
  every_back [] v h = h
  every_back (x ∷ u) v h = every_back u v (every_cons x (u ++ v) h).1

pub every_then : (p q : ℕ → Bool) → ((x : ℕ) → p x ≡ true → q x ≡ true) → (w : List ℕ) → every p w ≡ true → every q w ≡ true
unfolding every
every_then p q h [] e = refl
every_then p q h (x ∷ w) e = let i = every_cons p x w e in and_both (q x) (every q w) (h x i.0) (every_then p q h w i.1)
