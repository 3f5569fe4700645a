-- Code points by the front of a list: a byte that opens nothing, one that opens and its second, one that opens at the end. They are no more than the
-- bytes.
-- Assumes nothing.
use mathlib.Core.Path.{◌≡◌}
use mathlib.Core.Bool.{Bool, true, false, ◌&&◌, cond}
use mathlib.Core.List.{List, [], ◌∷◌, ◌++◌}
use Prim.Native.Nat.{ℕ, suc, ◌+◌, ◌-◌, ◌*◌, ◌%◌, ◌≤◌, zero-le}
use native.Mathlib.Omega.{arith}
use lib.Dec.{eqb}
use lib.ListN.{length}
use Rattle.rules.specs.Points.{opens, points_on, points}
use Rattle.rules.proofs.PointLaws.{point_second}

module _ (x : ℕ) {l l' : List ℕ} (e : l ≡ x ∷ l') where
  pub points-one : opens x ≡ false → points l ≡ x ∷ points l'
  unfolding points points_on
  points-one h = rw (e, h)

  pub points_two : (y : ℕ) {l'' : List ℕ} → l' ≡ y ∷ l'' → opens x ≡ true → points l ≡ (64 * (x - 192) + y % 64) ∷ points l''
  unfolding points points_on
  points_two y {l''} f h = rw (e, f, h) (point_second x y l'' h)

  pub points-cut : l' ≡ [] → opens x ≡ true → points l ≡ []
  unfolding points points_on
  points-cut f h = rw (e, f, h)

pub points-end : {l : List ℕ} → l ≡ [] → points l ≡ []
unfolding points points_on
points-end e = rw e

on-length : (high : ℕ) (s : List ℕ) → length (points_on high s) ≤ length s
unfolding points_on
on-length high [] = zero-le
on-length high (x ∷ xs) = at (eqb high 0 && opens x) (λ k. on-length k xs)
  where
    at : (t : Bool) → ((k : ℕ) → length (points_on k xs) ≤ length xs) →
        length (cond t [] (cond (eqb high 0) x (high + x % 64) ∷ []) ++ points_on (cond t (64 * (x - 192)) 0) xs) ≤ suc (length xs)
    at true go = omega (arith, go (64 * (x - 192)))
    at false go = omega (arith, go 0)

pub points-length : (s : List ℕ) → length (points s) ≤ length s
unfolding points
points-length s = on-length 0 s
