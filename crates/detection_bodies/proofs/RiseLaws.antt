-- `rises` from a place on, by the bytes there.
-- Assumes nothing.
use mathlib.Core.Path.{◌≡◌, refl, ap, ◌∙◌}
use mathlib.Core.Bool.{Bool, true, false}
use mathlib.Core.List.{List, ◌∷◌}
use Prim.Native.Nat.{ℕ, ◌+◌, ◌≤◌, ◌<◌, compare, Ordering}
use native.Mathlib.Omega.{arith}
use lib.Dec.{ltb}
use lib.ListN.{length, drop, get_or}
use borrow.Author.Tests.{ltb-true, ltb-false}
use Rattle.lists.proofs.SliceLaws.{drop-next, drop-done}
use Rattle.rules.specs.Bytes.{order, rises}
use Rattle.rules.proofs.OrderLaws.{compare_is}

-- by how the first bytes compare
abbrev by : Ordering → List ℕ → List ℕ → Bool
by Ordering.lt xs ys = true
by Ordering.eq xs ys = rises xs ys
by Ordering.gt xs ys = false

told : (o : Ordering) (xs ys : List ℕ) → (elim (elim o as (λ _. Ordering) [ Ordering.lt ↦ Ordering.lt | Ordering.eq ↦ order xs ys | Ordering.gt ↦ Ordering.gt ]) as (λ _. Bool) [ Ordering.lt ↦ true | Ordering.eq ↦ false | Ordering.gt ↦ false ]) ≡ by o xs ys
unfolding rises
told Ordering.lt xs ys = refl
told Ordering.eq xs ys = refl
told Ordering.gt xs ys = refl

first : (x y : ℕ) (xs ys : List ℕ) {o : Ordering} → compare x y ≡ o → rises (x ∷ xs) (y ∷ ys) ≡ by o xs ys
unfolding rises order
first x y xs ys e = told (compare x y) xs ys ∙ ap (λ (o : Ordering). by o xs ys) e

module _ (a b : List ℕ) (i : ℕ) where
  pub rises_short : i < length a → length b ≤ i → rises (drop i a) (drop i b) ≡ false
  unfolding rises order
  rises_short h l = rw (drop-next a i h, drop-done b i l)

  pub rises_more : i < length a → i < length b → get_or a i 0 ≡ get_or b i 0 → rises (drop i a) (drop i b) ≡ rises (drop (i + 1) a) (drop (i + 1) b)
  unfolding rises
  rises_more h l e = rw (drop-next a i h, drop-next b i l) (first _ _ (drop (i + 1) a) (drop (i + 1) b) (compare_is Ordering.eq _ _ e))

  pub rises_other : i < length a → i < length b → (get_or a i 0 ≡ get_or b i 0 → ⊥) → rises (drop i a) (drop i b) ≡ ltb (get_or a i 0) (get_or b i 0)
  rises_other h l k = rw (drop-next a i h, drop-next b i l) (at (ltb (get_or a i 0) (get_or b i 0)) refl)
    where
      at : (t : Bool) → ltb (get_or a i 0) (get_or b i 0) ≡ t → rises (get_or a i 0 ∷ drop (i + 1) a) (get_or b i 0 ∷ drop (i + 1) b) ≡ t
      at true e = first _ _ (drop (i + 1) a) (drop (i + 1) b) (compare_is Ordering.lt _ _ (ltb-true _ _ e))
      at false e =
          let f : get_or b i 0 ≤ get_or a i 0 = ltb-false _ _ e in
          let g : get_or b i 0 < get_or a i 0 = omega (arith, f, k) in
          first _ _ (drop (i + 1) a) (drop (i + 1) b) (compare_is Ordering.gt _ _ g)

  pub rises_end : length a ≤ i → rises (drop i a) (drop i b) ≡ ltb i (length b)
  unfolding rises order
  rises_end h = at (ltb i (length b)) refl
    where
      at : (t : Bool) → ltb i (length b) ≡ t → rises (drop i a) (drop i b) ≡ t
      at true e = rw (drop-done a i h, drop-next b i (ltb-true _ _ e))
      at false e = rw (drop-done a i h, drop-done b i (ltb-false _ _ e))
