-- `starts` and `common` from a place on, by the bytes there; `order`, `same` and `rises` are the library's words for slices.
-- Assumes nothing.
use mathlib.Core.Path.{◌≡◌, refl, ap, ◌∙◌}
use mathlib.Core.Bool.{Bool, true, false, ◌&&◌, cond}
use mathlib.Core.List.{List, [], ◌∷◌}
use Prim.Native.Nat.{ℕ, suc, ◌+◌, ◌≤◌, ◌<◌, compare, Ordering as Told}
use native.Mathlib.Omega.{arith}
use lib.Dec.{eqb, compare_is_eq}
use lib.ListN.{length, drop, get_or}
use borrow.Author.Tests.{eq-eqb, ne_eqb}
use lib.Pointwise.{pointwise}
use Rattle.std.proofs.lemmas.Cmp.{ranked}
use Rattle.std.specs.Prelude.{nat_eq}
use Rattle.std.specs.declared.cmp.Ordering.{Ordering}
use Rattle.std.specs.declared.cmp.Ordering.TheVariants.{Less, Equal, Greater}
use Rattle.std.specs.Ordering.{nat_cmp, ordering_then, is_lt, MatchOrdering}
use Rattle.std.specs.Cmp.Lexicographic.{slice_cmp}
use Rattle.rules.specs.Prefix.{common}
use Rattle.lists.proofs.SliceLaws.{drop-next, drop-done}
use Rattle.rules.specs.Bytes.{starts, order, same, rises}
use Rattle.rules.proofs.OrderLaws.{compare_is}
use Rattle.rules.proofs.HitLaws.{starts-length}
use Rattle.slices_order.specs.Order.{ordering_of}

-- ---- one starts with the other: a shorter one never does; and from a place on
pub starts-short : (w s : List ℕ) → length s < length w → starts w s ≡ false
starts-short w s h = at (starts w s) refl
  where
    at : (t : Bool) → starts w s ≡ t → starts w s ≡ false
    at true e = absurd (omega (arith, starts-length w s e))
    at false e = e

module _ (w s : List ℕ) (i : ℕ) where
  pub starts-done : length w ≤ i → starts (drop i w) (drop i s) ≡ true
  unfolding starts
  starts-done h = rw (drop-done w i h)

  pub starts_other : i < length w → i < length s → (get_or w i 0 ≡ get_or s i 0 → ⊥) → starts (drop i w) (drop i s) ≡ false
  unfolding starts
  starts_other h l e = rw (drop-next w i h, drop-next s i l, ne_eqb _ _ e)

  pub starts_more : i < length w → i < length s → get_or w i 0 ≡ get_or s i 0 →
      starts (drop i w) (drop i s) ≡ starts (drop (i + 1) w) (drop (i + 1) s)
  unfolding starts
  starts_more h l e = rw (drop-next w i h, drop-next s i l, eq-eqb _ _ e)

-- ---- the order
told : (x y : ℕ) (r : Ordering) → MatchOrdering r (x < y) (x ≡ y) (y < x) → r ≡ ordering_of (compare x y)
unfolding ordering_of
told x y Less h = rw (compare_is Told.lt x y h)
told x y Equal h = rw (compare_is Told.eq x y h)
told x y Greater h = rw (compare_is Told.gt x y h)

then_of : (o p : Told) → ordering_then (ordering_of o) (ordering_of p) ≡ ordering_of (elim o [ Told.lt ↦ Told.lt | Told.eq ↦ p | Told.gt ↦ Told.gt ])
unfolding ordering_of
then_of Told.lt p = refl
then_of Told.eq p = refl
then_of Told.gt p = refl

pub order_is : (a b : List ℕ) → slice_cmp nat_cmp a b ≡ ordering_of (order a b)
unfolding order ordering_of
order_is [] [] = refl
order_is [] (y ∷ b) = refl
order_is (x ∷ a) [] = refl
order_is (x ∷ a) (y ∷ b) =
    ap (λ (o : Ordering). ordering_then o (slice_cmp nat_cmp a b)) (told x y (nat_cmp x y) (ranked x y (nat_cmp x y) refl)) ∙
    ap (λ (o : Ordering). ordering_then (ordering_of (compare x y)) o) (order_is a b) ∙ then_of (compare x y) (order a b)

eq_then : (o p : Told) → (compare_is_eq o && compare_is_eq p) ≡ compare_is_eq (elim o [ Told.lt ↦ Told.lt | Told.eq ↦ p | Told.gt ↦ Told.gt ])
eq_then Told.lt p = refl
eq_then Told.eq p = refl
eq_then Told.gt p = refl

pub same_is : (a b : List ℕ) → pointwise nat_eq a b ≡ same a b
unfolding same order
same_is [] [] = refl
same_is [] (y ∷ b) = refl
same_is (x ∷ a) [] = refl
same_is (x ∷ a) (y ∷ b) = ap (λ (t : Bool). eqb x y && t) (same_is a b) ∙ eq_then (compare x y) (order a b)

pub rises_is : (a b : List ℕ) → is_lt (ordering_of (order a b)) ≡ rises a b
unfolding rises ordering_of
rises_is a b = at (order a b)
  where
    at : (o : Told) → is_lt (ordering_of o) ≡ elim o [ Told.lt ↦ true | Told.eq ↦ false | Told.gt ↦ false ]
    at Told.lt = refl
    at Told.eq = refl
    at Told.gt = refl

-- ---- what they have in common: it is no longer than either; and from a place on
pub common-most : (a b : List ℕ) → (length (common a b) ≤ length a) × (length (common a b) ≤ length b)
unfolding common
common-most [] b = (omega arith, omega arith)
common-most (x ∷ a) [] = (omega arith, omega arith)
common-most (x ∷ a) (y ∷ b) = at (eqb x y) (common-most a b)
  where
    at : (t : Bool) → (length (common a b) ≤ length a) × (length (common a b) ≤ length b) →
        (length (cond t (x ∷ common a b) []) ≤ suc (length a)) × (length (cond t (x ∷ common a b) []) ≤ suc (length b))
    at true h = (omega (arith, h.0), omega (arith, h.1))
    at false h = (omega arith, omega arith)

module _ (a b : List ℕ) (i : ℕ) where
  pub common-other : i < length a → i < length b → (get_or a i 0 ≡ get_or b i 0 → ⊥) → length (common (drop i a) (drop i b)) ≡ 0
  unfolding common
  common-other h l e = rw (drop-next a i h, drop-next b i l, ne_eqb _ _ e)

  pub common-more : i < length a → i < length b → get_or a i 0 ≡ get_or b i 0 →
      length (common (drop i a) (drop i b)) ≡ suc (length (common (drop (i + 1) a) (drop (i + 1) b)))
  unfolding common
  common-more h l e = rw (drop-next a i h, drop-next b i l, eq-eqb _ _ e)
