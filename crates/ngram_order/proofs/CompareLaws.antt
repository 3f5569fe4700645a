-- A bigram of the text and a run of bytes, compared byte by byte: by what is left of the two, the bigram first.
-- Assumes nothing.
use mathlib.Core.Path.{◌≡◌, refl, ap}
use mathlib.Core.Bool.{true, false}
use mathlib.Core.List.{List, [], ◌∷◌}
use Prim.Native.Nat.{ℕ, compare, Ordering}
use native.Mathlib.Omega.{arith}
use borrow.Author.Tests.{lt-ltb, le-ltb, ne_eqb}
use Rattle.std.specs.Ordering.{nat_cmp}
use Rattle.rules.specs.Bytes.{order}
use Rattle.rules.proofs.OrderLaws.{Compared, compared, compare_is}
use Rattle.sort_spread.specs.Sort.{ends_part, marks_left, part_of}
use Rattle.ngram_order.specs.Sides.{side_of}

-- ---- of two bytes that differ
pub cmp_unlike : (x y : ℕ) → (x ≡ y → ⊥) → nat_cmp x y ≡ side_of (compare x y)
cmp_unlike x y n = go (compare x y) (compared x y)
  where
    go : (o : Ordering) → Compared o x y → nat_cmp x y ≡ side_of o
    go Ordering.lt k = rw (lt-ltb x y k)
    go Ordering.eq k = absurd (n k)
    go Ordering.gt k = rw (le-ltb x y (omega arith), ne_eqb x y n)

-- ---- the bigram is over
module _ (left : ℕ) where
  pub none_less : (y : ℕ) (ys : List ℕ) → order (part_of 32 left []) (y ∷ ys) ≡ Ordering.lt
  unfolding part_of order
  none_less y ys = refl

  pub none_same : order (part_of 32 left []) [] ≡ Ordering.eq
  unfolding part_of order
  none_same = refl

module _ (left x : ℕ) (xs : List ℕ) where
  module _ (e : ends_part 32 left x ≡ true) where
    pub ended_less : (y : ℕ) (ys : List ℕ) → order (part_of 32 left (x ∷ xs)) (y ∷ ys) ≡ Ordering.lt
    unfolding part_of order
    ended_less y ys = rw e

    pub ended_same : order (part_of 32 left (x ∷ xs)) [] ≡ Ordering.eq
    unfolding part_of order
    ended_same = rw e

  -- it is not
  module _ (e : ends_part 32 left x ≡ false) where
    pub longer : order (part_of 32 left (x ∷ xs)) [] ≡ Ordering.gt
    unfolding part_of order
    longer = rw e

    module _ (y : ℕ) (ys : List ℕ) where
      pub unlike : (x ≡ y → ⊥) → order (part_of 32 left (x ∷ xs)) (y ∷ ys) ≡ compare x y
      unfolding part_of order
      unlike h = rw e (go (compare x y) (compared x y))
        where
          go : (o : Ordering) → Compared o x y →
              elim o [ Ordering.lt ↦ Ordering.lt | Ordering.eq ↦ order (part_of 32 (marks_left 32 left x) xs) ys | Ordering.gt ↦ Ordering.gt ] ≡ o
          go Ordering.lt k = refl
          go Ordering.eq k = absurd (h k)
          go Ordering.gt k = refl

      pub alike : x ≡ y → order (part_of 32 left (x ∷ xs)) (y ∷ ys) ≡ order (part_of 32 (marks_left 32 left x) xs) ys
      unfolding part_of order
      alike h =
          rw e
          (ap (λ (o : Ordering). elim o [ Ordering.lt ↦ Ordering.lt | Ordering.eq ↦ order (part_of 32 (marks_left 32 left x) xs) ys | Ordering.gt ↦ Ordering.gt ])
          (compare_is Ordering.eq x y h))
