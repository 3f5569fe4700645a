-- The order of byte strings is strict and total: it is eq exactly of equal strings (`order_eq`), it turns round with its sides
-- (`order_flip`), and it is transitive (`order_trans`). `Compared` says what an outcome of `compare` means.
-- Assumes nothing.
use mathlib.Core.Path.{◌≡◌, refl, sym, ap, ap₂, ◌∙◌}
use mathlib.Core.Logic.{◌↔◌, ◌⊎◌, inl, inr}
use Prim.Native.Nat.{ℕ, ◌≤◌, ◌<◌, compare, Ordering}
use native.Mathlib.Omega.{arith}
use mathlib.Core.Bool.{Bool, true, false, not}
use mathlib.Core.List.{List, [], ◌∷◌}
use lib.Dec.{T, is_le, compare_is_eq, leb→le, nleb→lt, eqb→eq, eqb_refl}
use lib.Arith.{lt_of_le-ne}
use Rattle.rules.specs.Bytes.{order, same, rises}

-- ---- numbers
abbrev pub Compared : Ordering → ℕ → ℕ → Type 0
Compared Ordering.lt a b = a < b
Compared Ordering.eq a b = a ≡ b
Compared Ordering.gt a b = b < a

pub compared : (a b : ℕ) → Compared (compare a b) a b
compared a b = go (compare a b) (leb→le a b) (nleb→lt a b) (eqb→eq a b) (λ e. rw (← e) (eqb_refl a))
  where
    go : (o : Ordering) → (T (is_le o) → a ≤ b) → (T (not (is_le o)) → b < a) → (T (compare_is_eq o) → a ≡ b) → (a ≡ b → T (compare_is_eq o)) → Compared o a b
    go Ordering.lt h k e n = lt_of_le-ne (h tt) n
    go Ordering.eq h k e n = e tt
    go Ordering.gt h k e n = k tt

pub compare_is : (o : Ordering) (a b : ℕ) → Compared o a b → compare a b ≡ o
compare_is o a b h = only o (compare a b) h (compared a b)
  where
    only : (o p : Ordering) → Compared o a b → Compared p a b → p ≡ o
    only Ordering.lt Ordering.lt h k = refl
    only Ordering.lt Ordering.eq h k = absurd (omega arith)
    only Ordering.lt Ordering.gt h k = absurd (omega arith)
    only Ordering.eq Ordering.lt h k = absurd (omega arith)
    only Ordering.eq Ordering.eq h k = refl
    only Ordering.eq Ordering.gt h k = absurd (omega arith)
    only Ordering.gt Ordering.lt h k = absurd (omega arith)
    only Ordering.gt Ordering.eq h k = absurd (omega arith)
    only Ordering.gt Ordering.gt h k = refl

abbrev pub flip : Ordering → Ordering
flip Ordering.lt = Ordering.gt
flip Ordering.eq = Ordering.eq
flip Ordering.gt = Ordering.lt

pub compare_flip : (a b : ℕ) → compare b a ≡ flip (compare a b)
compare_flip a b = compare_is (flip (compare a b)) b a (turned (compare a b) (compared a b))
  where
    turned : (o : Ordering) → Compared o a b → Compared (flip o) b a
    turned Ordering.lt h = h
    turned Ordering.eq h = sym h
    turned Ordering.gt h = h

-- ---- byte strings: the first byte decides, or the rest does
abbrev first : Ordering → Ordering → Ordering
first o r = elim o [ Ordering.lt ↦ Ordering.lt | Ordering.eq ↦ r | Ordering.gt ↦ Ordering.gt ]

order_cons : (x y : ℕ) (xs ys : List ℕ) → order (x ∷ xs) (y ∷ ys) ≡ first (compare x y) (order xs ys)
unfolding order
order_cons x y xs ys = refl

pub order_flip : (xs ys : List ℕ) → order ys xs ≡ flip (order xs ys)
unfolding order
order_flip [] [] = refl
order_flip [] (y ∷ ys) = refl
order_flip (x ∷ xs) [] = refl
order_flip (x ∷ xs) (y ∷ ys) =
    order_cons y x ys xs
    ∙ ap₂ first (compare_flip x y) (order_flip xs ys)
    ∙ go (compare x y)
    ∙ ap flip (sym (order_cons x y xs ys))
  where
    go : (o : Ordering) → first (flip o) (flip (order xs ys)) ≡ flip (first o (order xs ys))
    go Ordering.lt = refl
    go Ordering.eq = refl
    go Ordering.gt = refl

-- one step, where the first byte decides and where it does not
order_by : (o : Ordering) (x y : ℕ) (xs ys : List ℕ) → Compared o x y → order (x ∷ xs) (y ∷ ys) ≡ first o (order xs ys)
order_by o x y xs ys h = order_cons x y xs ys ∙ ap (λ p. first p (order xs ys)) (compare_is o x y h)

order_self : (xs : List ℕ) → order xs xs ≡ Ordering.eq
unfolding order
order_self [] = refl
order_self (x ∷ xs) = order_by Ordering.eq x x xs xs refl ∙ order_self xs

equal : (xs ys : List ℕ) → order xs ys ≡ Ordering.eq → xs ≡ ys
unfolding order
equal [] [] e = refl
equal [] (y ∷ ys) e = cc
equal (x ∷ xs) [] e = cc
equal (x ∷ xs) (y ∷ ys) e = go (compare x y) (compared x y) (equal xs ys) (sym (order_cons x y xs ys) ∙ e)
  where
    go : (o : Ordering) → Compared o x y → (order xs ys ≡ Ordering.eq → xs ≡ ys) → first o (order xs ys) ≡ Ordering.eq → x ∷ xs ≡ y ∷ ys
    go Ordering.lt h more e = cc
    go Ordering.eq h more e = ap₂ ◌∷◌ h (more e)
    go Ordering.gt h more e = cc

pub order_eq : (xs ys : List ℕ) → (order xs ys ≡ Ordering.eq) ↔ (xs ≡ ys)
order_eq xs ys = (equal xs ys, λ e. rw e (order_self ys))

-- what lt says of the first bytes
abbrev Before : ℕ → ℕ → List ℕ → List ℕ → Type 0
Before x y xs ys = (x < y) ⊎ ((x ≡ y) × (order xs ys ≡ Ordering.lt))

lt_cons : (x y : ℕ) (xs ys : List ℕ) → order (x ∷ xs) (y ∷ ys) ≡ Ordering.lt → Before x y xs ys
lt_cons x y xs ys e = go (compare x y) (compared x y) (sym (order_cons x y xs ys) ∙ e)
  where
    go : (o : Ordering) → Compared o x y → first o (order xs ys) ≡ Ordering.lt → Before x y xs ys
    go Ordering.lt h e = inl h
    go Ordering.eq h e = inr (h, e)
    go Ordering.gt h e = let z : ◌≡◌ {A = ℕ} 0 1 = cc in absurd (omega arith)

pub order_trans : (xs ys zs : List ℕ) → order xs ys ≡ Ordering.lt → order ys zs ≡ Ordering.lt → order xs zs ≡ Ordering.lt
unfolding order
order_trans [] [] zs h k = cc
order_trans [] (y ∷ ys) [] h k = cc
order_trans [] (y ∷ ys) (z ∷ zs) h k = refl
order_trans (x ∷ xs) [] zs h k = cc
order_trans (x ∷ xs) (y ∷ ys) [] h k = cc
order_trans (x ∷ xs) (y ∷ ys) (z ∷ zs) h k = go (order_trans xs ys zs) (lt_cons x y xs ys h) (lt_cons y z ys zs k)
  where
    below : x < z → order (x ∷ xs) (z ∷ zs) ≡ Ordering.lt
    below l = order_by Ordering.lt x z xs zs l

    go : (order xs ys ≡ Ordering.lt → order ys zs ≡ Ordering.lt → order xs zs ≡ Ordering.lt)
        → Before x y xs ys → Before y z ys zs → order (x ∷ xs) (z ∷ zs) ≡ Ordering.lt
    go more (inl a) (inl b) = below (omega arith)
    go more (inl a) (inr b) = below (omega arith)
    go more (inr a) (inl b) = below (omega arith)
    go more (inr a) (inr b) = order_by Ordering.eq x z xs zs (omega arith) ∙ more a.1 b.1

-- `rises` and `same` by the order
pub rises-is : (xs ys : List ℕ) → (rises xs ys ≡ true) ↔ (order xs ys ≡ Ordering.lt)
unfolding rises
rises-is xs ys = go (order xs ys)
  where
    up : Ordering → Bool
    up o = elim o [ Ordering.lt ↦ true | Ordering.eq ↦ false | Ordering.gt ↦ false ]

    go : (o : Ordering) → (up o ≡ true) ↔ (o ≡ Ordering.lt)
    go Ordering.lt = (λ _. refl, λ _. refl)
    go Ordering.eq = (λ e. cc, λ e. cc)
    go Ordering.gt = (λ e. cc, λ e. cc)

pub same_by : (o : Ordering) (xs ys : List ℕ) → order xs ys ≡ o → same xs ys ≡ compare_is_eq o
unfolding same
same_by o xs ys e = ap compare_is_eq e
