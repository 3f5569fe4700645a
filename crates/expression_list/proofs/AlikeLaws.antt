-- Byte strings that are the same letter case aside: they are as long as each other (`alike-length`), and std's comparison is this (`alike_is`).
-- Assumes nothing.
use mathlib.Core.Path.{◌≡◌, refl, sym, ap, ap₂, ◌∙◌}
use Prim.Native.Nat.{ℕ, suc, ◌+◌, compare, Ordering}
use mathlib.Core.Bool.{Bool, true, false, ◌&&◌, cond}
use mathlib.Core.List.{List, [], ◌∷◌, map}
use native.Mathlib.Omega.{arith}
use Rattle.std.specs.Prelude.{◌↔◌, IsTrue}
use Rattle.std.specs.Char.{to_ascii_lowercase}
use borrow.Author.Tests.{ne_eqb, ltb-true, ltb-false, le-leb, lt-leb}
use lib.Dec.{eqb, ltb, leb, compare_is_eq}
use lib.ListN.{length}
use Rattle.rules.specs.Bytes.{order, same, within}
use Rattle.rules.proofs.PrefixLaws.{same_self, same_true}
use Rattle.rules.proofs.BoolLaws.{and_right}
use Rattle.expression.specs.Writing.{lowered, alike}
use Rattle.expression_bytes.proofs.FrontLaws.{false_true}

-- ---- byte by byte
first : (o r : Ordering) → compare_is_eq (elim o [ Ordering.lt ↦ Ordering.lt | Ordering.eq ↦ r | Ordering.gt ↦ Ordering.gt ]) ≡ (compare_is_eq o && compare_is_eq r)
first Ordering.lt r = refl
first Ordering.eq r = refl
first Ordering.gt r = refl

alike_cons : (x y : ℕ) (v w : List ℕ) → alike (x ∷ v) (y ∷ w) ≡ (eqb (lowered x) (lowered y) && alike v w)
unfolding alike same order
alike_cons x y v w = first (compare (lowered x) (lowered y)) (order (map lowered v) (map lowered w))

-- ---- by length
pub alike-length : (v w : List ℕ) → alike v w ≡ true → length v ≡ length w
unfolding alike same order
alike-length [] [] e = refl
alike-length [] (y ∷ w) e = false_true e
alike-length (x ∷ v) [] e = false_true e
alike-length (x ∷ v) (y ∷ w) e = ap suc (alike-length v w (and_right (eqb (lowered x) (lowered y)) (alike v w) (sym (alike_cons x y v w) ∙ e)))

pub alike_not : (v w : List ℕ) → (length v ≡ length w → ⊥) → alike v w ≡ false
alike_not v w h = on (alike v w) refl where
  on : (t : Bool) → alike v w ≡ t → t ≡ false
  on true e = absurd (h (alike-length v w e))
  on false e = refl

pub alike-none : (v : List ℕ) → alike v [] ≡ eqb (length v) 0
unfolding alike same order
alike-none [] = refl
alike-none (x ∷ v) = sym (ne_eqb (suc (length v)) 0 (λ e. omega (arith, e)))

-- ---- as std compares
lowered_ascii : (x : ℕ) → to_ascii_lowercase x ≡ lowered x
unfolding lowered within
lowered_ascii x = at (ltb x 65) refl (ltb x 91) refl where
  at : (a : Bool) → ltb x 65 ≡ a → (b : Bool) → ltb x 91 ≡ b → cond a x (cond b (x + 32) x) ≡ cond (leb 65 x && leb x 90) (x + 32) x
  at true e b f = rw (lt-leb 65 x (ltb-true x 65 e))
  at false e true f = rw (le-leb 65 x (ltb-false x 65 e), le-leb x 90 (omega (arith, ltb-true x 91 f)))
  at false e false f = rw (le-leb 65 x (ltb-false x 65 e), lt-leb x 90 (omega (arith, ltb-false x 91 f)))

map_lowered : (v : List ℕ) → map to_ascii_lowercase v ≡ map lowered v
map_lowered [] = refl
map_lowered (x ∷ v) = ap₂ ◌∷◌ (lowered_ascii x) (map_lowered v)

pub alike_is : (r : Bool) (v w : List ℕ) → (IsTrue r ↔ (map to_ascii_lowercase v ≡ map to_ascii_lowercase w)) → r ≡ alike v w
unfolding alike
alike_is true v w h =
    let e : map lowered v ≡ map lowered w = sym (map_lowered v) ∙ h.0 refl ∙ map_lowered w in
    sym (ap (λ (u : List ℕ). same (map lowered v) u) (sym e) ∙ same_self (map lowered v))
alike_is false v w h = on (alike v w) refl where
  on : (t : Bool) → alike v w ≡ t → false ≡ t
  on true e = h.1 (map_lowered v ∙ same_true (map lowered v) (map lowered w) e ∙ sym (map_lowered w))
  on false e = refl
