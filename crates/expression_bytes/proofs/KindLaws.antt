-- What starts with a word spells it, and what spells it begins with its letters.
-- Assumes nothing.
use mathlib.Core.Path.{◌≡◌, refl, sym, ap, ◌∙◌}
use Prim.Native.Nat.{ℕ, suc}
use mathlib.Core.Bool.{Bool, true, false, cond, ◌&&◌}
use mathlib.Core.List.{List, [], ◌∷◌}
use native.Mathlib.Omega.{arith}
use borrow.Author.Tests.{eqb-true, eq-eqb, ne_eqb}
use lib.Dec.{eqb}
use lib.ListN.{length, take}
use Rattle.rules.specs.Bytes.{starts}
use Rattle.expression_bytes.specs.Front.{spelt}
use Rattle.expression_bytes.proofs.FrontLaws.{false_true, eqb-turn}

-- ---- what starts with a word spells it
eqb-next : (a b : ℕ) → eqb a b ≡ eqb (suc a) (suc b)
eqb-next a b = one (eqb a b) refl
  where
    one : (t : Bool) → eqb a b ≡ t → t ≡ eqb (suc a) (suc b)
    one true e = sym (eq-eqb (suc a) (suc b) (ap suc (eqb-true a b e)))
    one false e = sym (ne_eqb (suc a) (suc b) (λ h. false_true (sym e ∙ eq-eqb a b (omega (arith, h)))))

none-next : (n : ℕ) → false ≡ eqb 0 (suc n)
none-next n = sym (ne_eqb 0 (suc n) (λ h. absurd (omega (arith, h))))

pub starts-spelt : (ws s : List ℕ) → starts ws s ≡ eqb (spelt ws s) (length ws)
unfolding starts spelt
starts-spelt [] s = sym (eq-eqb 0 0 refl)
starts-spelt (w ∷ ws) [] = none-next (length ws)
starts-spelt (w ∷ ws) (x ∷ s) = rw (eqb-turn w x) (one (eqb x w) (starts-spelt ws s))
  where
    one : (t : Bool) → starts ws s ≡ eqb (spelt ws s) (length ws) → (t && starts ws s) ≡ eqb (cond t (suc (spelt ws s)) 0) (suc (length ws))
    one true h = h ∙ eqb-next (spelt ws s) (length ws)
    one false h = none-next (length ws)

-- ---- and begins with it
pub spelt-take : (ws s : List ℕ) → spelt ws s ≡ length ws → take (length ws) s ≡ ws
unfolding spelt
spelt-take [] s e = refl
spelt-take (w ∷ ws) [] e = absurd (omega (arith, e))
spelt-take (w ∷ ws) (x ∷ s) e = one (eqb x w) refl e (spelt-take ws s)
  where
    one : (t : Bool) → eqb x w ≡ t → cond t (suc (spelt ws s)) 0 ≡ suc (length ws) → (spelt ws s ≡ length ws → take (length ws) s ≡ ws) → x ∷ take (length ws) s ≡ w ∷ ws
    one true e k i = rw (eqb-true x w e, i (omega (arith, k)))
    one false e k i = absurd (omega (arith, k))
