-- The front of a list: how many of its bytes pass a test, and the first line.
-- Assumes nothing.
use mathlib.Core.Path.{◌≡◌, refl, ap}
use Prim.Native.Nat.{ℕ, suc}
use mathlib.Core.Bool.{Bool, true, false, not, cond}
use mathlib.Core.List.{List, [], ◌∷◌, ◌++◌}
use native.Mathlib.Omega.{arith}
use lib.Dec.{eqb}
use lib.ListN.{length, take, drop}
use Rattle.rules.specs.Bytes.{every, lead, newline, line_len}
use Rattle.rules.proofs.BoolLaws.{and_both}
use Rattle.expression.proofs.EveryLaws.{every_cons}
use Rattle.expression_place.specs.Line.{ends}

-- ---- bytes that pass a test
module _ (p : ℕ → Bool) where
  pub lead_is : (u r : List ℕ) → every p u ≡ true → lead p r ≡ 0 → lead p (u ++ r) ≡ length u
  unfolding lead
  lead_is [] r e n = n
  lead_is (x ∷ u) r e n = let i = every_cons p x u e in rw i.0 (ap suc (lead_is u r i.1 n))

  pub lead-every : (s : List ℕ) → every p (take (lead p s) s) ≡ true
  unfolding lead every
  lead-every [] = refl
  lead-every (x ∷ s) = on (p x) refl (lead-every s) where
    on : (t : Bool) → p x ≡ t → every p (take (lead p s) s) ≡ true → every p (take (cond t (suc (lead p s)) 0) (x ∷ s)) ≡ true
    on true e h = and_both (p x) (every p (take (lead p s) s)) e h
    on false e h = refl

  pub lead-stop : (s : List ℕ) → lead p (drop (lead p s) s) ≡ 0
  unfolding lead
  lead-stop [] = refl
  lead-stop (x ∷ s) = on (p x) refl (lead-stop s) where
    on : (t : Bool) → p x ≡ t → lead p (drop (lead p s) s) ≡ 0 → lead p (drop (cond t (suc (lead p s)) 0) (x ∷ s)) ≡ 0
    on true e h = h
    on false e h = rw e

-- ---- the first line: no newline stands in it, and it ends at one or with the list
ends_zero : (r : List ℕ) → ends r ≡ true → line_len r ≡ 0
unfolding ends line_len lead newline
ends_zero [] e = refl
ends_zero (x ∷ r) e = rw e

zero_ends : (r : List ℕ) → lead (λ x. not (newline x)) r ≡ 0 → ends r ≡ true
unfolding ends lead newline
zero_ends [] e = refl
zero_ends (x ∷ r) e = on (eqb x 10) e where
  on : (t : Bool) → cond (not t) (suc (lead (λ x. not (eqb x 10)) r)) 0 ≡ 0 → t ≡ true
  on true e = refl
  on false e = absurd (omega (arith, e))

pub line-ends : (s : List ℕ) → ends (drop (line_len s) s) ≡ true
unfolding line_len
line-ends s = zero_ends (drop (lead (λ x. not (newline x)) s) s) (lead-stop (λ x. not (newline x)) s)

pub line-is : (u r : List ℕ) → every (λ x. not (newline x)) u ≡ true → ends r ≡ true → line_len (u ++ r) ≡ length u
unfolding line_len
line-is u r e f = lead_is (λ x. not (newline x)) u r e (ends_zero r f)
