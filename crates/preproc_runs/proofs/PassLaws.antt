-- What `keep` and `capped` make of a list that begins with b; and that `runs` and `vertical` of the rules are `capped`.
-- Assumes nothing.
use mathlib.Core.Path.{◌≡◌, refl, ap, subst}
use mathlib.Core.Bool.{Bool, true, false, not, cond}
use mathlib.Core.List.{List, [], ◌∷◌, ◌++◌}
use Prim.Native.Nat.{ℕ, ◌+◌, ◌≤◌, ◌<◌}
use native.Mathlib.Omega.{arith}
use lib.Dec.{ltb}
use borrow.Author.Tests.{lt-ltb, le-ltb}
use Rattle.lists.specs.Wrote.{Wrote}
use Rattle.rules.specs.Bytes.{within, keep, runs}
use Rattle.rules.specs.Passes.{vertical}
use Rattle.preproc_runs.specs.Capped.{capped}

module _ (p : ℕ → Bool) (b : ℕ) {l l' : List ℕ} where
  pub keep-yes : l ≡ b ∷ l' → p b ≡ true → keep p l ≡ b ∷ keep p l'
  unfolding keep
  keep-yes h e = rw (h, e)

  pub keep-no : l ≡ b ∷ l' → p b ≡ false → keep p l ≡ keep p l'
  unfolding keep
  keep-no h e = rw (h, e)

pub keep-end : (p : ℕ → Bool) {l : List ℕ} → l ≡ [] → keep p l ≡ []
unfolding keep
keep-end p h = rw h

module _ (p : ℕ → Bool) (r most k b : ℕ) {l l' : List ℕ} where
  pub cap_under : l ≡ b ∷ l' → p b ≡ true → k < most → capped p r most k l ≡ r ∷ capped p r most (k + 1) l'
  unfolding capped
  cap_under h e f = rw (h, e, lt-ltb k most f)

  pub cap_over : l ≡ b ∷ l' → p b ≡ true → most ≤ k → capped p r most k l ≡ capped p r most (k + 1) l'
  unfolding capped
  cap_over h e f = rw (h, e, le-ltb k most f)

  pub cap_other : l ≡ b ∷ l' → p b ≡ false → capped p r most k l ≡ b ∷ capped p r most 0 l'
  unfolding capped
  cap_other h e = rw (h, e)

pub cap_end : (p : ℕ → Bool) (r most k : ℕ) {l : List ℕ} → l ≡ [] → capped p r most k l ≡ []
unfolding capped
cap_end p r most k h = rw h

-- ---- the rules' own
module _ (p : ℕ → Bool) (r : ℕ) where
  both : (l : List ℕ) → (capped p r 1 0 l ≡ runs p r false l) × ((k : ℕ) → capped p r 1 (k + 1) l ≡ runs p r true l)
  unfolding capped runs
  both [] = (refl, λ k. refl)
  both (x ∷ l) = (at (p x) (both l).0 (both l).1, λ k. on k (p x) (both l).0 (both l).1)
    where
      at : (b : Bool) → capped p r 1 0 l ≡ runs p r false l → ((k : ℕ) → capped p r 1 (k + 1) l ≡ runs p r true l) →
          cond b (cond (ltb 0 1) (r ∷ []) []) (x ∷ []) ++ capped p r 1 (cond b (0 + 1) 0) l ≡ cond b (cond false [] (r ∷ [])) (x ∷ []) ++ runs p r b l
      at true f t = ap (λ (m : List ℕ). r ∷ m) (t 0)
      at false f t = ap (λ (m : List ℕ). x ∷ m) f

      on : (k : ℕ) (b : Bool) → capped p r 1 0 l ≡ runs p r false l → ((j : ℕ) → capped p r 1 (j + 1) l ≡ runs p r true l) →
          cond b (cond (ltb (k + 1) 1) (r ∷ []) []) (x ∷ []) ++ capped p r 1 (cond b (k + 1 + 1) 0) l ≡ cond b (cond true [] (r ∷ [])) (x ∷ []) ++ runs p r b l
      on k true f t = rw (le-ltb (k + 1) 1 (omega arith)) (t (k + 1))
      on k false f t = ap (λ (m : List ℕ). x ∷ m) f

  pub runs-capped : (l : List ℕ) → capped p r 1 0 l ≡ runs p r false l
  runs-capped l = (both l).0

pub vertical-capped : (k : ℕ) (l : List ℕ) → capped (within 10 13) 10 2 k l ≡ vertical k l
unfolding capped vertical
vertical-capped k [] = refl
vertical-capped k (x ∷ l) =
    ap (λ (m : List ℕ). cond (within 10 13 x) (cond (ltb k 2) (10 ∷ []) []) (x ∷ []) ++ m) (vertical-capped (cond (within 10 13 x) (k + 1) 0) l)

-- ---- a pass by one test is the pass by another that says the same
module _ {p q : ℕ → Bool} (e : p ≡ q) where
  pub drops_as : (s : List ℕ) {d₀ d : List ℕ} {r : ℕ} → Wrote (keep (λ x. not (p x)) s) d₀ r d → Wrote (keep (λ x. not (q x)) s) d₀ r d
  drops_as s {d₀} {d} {r} w = subst (λ (f : ℕ → Bool). Wrote (keep (λ x. not (f x)) s) d₀ r d) e w
