-- The rounds of a search that charges: what is still to come, paid from what is left, is the whole paid from the budget.
-- Assumes nothing.
use mathlib.Core.Path.{◌≡◌, ap, ap₂, ◌∙◌}
use mathlib.Core.Bool.{cond}
use mathlib.Core.Option.{Option, none, some}
use Prim.Native.Nat.{ℕ, suc, ◌+◌, ◌-◌, ◌≤◌, ◌<◌}
use native.Mathlib.Omega.{arith}
use lib.ListN.{length}
use lib.Ieee.{lt}
use Rattle.rules.specs.declared.Index.{Index}
use Rattle.rules.specs.declared.Value.{Value}
use Rattle.rules.specs.Search.{Made, ◌>>=◌, Span, low, high, higher, sweep_from, sweep, search}
use Rattle.rules.proofs.Steps.{search_near, search_far}
use Rattle.license_charge.specs.Pay.{Paid, pay}
use Rattle.license_charge.proofs.PayLaws.{pay-done, pay-one, pay-none}

next : (i to : ℕ) → i ≤ to → to + 1 - i ≡ suc (to + 1 - (i + 1))
next i to h = omega arith

one_up : (i : ℕ) → suc i ≡ i + 1
one_up i = omega arith

module _ (score_at : ℕ → Made Value) (once : (i : ℕ) → length (score_at i).list ≡ 1) where
  abbrev indexed : ℕ → Value → Index
  indexed i x = record { at = i; value = x }

  -- ---- the sweep, from i up to `to`, over the highest so far
  abbrev pub sweeping : ℕ → ℕ → Index → ℕ → Option (Paid Index)
  sweeping to i b left = pay (sweep_from score_at (to + 1 - i) i b) left

  pub sweep-more : (to i left : ℕ) (b : Index) → i ≤ to → 0 < left →
      sweeping to i b left ≡ sweeping to (i + 1) (higher b (indexed i (score_at i).value)) (left - 1)
  unfolding sweep_from
  sweep-more to i left b h k =
      ap (λ (n : ℕ). pay (sweep_from score_at n i b) left) (next i to h) ∙
      pay-one (score_at i) (λ x. sweep_from score_at (to + 1 - (i + 1)) (suc i) (higher b (indexed i x))) (once i) left k ∙
      ap (λ (n : ℕ). pay (sweep_from score_at (to + 1 - (i + 1)) n (higher b (indexed i (score_at i).value))) (left - 1)) (one_up i)

  pub sweep-none : (to i : ℕ) (b : Index) → i ≤ to → sweeping to i b 0 ≡ none
  unfolding sweep_from
  sweep-none to i b h =
      ap (λ (n : ℕ). pay (sweep_from score_at n i b) 0) (next i to h) ∙
      pay-none (score_at i) (λ x. sweep_from score_at (to + 1 - (i + 1)) (suc i) (higher b (indexed i x))) (once i)

  pub sweep-end : (to i left : ℕ) (b : Index) → to < i → sweeping to i b left ≡ some (record { value = b; left = left })
  unfolding sweep_from
  sweep-end to i left b h =
      let z : to + 1 - i ≡ 0 = omega arith in
      ap (λ (n : ℕ). pay (sweep_from score_at n i b) left) z ∙ pay-done b left

  -- its first index
  pub sweep-first : (from to left : ℕ) → from ≤ to → 0 < left →
      pay (sweep score_at (record { left = from; right = to })) left ≡ sweeping to (from + 1) (indexed from (score_at from).value) (left - 1)
  unfolding sweep
  sweep-first from to left h k =
      let e : to - from ≡ to + 1 - (from + 1) = omega arith in
      pay-one (score_at from) (λ x. sweep_from score_at (to - from) (suc from) (indexed from x)) (once from) left k ∙
      ap₂ (λ (n i : ℕ). pay (sweep_from score_at n i (indexed from (score_at from).value)) (left - 1)) e (one_up from)

  pub sweep-out : (from to : ℕ) → pay (sweep score_at (record { left = from; right = to })) 0 ≡ none
  unfolding sweep
  sweep-out from to = pay-none (score_at from) (λ x. sweep_from score_at (to - from) (suc from) (indexed from x)) (once from)

  -- ---- the search in [l, r]
  abbrev pub searching : ℕ → ℕ → ℕ → Option (Paid Index)
  searching l r left = pay (search score_at l r) left

  module _ (l r : ℕ) where
    abbrev span : Span
    span = record { left = l; right = r }

    abbrev on : Value → Value → Made Index
    on x y = cond (lt y.score x.score) (search score_at l (high span - 1)) (search score_at (low span + 1) r)

    pub search-sweep : (left : ℕ) → r - l ≤ 3 → searching l r left ≡ pay (sweep score_at span) left
    search-sweep left h = ap (λ (m : Made Index). pay m left) (search_near score_at span h)

    far : (left : ℕ) → 3 < r - l → searching l r left ≡ pay (score_at (low span) >>= λ x. score_at (high span) >>= λ y. on x y) left
    far left h = ap (λ (m : Made Index). pay m left) (search_far score_at span h)

    pub search-none : 3 < r - l → searching l r 0 ≡ none
    search-none h = far 0 h ∙ pay-none (score_at (low span)) (λ x. score_at (high span) >>= λ y. on x y) (once (low span))

    one-paid : (left : ℕ) → 3 < r - l → 0 < left → searching l r left ≡ pay (score_at (high span) >>= λ y. on (score_at (low span)).value y) (left - 1)
    one-paid left h k = far left h ∙ pay-one (score_at (low span)) (λ x. score_at (high span) >>= λ y. on x y) (once (low span)) left k

    pub search-one : (left : ℕ) → 3 < r - l → 0 < left → left - 1 ≡ 0 → searching l r left ≡ none
    search-one left h k e =
        one-paid left h k ∙
        ap (λ (n : ℕ). pay (score_at (high span) >>= λ y. on (score_at (low span)).value y) n) e ∙
        pay-none (score_at (high span)) (λ y. on (score_at (low span)).value y) (once (high span))

    pub search_two : (left : ℕ) → 3 < r - l → 0 < left → 0 < left - 1 →
        searching l r left ≡ pay (on (score_at (low span)).value (score_at (high span)).value) (left - 1 - 1)
    search_two left h k k₂ =
        one-paid left h k ∙ pay-one (score_at (high span)) (λ y. on (score_at (low span)).value y) (once (high span)) (left - 1) k₂
