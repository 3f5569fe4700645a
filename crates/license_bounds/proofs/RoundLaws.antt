-- The rounds of the sweep and of the search, told of what the charging function gives.
-- Assumes nothing.
use mathlib.Core.Path.{◌≡◌, sym, ap, ◌∙◌}
use mathlib.Core.Bool.{true, false}
use mathlib.Core.List.{List}
use mathlib.Core.Option.{Option}
use Prim.Native.Nat.{ℕ, ◌+◌, ◌-◌, ◌*◌, ◌/◌, ◌≤◌, ◌<◌}
use native.Mathlib.Omega.{arith}
use lib.ListN.{length}
use lib.Ieee.{lt}
use Rattle.rules.specs.declared.Index.{Index}
use Rattle.rules.specs.declared.Value.{Value}
use Rattle.rules.specs.Search.{Made, Span, Stored, higher, sweep_from, sweep, search}
use Rattle.std.specs.Prelude.{None, Some}
use Rattle.std.specs.Prelude as prelude
use Rattle.license_charge.specs.declared.Charged.{Charged}
use Rattle.license_charge.specs.declared.Scorings.{Scorings}
use Rattle.license_charge.specs.Pay.{Paid, pay, charged_of}
use Rattle.license_charge.proofs.PayLaws.{One, paid-one, unpaid-one}
use Rattle.license_bounds.specs.declared.Moving.{Moving}
use Rattle.license_bounds.specs.Ready.{score_at}
use Rattle.license_bounds.proofs.SearchLaws.{sweep-more, sweep-none, sweep-end, sweep-first, sweep-out, search-sweep, search-none, search-one, search_two}

-- where a round of the search scores, and where it goes on
pub record Thirds (l r low high : ℕ) : Type 0 where
  pub low-from : l ≤ low
  pub low-to : low < r
  pub high-from : l < high
  pub high-to : high < r
  pub left_less : high - 1 - l < r - l
  pub right_less : r - (low + 1) < r - l

pub thirds : (l r : ℕ) → 3 < r - l → Thirds l r ((2 * l + r) / 3) ((l + 2 * r) / 3)
thirds l r h = record {
  low-from = omega arith;
  low-to = omega arith;
  high-from = omega arith;
  high-to = omega arith;
  left_less = omega arith;
  right_less = omega arith;
}

-- what a run yields over lines, it yields over the same lines
pub found-same : {A : Type 0} {ls ls₀ : List (List ℕ)} → ls ≡ ls₀ → (s : Stored) (moving : Moving) (run : (ℕ → Made Value) → Made A) (left : ℕ)
    {x : prelude.Option (Charged A)} → x ≡ charged_of (pay (run (score_at ls s moving)) left) → x ≡ charged_of (pay (run (score_at ls₀ s moving)) left)
found-same same s moving run left e = e ∙ ap (λ (l : List (List ℕ)). charged_of (pay (run (score_at l s moving)) left)) same

-- a round of the search in [l, r] that pays its two scorings, x and y
pub record Paired (F : ℕ → Made Value) (l r left : ℕ) (x y : Charged Value) : Type 0 where
  pub far : 3 < r - l
  pub at_low : Some x ≡ charged_of (pay (F ((2 * l + r) / 3)) left)
  pub at_high : Some y ≡ charged_of (pay (F ((l + 2 * r) / 3)) x.left.count)

-- F scores an index; `all` stands for the whole run, paid from the whole budget
module _ (F : ℕ → Made Value) (once : (i : ℕ) → length (F i).list ≡ 1) where
  -- ---- the sweep
  pub sweep-stops : {all : Option (Paid Index)} (to i left : ℕ) (b : Index) → i ≤ to → None ≡ charged_of (pay (F i) left) →
      pay (sweep_from F (to + 1 - i) i b) left ≡ all → None ≡ charged_of all
  unfolding charged_of
  sweep-stops to i left b h o e =
      let nought = ap (λ (n : ℕ). pay (sweep_from F (to + 1 - i) i b) n) (unpaid-one (F i) (once i) left o) in
      sym (ap charged_of (sym e ∙ nought ∙ sweep-none F once to i b h))

  pub sweep-ends : {all : Option (Paid Index)} (to i : ℕ) (left : Scorings) (b : Index) → to < i →
      pay (sweep_from F (to + 1 - i) i b) left.count ≡ all → Some (record { value = b; left = left }) ≡ charged_of all
  unfolding charged_of
  sweep-ends to i left b h e = sym (ap charged_of (sym e ∙ sweep-end F once to i left.count b h))

  pub sweep_round : (to i left : ℕ) (b b' : Index) (c : Charged Value) → i ≤ to → Some c ≡ charged_of (pay (F i) left) →
      b' ≡ higher b (record { at = i; value = c.value }) →
      pay (sweep_from F (to + 1 - (i + 1)) (i + 1) b') c.left.count ≡ pay (sweep_from F (to + 1 - i) i b) left
  sweep_round to i left b b' c h e eb =
      let one = paid-one (F i) (once i) left c e in
      simp (one.left, eb, one.value) (sym (sweep-more F once to i left b h one.some_left))

  pub sweep-whole : (from to left : ℕ) (c : Charged Value) → from ≤ to → Some c ≡ charged_of (pay (F from) left) →
      pay (sweep_from F (to + 1 - (from + 1)) (from + 1) (record { at = from; value = c.value })) c.left.count ≡ pay (sweep F (record { left = from; right = to })) left
  sweep-whole from to left c h e =
      let one = paid-one (F from) (once from) left c e in
      simp (one.left, one.value) (sym (sweep-first F once from to left h one.some_left))

  pub sweep_unpaid : (from to left : ℕ) → None ≡ charged_of (pay (F from) left) → None ≡ charged_of (pay (sweep F (record { left = from; right = to })) left)
  unfolding charged_of
  sweep_unpaid from to left o =
      let span : Span = record { left = from; right = to } in
      sym (ap charged_of (ap (λ (n : ℕ). pay (sweep F span) n) (unpaid-one (F from) (once from) left o) ∙ sweep-out F once from to))

  -- ---- the search in [l, r]
  module _ (l r left : ℕ) where
    pub search-ends : {all : Option (Paid Index)} {x : prelude.Option (Charged Index)} → r - l ≤ 3 →
        x ≡ charged_of (pay (sweep F (record { left = l; right = r })) left) → pay (search F l r) left ≡ all → x ≡ charged_of all
    search-ends h e a = e ∙ ap charged_of (sym (search-sweep F once l r left h) ∙ a)

    pub search-stops : {all : Option (Paid Index)} → 3 < r - l → None ≡ charged_of (pay (F ((2 * l + r) / 3)) left) →
        pay (search F l r) left ≡ all → None ≡ charged_of all
    unfolding charged_of
    search-stops h o a =
        let nought = ap (λ (n : ℕ). pay (search F l r) n) (unpaid-one (F ((2 * l + r) / 3)) (once ((2 * l + r) / 3)) left o) in
        sym (ap charged_of (sym a ∙ nought ∙ search-none F once l r h))

    pub search-stops-one : {all : Option (Paid Index)} (x : Charged Value) → 3 < r - l → Some x ≡ charged_of (pay (F ((2 * l + r) / 3)) left) →
        None ≡ charged_of (pay (F ((l + 2 * r) / 3)) x.left.count) → pay (search F l r) left ≡ all → None ≡ charged_of all
    unfolding charged_of
    search-stops-one x h e o a =
        let one = paid-one (F ((2 * l + r) / 3)) (once ((2 * l + r) / 3)) left x e in
        let z = unpaid-one (F ((l + 2 * r) / 3)) (once ((l + 2 * r) / 3)) x.left.count o in
        sym (ap charged_of (sym a ∙ search-one F once l r left h one.some_left (sym one.left ∙ z)))

    -- one round
    module _ {x y : Charged Value} (p : Paired F l r left x y) where
      first : One (F ((2 * l + r) / 3)) left x
      first = paid-one (F ((2 * l + r) / 3)) (once ((2 * l + r) / 3)) left x p.at_low

      second : One (F ((l + 2 * r) / 3)) x.left.count y
      second = paid-one (F ((l + 2 * r) / 3)) (once ((l + 2 * r) / 3)) x.left.count y p.at_high

      rest : y.left.count ≡ left - 1 - 1
      rest = second.left ∙ ap (λ (n : ℕ). n - 1) first.left

      paid_again : 0 < left - 1
      paid_again = let k = second.some_left in omega (arith, first.left)

      pub search-left : lt y.value.score x.value.score ≡ true → pay (search F l ((l + 2 * r) / 3 - 1)) y.left.count ≡ pay (search F l r) left
      search-left t =
          let q = rw (first.value, second.value) at t in
          simp rest (sym (rw q at (search_two F once l r left p.far first.some_left paid_again)))

      pub search-right : lt y.value.score x.value.score ≡ false → pay (search F ((2 * l + r) / 3 + 1) r) y.left.count ≡ pay (search F l r) left
      search-right t =
          let q = rw (first.value, second.value) at t in
          simp rest (sym (rw q at (search_two F once l r left p.far first.some_left paid_again)))
