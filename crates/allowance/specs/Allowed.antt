-- A scan that is charged to an allowance: the plain-budget scan with what is left of it, unless more is used than its cap.
-- Assumes nothing.
use Rattle.std.specs.Prelude.{◌≡◌, ℕ, ◌+◌, ◌-◌, false, cond, List, [], ◌∷◌, ◌++◌, ltb, eqb, length}
use Rattle.rules.specs.declared.Areas.{Areas}
use Rattle.rules.specs.declared.Limits.{Limits}
use Rattle.rules.specs.declared.Mode.{Mode}
use Rattle.rules.specs.declared.Scanned.{Scanned}
use Rattle.rules.specs.Book.{name_parts}
use Rattle.rules.specs.Refusal.{Row, row, refusal, before_scan, over_budget}
use Rattle.rules.specs.Jobs.{lent, area_after, answered, scan, results_after}
use Rattle.allowance.specs.declared.Allowance.{Allowance}

-- what is left is the scan's budget
abbrev pub left_of : Allowance → ℕ
left_of x = x.cap - x.used

-- 17, used above cap, comes behind what is refused before any work, and before 12
unfoldable pub of_allowed : List ℕ → List (List ℕ) → Limits → Mode → Allowance → Areas → ℕ → List Row
of_allowed t bs lim mode x a results =
    before_scan t bs lim mode a results ++
    row 17 (ltb x.cap x.used) ∷
    row 12 (over_budget (left_of x) lim mode t bs) ∷ []

unfoldable pub allowed : List ℕ → List (List ℕ) → Limits → Mode → Allowance → Areas → ℕ → Scanned
allowed t bs lim mode x a results =
    let n = refusal (of_allowed t bs lim mode x a results) in
    cond (eqb n 17) (answered 17 lim (name_parts false bs) []) (scan t bs lim mode (left_of x) a results)

unfoldable pub allowed_results : List ℕ → List (List ℕ) → Limits → Mode → Allowance → Areas → List ℕ → List ℕ
allowed_results t bs lim mode x a old =
    let n = refusal (of_allowed t bs lim mode x a (length old)) in
    cond (eqb n 17) old (results_after t bs lim mode (left_of x) a old)

-- with n used: the cap stays
abbrev pub with_used : Allowance → ℕ → Allowance
with_used x n = record { cap = x.cap; used = n }

-- used grows by the count
unfoldable pub charged : Allowance → Scanned → Allowance
charged x a = with_used x (x.used + a.count)

-- what the call promises, x₀ and x being the allowance at entry and at exit
pub record AllowedDone (t : List ℕ) (bs : List (List ℕ)) (lim : Limits) (mode : Mode) (x₀ x : Allowance) (b₀ b w₀ w r₀ r : List ℕ) (a : Scanned) : Type 0 where
  pub answer : a ≡ allowed t bs lim mode x₀ (lent b₀ w₀) (length r₀)
  pub allowance : x ≡ charged x₀ a
  pub results : r ≡ allowed_results t bs lim mode x₀ (lent b₀ w₀) r₀
  pub bytes : b ≡ area_after a.refusal b₀
  pub words : w ≡ area_after a.refusal w₀
