-- Whether scorings are left; and a run of scorings, paid from what is left of a budget: its answer and what is then left, or none where it does not pay all.
-- `charged_of` is that as the code yields it.
-- Assumes nothing.
use Rattle.std.specs.Prelude.{◌≡◌, ℕ, ◌-◌, ◌<◌, Bool, true, false, cond, leb, length}
use Rattle.std.proofs.Math.Option.{Option, none, some}
use Rattle.rules.specs.Search.{Made}
use Rattle.license_charge.specs.declared.Scorings.{Scorings}
use Rattle.license_charge.specs.declared.Charged.{Charged}
use Rattle.std.specs.Prelude.{None, Some}
use Rattle.std.specs.Prelude as prelude

pub record Spent (left : Scorings) (r : Bool) : Type 0 where
  pub none_left : r ≡ true → left.count ≡ 0
  pub some_left : r ≡ false → 0 < left.count

pub record Paid (A : Type 0) : Type 0 where
  pub value : A
  pub left : ℕ

unfoldable pub pay : {A : Type 0} → Made A → ℕ → Option (Paid A)
pay m b = cond (leb (length m.list) b) (some (record { value = m.value; left = b - length m.list })) none

unfoldable pub charged_of : {A : Type 0} → Option (Paid A) → prelude.Option (Charged A)
charged_of none = None
charged_of (some p) = Some (record { value = p.value; left = record { count = p.left } })
