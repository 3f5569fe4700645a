-- A refusal's number is never 0: what is told as 0 is no refusal (`told_ok`), and any other number is a refusal's (`told_err`).
-- Assumes nothing.
use Rattle.std.proofs.Common.{◌≡◌, refl, ◌<◌, arith, Result, Ok, Err}
use mathlib.Core.Bool.{true}
use lib.Dec.{ltb}
use borrow.Author.Tests.{ltb-true}
use Rattle.rules.specs.declared.Refusal.{Refusal}
use Rattle.rules.specs.declared.Refusal.TheVariants as refused
use Rattle.rules.specs.Told.{refusal_number, number_told}

above : (r : Refusal) → ltb 0 (refusal_number r) ≡ true
above refused.TextLong = refl
above refused.TextBytes = refl
above refused.LinesMany = refl
above refused.BookUnsound = refl
above refused.BookEmpty = refl
above refused.Limit = refl
above refused.StepZero = refl
above refused.View = refl
above refused.Number = refl
above refused.AreaSmall = refl
above refused.OutputShort = refl
above refused.Budget = refl
above refused.NoExpression = refl
above refused.TooDeep = refl
above refused.EditionsDiffer = refl
above refused.Overdrawn = refl

pub numbered : (r : Refusal) → refusal_number r ≡ 0 → ⊥
numbered r e = let k : 0 < refusal_number r = ltb-true 0 (refusal_number r) (above r) in omega (arith, e, k)

module _ {A : Type 0} where
  pub told_ok : (r : Result A Refusal) → number_told r ≡ 0 → (x : A) × (r ≡ Ok x)
  unfolding number_told
  told_ok (Ok x) e = (x, refl)
  told_ok (Err w) e = absurd (numbered w e)

  pub told_err : (r : Result A Refusal) → (number_told r ≡ 0 → ⊥) → (w : Refusal) × (r ≡ Err w)
  unfolding number_told
  told_err (Ok x) k = absurd (k refl)
  told_err (Err w) k = (w, refl)
