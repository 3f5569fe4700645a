-- `lead_by`: all bytes up to i pass the test, whatever test of the rules the calls answer.
-- Assumes nothing.
use mathlib.Core.Path.{◌≡◌}
use mathlib.Core.Bool.{Bool}
use Prim.Native.Nat.{ℕ}
use Rattle.slices.proofs.LeadLaws.{Led}
use Rattle.slices.proofs.lead.lead_by.Given as goal

abbrev pub invariant-loop-i : goal.invariant-loop-i
invariant-loop-i g l = (p : ℕ → Bool) → ((x : ℕ) (r : Bool) → goal.F-post g l.test x r → r ≡ p x) → Led p l.s l.at l.i
