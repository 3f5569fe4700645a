-- The public calls on expressions: for every input the answer, and what the output holds after it. A refusal's answer is its number and place, all
-- else zero.
-- Assumes nothing.
use Rattle.std.specs.Prelude.{ℕ, ◌≡◌, false, cond, List, ltb, length}
use Rattle.rules.specs.Jobs.{over}
use Rattle.expression.specs.declared.Satisfied.{Satisfied}
use Rattle.expression.specs.declared.Spelled.{Spelled}
use Rattle.expression.specs.Reading.{Verdict, accepted, refused, verdict}
use Rattle.expression.specs.Writing.{spell, satisfied}

-- ---- whether a list of accepted parts satisfies a text
unfoldable pub satisfy_as : List ℕ → Verdict → Satisfied
satisfy_as list (accepted t) = record { refusal = 0; satisfied = satisfied list t; place = 0 }
satisfy_as list (refused k p) = record { refusal = k; satisfied = false; place = p }

unfoldable pub satisfy : List ℕ → List ℕ → Satisfied
satisfy s list = satisfy_as list (verdict s)

-- ---- a text written back into an output of so many bytes; 11: they are too few, and nothing is written
unfoldable pub spelled_as : Verdict → ℕ → Spelled
spelled_as (accepted t) room =
    let short : Spelled = record { refusal = 11; place = 0; len = 0 } in
    let fits : Spelled = record { refusal = 0; place = 0; len = length (spell t) } in
    cond (ltb room (length (spell t))) short fits
spelled_as (refused k p) room = record { refusal = k; place = p; len = 0 }

unfoldable pub written_as : Verdict → List ℕ → List ℕ
written_as (accepted t) out = let new = over (spell t) out in cond (ltb (length out) (length (spell t))) out new
written_as (refused k p) out = out

pub record WriteDone (s out₀ out : List ℕ) (r : Spelled) : Type 0 where
  pub answer : r ≡ spelled_as (verdict s) (length out₀)
  pub output : out ≡ written_as (verdict s) out₀

unfoldable pub opened : Unit {0}
unfolding satisfy_as satisfy spelled_as written_as
opened = tt
