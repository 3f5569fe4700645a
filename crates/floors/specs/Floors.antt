-- What a score has to beat; and what a scoring tells that is made only as far as it can beat it.
-- Assumes nothing.
use Rattle.std.specs.Prelude.{◌≡◌, Bool, true, not, cond, T, Float}
use Rattle.std.specs.Float.Ieee.{lt}
use Rattle.rules.specs.declared.Value.{Value}
use Rattle.rules.specs.Table.{nought}
use Rattle.rules.specs.Refusal.{unit}
use Rattle.floors.specs.declared.Floor.{Floor}

-- above it; where ties do, not below it
unfoldable pub beats : Floor → Float → Bool
beats floor x = cond floor.ties (not (lt x floor.score)) (lt floor.score x)

-- what every score beats
abbrev pub lowest : Floor
lowest = record { score = nought; ties = true }

-- r is the value x, unless neither's score beats the floor; both scores are from 0.0 to 1.0
pub record Judged (floor : Floor) (x r : Value) : Type 0 where
  pub real : beats floor x.score ≡ true → r ≡ x
  pub told : beats floor r.score ≡ true → r ≡ x
  pub real-unit : T (unit x.score)
  pub told-unit : T (unit r.score)
