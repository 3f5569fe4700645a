-- What is said of a whole text: its verdict, and of an accepted one its tree's value, with the tree written over the output.
-- Assumes nothing.
use Rattle.std.specs.Prelude.{ℕ, ◌≡◌, List, length, Result, Ok, Err}
use Rattle.rules.specs.Told.{refusal_number}
use Rattle.expression.specs.declared.Refused.{Refused}
use Rattle.expression.specs.Reading.{Tree, accepted, refused, verdict}
use Rattle.expression_joints.specs.declared.Value.{Value}
use Rattle.expression_levels.specs.Levels.{Valued}

pub data Whole (list text s d : List ℕ) : Result Value Refused → Type 0 where
  whole : {v : Value} (t : Tree) → verdict text ≡ accepted t → Valued list s 0 t v d → Whole list text s d (Ok v)
  none : {r : Refused} → verdict text ≡ refused (refusal_number r.refusal) r.place → length d ≡ length s → Whole list text s d (Err r)

-- whatever output it was
pub record Learnt (list text : List ℕ) (r : Result Value Refused) : Type 0 where
  pub before : List ℕ
  pub after : List ℕ
  pub told : Whole list text before after r
