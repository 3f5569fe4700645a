-- Which answer it is.
-- Assumes nothing.
use mathlib.Core.Path.{◌≡◌}
use mathlib.Core.Bool.{true, false}
use mathlib.Core.List.{List, []}
use Prim.Native.Nat.{ℕ}
use Rattle.rules.specs.Bytes.{text, starts}
use Rattle.questions.specs.Fields.{text_of}
use Rattle.replay_tables.specs.Told.{table_for, table_asked, answer_of}

module _ (n : ℕ) (q : List ℕ) where
  -- what was read is what the word stands for
  pub table-asked : (t : List ℕ) → t ≡ text_of 2048 1 q → table_for n t ≡ table_asked n q
  unfolding table_asked
  table-asked t e = rw e

  pub other_question : starts (text "table ") q ≡ false → answer_of n q ≡ []
  unfolding answer_of
  other_question e = rw e

  pub right_question : starts (text "table ") q ≡ true → answer_of n q ≡ table_asked n q
  unfolding answer_of
  right_question e = rw e
