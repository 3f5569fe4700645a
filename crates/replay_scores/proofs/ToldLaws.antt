-- Which answer it is.
-- Assumes nothing.
use mathlib.Core.Path.{◌≡◌}
use mathlib.Core.Bool.{true, false}
use mathlib.Core.List.{List, []}
use Prim.Native.Nat.{ℕ}
use Rattle.rules.specs.Bytes.{text, starts}
use Rattle.rules.specs.Lines.{lines}
use Rattle.rules.specs.Table.{Table, view_table, value_of}
use Rattle.rules.specs.Search.{view, viewed}
use Rattle.questions.specs.Fields.{text_of, number_of}
use Rattle.questions_fit.specs.Views.{view_fits}
use Rattle.replay_tables.specs.Told.{compiles}
use Rattle.replay_scores.specs.Told.{bits_told, score_over, score_for, score_asked, answer_of}

module _ (n start end : ℕ) (t : List ℕ) (u : Table) where
  pub no-view : view_fits n start end t ≡ false → score_over n start end t u ≡ []
  unfolding score_over
  no-view e = rw e

  pub right-view : view_fits n start end t ≡ true → score_over n start end t u ≡ bits_told (value_of (view_table (viewed (lines n t) (view start end))) u).score
  unfolding score_over
  right-view e = rw e

module _ (n start end : ℕ) (t licence : List ℕ) where
  pub no_licence : compiles n licence ≡ false → score_for n start end t licence ≡ []
  unfolding score_for
  no_licence e = rw e

  pub right_licence : compiles n licence ≡ true → score_for n start end t licence ≡ score_over n start end t (view_table (lines n licence))
  unfolding score_for
  right_licence e = rw e

module _ (n : ℕ) (q : List ℕ) where
  -- what was read is what the words stand for
  pub score-asked : (start end : ℕ) (t licence : List ℕ) → start ≡ number_of 1 q → end ≡ number_of 2 q → t ≡ text_of 2048 3 q → licence ≡ text_of 2048 4 q →
      score_for n start end t licence ≡ score_asked n q
  unfolding score_asked
  score-asked start end t licence a b c d = rw (a, b, c, d)

  pub other_question : starts (text "score ") q ≡ false → answer_of n q ≡ []
  unfolding answer_of
  other_question e = rw e

  pub right_question : starts (text "score ") q ≡ true → answer_of n q ≡ score_asked n q
  unfolding answer_of
  right_question e = rw e
