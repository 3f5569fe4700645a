-- Which answer it is.
-- Assumes nothing.
use mathlib.Core.Path.{◌≡◌}
use mathlib.Core.Bool.{true, false}
use mathlib.Core.List.{List, []}
use Prim.Native.Nat.{ℕ}
use Rattle.rules.specs.Bytes.{text, starts}
use Rattle.rules.specs.Points.{encoded}
use Rattle.rules.specs.Lines.{lines}
use Rattle.rules.specs.Passes.{aggressive}
use Rattle.rules.specs.Search.{view, viewed}
use Rattle.questions.specs.Fields.{text_of, number_of}
use Rattle.questions_fit.specs.Views.{view_fits}
use Rattle.replay_views.specs.Told.{told, answer_to, answer_in, answer_of}

module _ (n start end : ℕ) (t : List ℕ) where
  pub no-view : view_fits n start end t ≡ false → answer_to n start end t ≡ []
  unfolding answer_to
  no-view e = rw e

  pub right-view : view_fits n start end t ≡ true → answer_to n start end t ≡ told (encoded (aggressive (viewed (lines n t) (view start end))))
  unfolding answer_to
  right-view e = rw e

module _ (n : ℕ) (q : List ℕ) where
  -- what was read is what the words stand for
  pub view-asked : (start end : ℕ) (t : List ℕ) → start ≡ number_of 1 q → end ≡ number_of 2 q → t ≡ text_of 2048 3 q → answer_to n start end t ≡ answer_in n q
  unfolding answer_in
  view-asked start end t a b c = rw (a, b, c)

  pub other_question : starts (text "view ") q ≡ false → answer_of n q ≡ []
  unfolding answer_of
  other_question e = rw e

  pub right_question : starts (text "view ") q ≡ true → answer_of n q ≡ answer_in n q
  unfolding answer_of
  right_question e = rw e
