-- The two ends of the job `score`: a refusal (`score-refused`), and the answer (`score-done`).
-- Assumes nothing.
use mathlib.Core.Path.{◌≡◌}
use mathlib.Core.List.{List}
use Prim.Native.Nat.{ℕ}
use lib.ListN.{get_or}
use borrow.Author.Tests.{ne_eqb}
use Rattle.std.specs.Prelude.{Ok, Err}
use Rattle.rules.specs.declared.View.{View}
use Rattle.rules.specs.declared.Value.{Value}
use Rattle.rules.specs.declared.Refusal.{Refusal}
use Rattle.rules.specs.Lines.{lines}
use Rattle.rules.specs.Search.{Stored, no_text, score_view}
use Rattle.rules.specs.Book.{shelved, edition_of}
use Rattle.rules.specs.Refusal.{refusal, of_view}
use Rattle.rules.specs.Jobs.{lent, score_job, ScoreDone}
use Rattle.rules.specs.Told.{refusal_number, scored_told}
use Rattle.rules.proofs.ToldLaws.{numbered}
use Rattle.refusals.proofs.AdmitLaws.{view-kept}
use Rattle.refusals.proofs.AreaLaws.{BothAfter}

module _ (t : List ℕ) (bs : List (List ℕ)) (v : View) (k : ℕ) (b₀ w₀ : List ℕ) where
  abbrev number : ℕ
  number = refusal (of_view t bs v k (lent b₀ w₀))

  pub score-refused : (r : Refusal) → refusal_number r ≡ number → ScoreDone t bs v k b₀ b₀ w₀ w₀ (scored_told (Err r))
  unfolding score_job
  score-refused r e =
      let q = numbered r in
      let areas = view-kept t bs v k b₀ w₀ (refusal_number r) e q in
      record { answer = rw (← e, ne_eqb (refusal_number r) 0 q); bytes = areas.bytes; words = areas.words }

  pub score-done : (ss : List Stored) → shelved 0 bs ≡ ss → (x : Value) → number ≡ 0 →
      x ≡ (score_view (lines (edition_of bs) t) (get_or ss k no_text) v).value → {b w : List ℕ} → BothAfter 0 b₀ b w₀ w → ScoreDone t bs v k b₀ b w₀ w (scored_told (Ok x))
  unfolding score_job
  score-done ss s x z e areas = record { answer = rw (z, e, s); bytes = areas.bytes; words = areas.words }
