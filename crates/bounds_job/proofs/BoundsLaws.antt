-- The two ends of the job `bounds`: a refusal (`bounds-refused`), and the answer (`bounds-done`).
-- Assumes nothing.
use mathlib.Core.Path.{◌≡◌}
use mathlib.Core.List.{List}
use Prim.Native.Nat.{ℕ}
use borrow.Author.Tests.{ne_eqb}
use Rattle.std.specs.Prelude.{Ok, Err}
use Rattle.rules.specs.declared.View.{View}
use Rattle.rules.specs.declared.Located.{Located}
use Rattle.rules.specs.declared.Refusal.{Refusal}
use Rattle.rules.specs.Lines.{lines}
use Rattle.rules.specs.Search.{Stored}
use Rattle.rules.specs.Book.{shelved, edition_of}
use Rattle.rules.specs.Refusal.{refusal, of_view}
use Rattle.rules.specs.Jobs.{lent, bounds_found, bounds_job, BoundsDone}
use Rattle.rules.specs.Told.{refusal_number, bounded_told}
use Rattle.rules.proofs.ToldLaws.{numbered}
use Rattle.refusals.proofs.AdmitLaws.{view-kept}
use Rattle.refusals.proofs.AreaLaws.{BothAfter}

module _ (t : List ℕ) (bs : List (List ℕ)) (v : View) (k : ℕ) (b₀ w₀ : List ℕ) where
  abbrev number : ℕ
  number = refusal (of_view t bs v k (lent b₀ w₀))

  pub bounds-refused : (r : Refusal) → refusal_number r ≡ number → BoundsDone t bs v k b₀ b₀ w₀ w₀ (bounded_told (Err r))
  unfolding bounds_job
  bounds-refused r e =
      let q = numbered r in
      let areas = view-kept t bs v k b₀ w₀ (refusal_number r) e q in
      record { answer = rw (← e, ne_eqb (refusal_number r) 0 q); bytes = areas.bytes; words = areas.words }

  pub bounds-done : (ss : List Stored) → shelved 0 bs ≡ ss → (x : Located) → number ≡ 0 → bounded_told (Ok x) ≡ bounds_found (lines (edition_of bs) t) ss v k →
      {b w : List ℕ} → BothAfter 0 b₀ b w₀ w → BoundsDone t bs v k b₀ b w₀ w (bounded_told (Ok x))
  unfolding bounds_job
  bounds-done ss s x z e areas = record { answer = rw (z, s) e; bytes = areas.bytes; words = areas.words }
