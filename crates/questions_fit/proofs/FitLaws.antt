-- What a view that fits is, and what the answer of the test of its text says of that.
-- Assumes nothing.
use Rattle.std.proofs.Common.{Bool, Result, Ok, Err}
use mathlib.Core.Path.{◌≡◌}
use mathlib.Core.Bool.{true, false, ◌&&◌}
use mathlib.Core.List.{List}
use Prim.Native.Nat.{ℕ, ◌≤◌}
use lib.Dec.{leb, eqb}
use borrow.Author.Tests.{ne_eqb, eqb-true, leb-true}
use Rattle.rules.specs.Lines.{line_count}
use Rattle.rules.specs.declared.Refusal.{Refusal}
use Rattle.rules.specs.Refusal.{refusal, of_text}
use Rattle.rules.specs.Told.{refusal_number, number_told}
use Rattle.rules.proofs.ToldLaws.{numbered}
use Rattle.rules.proofs.BoolLaws.{and_left, and_right}
use Rattle.preproc_test.specs.Counts.{AsTested}
use Rattle.questions_fit.specs.Views.{view_fits}

-- by the answer of the test of a text
abbrev pub fits_on : (start end : ℕ) → Result ℕ Refusal → Bool
fits_on start end (Ok lines) = leb end lines && leb start end
fits_on start end (Err r) = false

module _ (e start end : ℕ) (t : List ℕ) where
  pub tested-fits : (r : Result ℕ Refusal) → AsTested e t r → fits_on start end r ≡ view_fits e start end t
  unfolding view_fits number_told
  tested-fits (Ok lines) h = rw (← h.number, h.lines)
  tested-fits (Err r) h = rw (← h.number, ne_eqb (refusal_number r) 0 (numbered r))

  pub record Fits : Type 0 where
    pub passes : refusal (of_text e t) ≡ 0
    pub within : end ≤ line_count t
    pub order : start ≤ end

  pub fits : view_fits e start end t ≡ true → Fits
  unfolding view_fits
  fits h =
      let p = eqb (refusal (of_text e t)) 0 in
      let q = leb end (line_count t) in
      let front = and_left (p && q) (leb start end) h in
      record {
        passes = eqb-true (refusal (of_text e t)) 0 (and_left p q front);
        within = leb-true end (line_count t) (and_right p q front);
        order = leb-true start end (and_right (p && q) (leb start end) h);
      }
