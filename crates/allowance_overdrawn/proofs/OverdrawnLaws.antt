-- What the code knows before a scan that is charged to an allowance.
--     refused-first, refused_17      the number of what `overdrawn` answers,
--     answers_overdrawn              and the answer to it
--     overdrawn_done                 so nothing has changed, and nothing is charged
--     beside_lends, beside_books     a second book that is not lent has no bytes
-- Assumes nothing.
use mathlib.Core.Path.{◌≡◌, refl, sym, ap, ◌∙◌}
use mathlib.Core.Bool.{Bool, true, false, cond, false≢true}
use mathlib.Core.List.{List, [], ◌∷◌}
use Prim.Native.Nat.{ℕ, ◌<◌}
use lib.Dec.{eqb}
use lib.ListN.{length}
use borrow.Author.Tests.{eqb-true, eqb-false, ne_eqb}
use Rattle.rules.specs.declared.Limits.{Limits}
use Rattle.rules.specs.declared.Mode.{Mode}
use Rattle.std.proofs.Common.{Result, Ok, Err}
use Rattle.rules.specs.declared.Refusal.{Refusal}
use Rattle.rules.specs.declared.Scanned.{Scanned}
use Rattle.rules.specs.Told.{refusal_number, number_told, scanned_told}
use Rattle.rules.proofs.ToldLaws.{numbered}
use Rattle.rules.specs.Refusal.{refusal, before_scan}
use Rattle.rules.specs.Jobs.{lent}
use Rattle.detection_shelf.specs.Shelves.{shelf, books_of, Lends}
use Rattle.scan_answer.specs.Answers.{refused_by}
use Rattle.scan_answer.proofs.AnswerLaws.{refused-is, scan-refused}
use Rattle.allowance.specs.declared.Allowance.{Allowance}
use Rattle.allowance.specs.Allowed.{left_of, charged, AllowedDone}
use Rattle.allowance.proofs.AllowedLaws.{refused-allowed, overdrawn_allowed}
use Rattle.allowance_overdrawn.specs.Overdrawn.{or_overdrawn}

pub refused-first : {m : ℕ} (r : Refusal) → refusal_number r ≡ m → refusal_number r ≡ or_overdrawn m
refused-first {m} r e = e ∙ simp (ne_eqb m 0 (λ z. numbered r (e ∙ z)))

pub refused_17 : {m : ℕ} → m ≡ 0 → 17 ≡ or_overdrawn m
refused_17 {m} e = simp e

-- what is let through has no number, and a refusal its own
pub number-passed : {A : Type 0} {n : ℕ} {r : Result A Refusal} {x : A} → r ≡ Ok x → number_told r ≡ n → n ≡ 0
unfolding number_told
number-passed p e = sym e ∙ ap number_told p

pub number-refused : {A : Type 0} {n : ℕ} {r : Result A Refusal} {x : Refusal} → r ≡ Err x → number_told r ≡ n → refusal_number x ≡ n
unfolding number_told
number-refused p e = sym (ap number_told p) ∙ e

-- a refusal's answer
pub answers_overdrawn : (m : ℕ) (r : Refusal) → refusal_number r ≡ or_overdrawn m → scanned_told (Err r) ≡ refused_by (or_overdrawn m)
answers_overdrawn m r e = ap refused_by e

pub overdrawn_done : (x : Allowance) {t : List ℕ} {bs : List (List ℕ)} {lim : Limits} {mode : Mode} {b₀ w₀ r₀ : List ℕ} {a : Scanned} →
    x.cap < x.used → a ≡ refused_by (or_overdrawn (refusal (before_scan t bs lim mode (lent b₀ w₀) (length r₀)))) → AllowedDone t bs lim mode x (charged x a) b₀ b₀ w₀ w₀ r₀ r₀ a
overdrawn_done x {t} {bs} {lim} {mode} {b₀} {w₀} {r₀} {a} l o = at (eqb n 0) refl o
  where
    n : ℕ
    n = refusal (before_scan t bs lim mode (lent b₀ w₀) (length r₀))

    at : (u : Bool) → eqb n 0 ≡ u → a ≡ refused_by (cond u 17 n) → AllowedDone t bs lim mode x (charged x a) b₀ b₀ w₀ w₀ r₀ r₀ a
    at true q e = overdrawn_allowed x (eqb-true n 0 q) l (e ∙ refused-is bs lim 17)
    at false q e =
        let h = eqb-false n 0 q in
        refused-allowed x h (scan-refused t bs lim mode (left_of x) b₀ w₀ r₀ n a refl h e)

-- ---- the second book, as C lends it
module _ (book second beside : List ℕ) where
  pub beside_lends : (two : Bool) → beside ≡ cond two second [] → Lends (shelf book beside) two
  beside_lends true e = λ h. absurd (false≢true (sym h))
  beside_lends false e = λ h. e

  pub beside_books : (two : Bool) → beside ≡ cond two second [] → books_of (shelf book beside) two ≡ books_of (shelf book second) two
  beside_books true e = ap (λ (s : List ℕ). book ∷ s ∷ []) e
  beside_books false e = refl
