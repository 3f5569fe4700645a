-- A scan that is charged to an allowance, as its callers take it.
--     spent_done          the answer, and what is used beside it
--     allowed-length      the name's part is as long as the name
--     cap_stops           where used is the cap, what nothing else refuses is stopped before its first scoring
-- Assumes nothing.
use mathlib.Core.Path.{◌≡◌, refl, sym, ◌∙◌, subst}
use mathlib.Core.Bool.{Bool, true, false}
use mathlib.Core.List.{List}
use Prim.Native.Nat.{ℕ, ◌+◌, ◌<◌}
use native.Mathlib.Omega.{arith}
use lib.Dec.{eqb}
use lib.ListN.{length}
use borrow.Author.Tests.{eqb-true, eqb-false}
use Rattle.rules.specs.declared.Limits.{Limits}
use Rattle.rules.specs.declared.Mode.{Mode}
use Rattle.rules.specs.declared.Scanned.{Scanned}
use Rattle.rules.specs.Lines.{lines, line_count}
use Rattle.rules.specs.Book.{ReadAs, shelved, edition_of}
use Rattle.rules.specs.Jobs.{lent}
use Rattle.rules.proofs.RefusalLaws.{lines-count}
use Rattle.preproc_test.proofs.CountLaws.{split-some}
use Rattle.refusals.proofs.PassedLaws.{scan_passed}
use Rattle.scan_answer.proofs.AnswerLaws.{refused-is}
use Rattle.scan_job.proofs.FaceLaws.{part_length, over_budget_lem}
use Rattle.allowance.specs.declared.Allowance.{Allowance}
use Rattle.allowance.specs.Allowed.{with_used, charged, AllowedDone}
use Rattle.allowance.proofs.AllowedLaws.{refused, unless_overdrawn, overdrawn_answer, allowed_as_plain, allowed-count}
use Rattle.allowance.proofs.ScoringLaws.{scan_scores}

-- what is used is handed out beside the answer, by the answer's count
pub spent_done : {t : List ℕ} {bs : List (List ℕ)} {lim : Limits} {mode : Mode} {x : Allowance} {b₀ b w₀ w r₀ r : List ℕ} {a : Scanned} {n : ℕ} →
    n ≡ a.count → AllowedDone t bs lim mode x (charged x a) b₀ b w₀ w r₀ r a → AllowedDone t bs lim mode x (with_used x (x.used + n)) b₀ b w₀ w r₀ r a
unfolding charged
spent_done {t} {bs} {lim} {mode} {x} {b₀} {b} {w₀} {w} {r₀} {r} {a} e d = rw e d

-- ---- the name's part is as long as the name, as of every scan
pub allowed-length : {t first second : List ℕ} {bs : List (List ℕ)} {lim : Limits} {mode : Mode} {x₀ x : Allowance} {b₀ b w₀ w r₀ r : List ℕ} {a : Scanned} →
    ReadAs first second bs → AllowedDone t bs lim mode x₀ x b₀ b w₀ w r₀ r a → a.part.len ≡ a.len
allowed-length {t} {first} {second} {bs} {lim} {mode} {x₀} {x} {b₀} {b} {w₀} {w} {r₀} {r} {a} read d = at (eqb a.refusal 17) refl
  where
    at : (u : Bool) → eqb a.refusal 17 ≡ u → a.part.len ≡ a.len
    at true q = rw (overdrawn_answer d (eqb-true a.refusal 17 q) ∙ sym (refused-is bs lim 17)) (omega arith)
    at false q = part_length read (unless_overdrawn d (eqb-false a.refusal 17 q))

-- ---- used equal to cap is a budget of 0, and every scan makes a scoring
pub cap_stops : {t : List ℕ} {bs : List (List ℕ)} {lim : Limits} {mode : Mode} {x₀ x : Allowance} {b₀ b w₀ w r₀ r : List ℕ} {a : Scanned} →
    (d : AllowedDone t bs lim mode x₀ x b₀ b w₀ w r₀ r a) → x₀.used ≡ x₀.cap → refused d ≡ 0 → (a.refusal ≡ 12) × (a.count ≡ 0)
unfolding line_count
cap_stops {t} {bs} {lim} {mode} {x₀} {x} {b₀} {b} {w₀} {w} {r₀} {r} {a} d e z =
    let passed = scan_passed t bs lim mode (lent b₀ w₀) (length r₀) z in
    let ls = lines (edition_of bs) t in
    let some : 0 < length ls = omega (arith, lines-count (edition_of bs) t, split-some t) in
    let scores = scan_scores lim (shelved 0 bs) ls mode passed.1 some in
    let plain = allowed_as_plain d (omega arith) in
    (over_budget_lem plain z (omega (arith, scores, passed.0.some)), omega (arith, allowed-count d (omega arith) z))
