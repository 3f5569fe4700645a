-- The scan of either mode. Top-down has no overall best.
--     down_ended                        top-down has no overall best, under any budget
--     by_elimination, by_top_down       the events of a mode are those of its scan
-- Assumes nothing.
use mathlib.Core.Path.{◌≡◌, refl, sym, ap, ◌∙◌, subst}
use mathlib.Core.Bool.{Bool, false}
use mathlib.Core.List.{List}
use Prim.Native.Nat.{ℕ, ◌<◌}
use native.Mathlib.Omega.{arith}
use borrow.Author.Tests.{eqb-false}
use Rattle.rules.specs.declared.Limits.{Limits}
use Rattle.rules.specs.declared.Mode.{Mode}
use Rattle.rules.specs.declared.Mode.TheVariants.{Elimination, TopDown}
use Rattle.rules.specs.Search.{Stored, no_best}
use Rattle.rules.specs.Scan.{Event, top_down, elimination, events}
use Rattle.rules.specs.Refusal.{step_zero}
use Rattle.rules.proofs.VerdictLaws.{verdict-prefix, down_verdict}
use Rattle.detection_shelf.specs.Shelves.{Shelf}
use Rattle.std.proofs.Common.{None}
use Rattle.detect_best.specs.Beats.{best_in}
use Rattle.scan_ranges.specs.declared.Run.{Run}
use Rattle.license_charge.specs.declared.Scorings.{Scorings}
use Rattle.scan_elimination.specs.declared.Outcome.{Outcome}
use Rattle.scan_ranges.specs.Run.{Ran}
use Rattle.scan_elimination.specs.Ended.{Eliminated}

-- ---- by mode
module _ (lim : Limits) (mode : Mode) (ss : List Stored) (ls : List (List ℕ)) where
  pub by_elimination : (optimize : Bool) (p : ℕ) → mode ≡ Elimination optimize p → events lim mode ss ls ≡ elimination lim optimize p ss ls
  unfolding events
  by_elimination optimize p e = ap (λ (m : Mode). events lim m ss ls) e

  pub by_top_down : (s : ℕ) → mode ≡ TopDown s → events lim mode ss ls ≡ top_down lim s ss ls
  unfolding events
  by_top_down s e = ap (λ (m : Mode). events lim m ss ls) e

pub step_above : (mode : Mode) (s : ℕ) → mode ≡ TopDown s → step_zero mode ≡ false → 0 < s
unfolding step_zero
step_above mode s e h =
    let z = eqb-false s 0 (ap step_zero (sym e) ∙ h) in
    omega arith

pub eliminated_as : {note : List ℕ} {es fs : List Event} {budget : ℕ} {books : Shelf} {r₀ r : List ℕ} {x : Outcome} → es ≡ fs → Eliminated note fs budget books r₀ r x → Eliminated note es budget books r₀ r x
eliminated_as {note} {es} {fs} {budget} {books} {r₀} {r} {x} e h = subst (λ (l : List Event). Eliminated note l budget books r₀ r x) (sym e) h

-- of all that a budget pays
pub eliminated_of : {note : List ℕ} {es : List Event} {left : Scorings} {budget : ℕ} {books : Shelf} {r₀ r : List ℕ} {x : Outcome} → left ≡ record { count = budget } →
    Eliminated note es left.count books r₀ r x → Eliminated note es budget books r₀ r x
eliminated_of {note} {es} {left} {budget} {books} {r₀} {r} {x} e h = subst (λ (s : Scorings). Eliminated note es s.count books r₀ r x) e h

-- top-down as a whole
pub down_ended : {note : List ℕ} (lim : Limits) (s : ℕ) (ss : List Stored) (ls : List (List ℕ)) {budget : ℕ} {books : Shelf} {r₀ r : List ℕ} {run : Run} →
    Ran note (top_down lim s ss ls) budget r₀ r run → Eliminated note (top_down lim s ss ls) budget books r₀ r (record { best = None; run = run })
unfolding best_in
down_ended lim s ss ls {budget} a = record {
  best = sym (verdict-prefix (λ b. b ≡ no_best) refl budget (top_down lim s ss ls) (down_verdict lim s ss ls));
  name = tt;
  ran = a;
}
