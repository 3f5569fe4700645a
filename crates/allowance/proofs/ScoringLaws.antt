-- Every scan of a note with a line against a stored text makes a scoring, in fact one for each stored text (`scan_scores`); so a budget of 0 stops it.
-- Assumes nothing.
use mathlib.Core.Path.{◌≡◌, ap, ◌∙◌}
use mathlib.Core.Bool.{Bool, false}
use mathlib.Core.List.{List, ◌∷◌, ◌++◌, map}
use mathlib.Core.Option.{none}
use Prim.Native.Nat.{ℕ, suc, ◌+◌, ◌≤◌, ◌<◌}
use native.Mathlib.Omega.{arith}
use lib.ListN.{length, length-append}
use borrow.Author.Tests.{lt-ltb, eqb-false}
use Rattle.rules.specs.declared.Limits.{Limits}
use Rattle.rules.specs.declared.Mode.{Mode}
use Rattle.rules.specs.declared.Mode.TheVariants.{Elimination, TopDown}
use Rattle.rules.specs.declared.View.{View}
use Rattle.rules.specs.Search.{view, whole, Stored, best, Scoring}
use Rattle.rules.specs.Scan.{Event, after, elimination, steps, views_of, latest, contained, down_on, top_down, events, scorings}
use Rattle.rules.specs.Refusal.{step_zero}
use Rattle.rules.proofs.Steps.{steps-more}
use Rattle.rules.proofs.DownLaws.{down_step}
use Rattle.rules.proofs.CountLaws.{best-count}
use Rattle.rules.proofs.BudgetLaws.{scorings-after}

-- what stands in front is scored
after_scores : (n : ℕ) (ss : List Scoring) (es : List Event) → n ≤ length ss → n ≤ length (scorings (after ss es))
after_scores n ss es l = omega (arith, ap length (scorings-after ss es), length-append ss (scorings es))

module _ (lim : Limits) (ss : List Stored) (ls : List (List ℕ)) where
  elimination_scores : (optimize : Bool) (p : ℕ) → length ss ≤ length (scorings (elimination lim optimize p ss ls))
  unfolding elimination
  elimination_scores optimize p = after_scores (length ss) (best ss ls (whole ls)).list _ (omega (arith, best-count ss ls (whole ls)))

  -- top-down begins with the view of no line at the first; those behind it
  abbrev later : ℕ → List View
  later s = map (λ e. view 0 e) (steps s (0 + s) (suc (length ls))) ++ views_of s (length ls) (steps s (0 + s) (length ls))

  first-view : (s : ℕ) → 0 < s → 0 < length ls → views_of s (length ls) (steps s 0 (length ls)) ≡ view 0 0 ∷ later s
  unfolding views_of
  first-view s p h =
      ap (views_of s (length ls)) (steps-more s 0 (length ls) p h) ∙
      ap (λ (ends : List ℕ). map (λ e. view 0 e) ends ++ views_of s (length ls) (steps s (0 + s) (length ls))) (steps-more s 0 (suc (length ls)) p (omega arith))

  latest_scores : (v : View) (vs : List View) → length ss ≤ length (latest lim ss ls none (v ∷ vs)).list
  unfolding latest
  latest_scores v vs = simp (length-append, best-count) (omega arith)

  contained_scores : (s : ℕ) → 0 < s → 0 < length ls → length ss ≤ length (contained lim s ss ls 0).list
  unfolding contained
  contained_scores s p h = rw (first-view s p h) (simp length-append (omega (arith, latest_scores (view 0 0) (later s))))

  top_down_scores : (s : ℕ) → 0 < s → 0 < length ls → length ss ≤ length (scorings (top_down lim s ss ls))
  unfolding top_down down_on
  top_down_scores s p h =
      rw (down_step lim s ss ls p 0) (simp (lt-ltb 0 (length ls) h) (after_scores (length ss) (contained lim s ss ls 0).list _ (contained_scores s p h)))

  pub scan_scores : (mode : Mode) → step_zero mode ≡ false → 0 < length ls → length ss ≤ length (scorings (events lim mode ss ls))
  unfolding events step_zero
  scan_scores (Elimination optimize p) z h = elimination_scores optimize p
  scan_scores (TopDown s) z h = let k = eqb-false s 0 z in top_down_scores s (omega (arith, k)) h
