-- The overall best of what happens in a scan: whose it is.
--     verdict-after, verdict-prefix     scorings do not change it, and a budget leaves it or none
--     down_verdict                      top-down has none
--     overall-paid, overall_unpaid      of elimination it is the best of all stored texts, once each is scored, and none before
--     happened-one                      what holds of none and of every stored text's scoring holds of it
--     named-one                         what holds of no text and of every stored text holds of the text that a scan names
-- Assumes nothing.
use mathlib.Core.Path.{◌≡◌, refl, sym, ap, ◌∙◌, subst}
use mathlib.Core.Bool.{Bool, true, false, ◌||◌, cond}
use mathlib.Core.List.{List, [], ◌∷◌}
use mathlib.Core.Option.{Option, none, some}
use Prim.Native.Nat.{ℕ, zero, suc, ◌+◌, ◌-◌, ◌≤◌, ◌<◌}
use native.Mathlib.Omega.{arith}
use lib.Dec.{ltb, eqb}
use lib.ListN.{length, take}
use Rattle.rules.specs.declared.Areas.{Areas}
use Rattle.rules.specs.declared.Limits.{Limits}
use Rattle.rules.specs.declared.Mode.{Mode}
use Rattle.rules.specs.declared.Mode.TheVariants.{Elimination, TopDown}
use Rattle.rules.specs.Lines.{lines}
use Rattle.rules.specs.Search.{whole, Stored, no_text, Scoring, Made, recurse, turns, scored, score_view, Best, no_best, best}
use Rattle.rules.specs.Scan.{Event, paid, overall, found, Recorded, after, afford, verdict, names, contained, and_on, down_on, down_from, top_down, elimination, events}
use Rattle.rules.specs.Book.{shelved, edition_of}
use Rattle.rules.specs.Refusal.{refusal, of_scan}
use Rattle.rules.specs.Jobs.{happened, named}
use Rattle.rules.proofs.BudgetLaws.{afford-whole, afford-part}
use Rattle.rules.proofs.CountLaws.{best-count}
use Rattle.rules.proofs.DownLaws.{Each}
use Rattle.rules.proofs.RankLaws.{best-one}

pub verdict-after : (ss : List Scoring) (es : List Event) → verdict (after ss es) ≡ verdict es
unfolding after verdict
verdict-after [] es = refl
verdict-after (s ∷ ss) es = verdict-after ss es

-- what holds of none and of the whole list's best holds of the best under any budget
pub verdict-prefix : (P : Best → Type 0) → P no_best → (b : ℕ) (es : List Event) → P (verdict es) → P (verdict (afford b es))
unfolding verdict afford
verdict-prefix P n b [] h = n
verdict-prefix P n zero (paid s ∷ es) h = n
verdict-prefix P n (suc b) (paid s ∷ es) h = verdict-prefix P n b es h
verdict-prefix P n b (overall x ∷ es) h = h
verdict-prefix P n b (found r ∷ es) h = verdict-prefix P n b es h

-- ---- top-down has no overall best
module _ (lim : Limits) (s : ℕ) (ss : List Stored) (ls : List (List ℕ)) where
  down_turns : (n c : ℕ) → verdict (turns n (λ i. []) (down_on lim s ss ls) c) ≡ no_best
  unfolding turns verdict down_on and_on
  down_turns zero c = refl
  down_turns (suc n) c = at (ltb c (length ls)) (λ d. down_turns n d)
    where
      m : Made (Option Recorded)
      m = contained lim s ss ls c

      go : ℕ → List Event
      go d = turns n (λ i. []) (down_on lim s ss ls) d

      on : (o : Option Recorded) → ((d : ℕ) → verdict (go d) ≡ no_best) → verdict (and_on (λ d. go d) o) ≡ no_best
      on none h = refl
      on (some r) h = h (r.range.after + 1)

      at : (t : Bool) → ((d : ℕ) → verdict (go d) ≡ no_best) → verdict (cond t (after m.list (and_on (λ d. go d) m.value)) []) ≡ no_best
      at true h = verdict-after m.list (and_on (λ d. go d) m.value) ∙ on m.value h
      at false h = refl

  pub down_verdict : verdict (top_down lim s ss ls) ≡ no_best
  unfolding top_down down_from recurse
  down_verdict = down_turns (suc (length ls - 0)) 0

  pub down_unpaid : (b : ℕ) → verdict (afford b (top_down lim s ss ls)) ≡ no_best
  down_unpaid b = verdict-prefix (λ x. x ≡ no_best) refl b (top_down lim s ss ls) down_verdict

-- ---- elimination's, under a budget
module _ (lim : Limits) (optimize : Bool) (p : ℕ) (ss : List Stored) (ls : List (List ℕ)) (b : ℕ) where
  abbrev first : Made Best
  first = best ss ls (whole ls)

  pub overall-paid : length ss ≤ b → verdict (afford b (elimination lim optimize p ss ls)) ≡ first.value
  unfolding elimination verdict afford
  overall-paid h =
      ap verdict (afford-whole b first.list _ (omega (arith, h, best-count ss ls (whole ls)))) ∙ verdict-after first.list _

  pub overall_unpaid : b < length ss → verdict (afford b (elimination lim optimize p ss ls)) ≡ no_best
  unfolding elimination verdict
  overall_unpaid h =
      ap verdict (afford-part b first.list _ (omega (arith, h, best-count ss ls (whole ls)))) ∙ verdict-after (take b first.list) []

module _ (P : Best → Type 0) (no : P no_best) where
  abbrev pub Scored : List (List ℕ) → Stored → Type 0
  Scored ls s = P (record { text = s; value = (score_view ls s (whole ls)).value })

  events-one : (lim : Limits) (mode : Mode) (ss : List Stored) (ls : List (List ℕ)) → Each (Scored ls) ss → P (verdict (events lim mode ss ls))
  unfolding events elimination verdict best score_view scored
  events-one lim (Elimination optimize p) ss ls h = subst P (sym (verdict-after (best ss ls (whole ls)).list _)) (best-one P _ _ ss no_best h no)
  events-one lim (TopDown s) ss ls h = subst P (sym (down_verdict lim s ss ls)) no

  pub happened-one : (t : List ℕ) (bs : List (List ℕ)) (lim : Limits) (mode : Mode) (b : ℕ) (a : Areas) (results : ℕ) →
      Each (Scored (lines (edition_of bs) t)) (shelved 0 bs) → P (verdict (happened t bs lim mode b a results))
  unfolding happened verdict
  happened-one t bs lim mode b a results h = at (eqb n 0 || eqb n 12)
    where
      n : ℕ
      n = refusal (of_scan t bs lim mode b a results)

      full : List Event
      full = events lim mode (shelved 0 bs) (lines (edition_of bs) t)

      at : (q : Bool) → P (verdict (cond q (afford b full) []))
      at true = verdict-prefix P no b full (events-one lim mode (shelved 0 bs) (lines (edition_of bs) t) h)
      at false = no

-- ---- what holds of no text and of every stored text
module _ (P : Stored → Type 0) (no : P no_text) where
  pub named-one : (t : List ℕ) (bs : List (List ℕ)) (lim : Limits) (mode : Mode) (b : ℕ) (a : Areas) (results : ℕ) → Each P (shelved 0 bs) →
      P (named lim (verdict (happened t bs lim mode b a results)))
  unfolding named no_best
  named-one t bs lim mode b a results h = at (names lim x) (happened-one (λ b. P b.text) no t bs lim mode b a results h)
    where
      x : Best
      x = verdict (happened t bs lim mode b a results)

      at : (q : Bool) → P x.text → P (cond q x.text no_text)
      at true k = k
      at false k = no
