-- What a scan records: what holds of the bounds of any view of so many lines against any text of a kind, of which there is one, and of which every
-- stored text is, holds of each record (`happened-recorded`). So each range lies in the note's lines (`happened-within`). With a threshold above 0.0
-- top-down's lie side by side (`happened_beside`).
-- Assumes nothing.
use mathlib.Core.Path.{◌≡◌, refl, sym, ap, ◌∙◌, subst}
use mathlib.Core.Bool.{Bool, true, false, not, ◌||◌, cond}
use mathlib.Core.List.{List, [], ◌∷◌, ◌++◌}
use mathlib.Core.Option.{Option, none, some}
use Prim.Native.Nat.{ℕ, zero, suc, ◌<◌}
use native.Mathlib.Nat.{not-suc-le-zero}
use native.Mathlib.Omega.{arith}
use lib.Dec.{eqb}
use lib.ListN.{length}
use lib.Ieee.{lt}
use borrow.Author.Tests.{eqb-false}
use Rattle.rules.specs.declared.Areas.{Areas}
use Rattle.rules.specs.declared.Limits.{Limits}
use Rattle.rules.specs.declared.Mode.{Mode}
use Rattle.rules.specs.declared.Mode.TheVariants.{Elimination, TopDown}
use Rattle.rules.specs.Lines.{lines, line_count}
use Rattle.rules.specs.Table.{view_table, nought}
use Rattle.rules.specs.Search.{View, whole, viewed, blank, Stored, no_text, scored, Best, no_best, better, best_from, best, bounds}
use Rattle.rules.specs.Scan.{Event, overall, found, Recorded, after, afford, stops, below, each_pass, elimination, steps, views_of, Pair, latest, contained, top_down, events, records}
use Rattle.rules.specs.Beside.{Beside}
use Rattle.rules.specs.Book.{shelved, edition_of}
use Rattle.rules.specs.Refusal.{refusal, step_zero, of_scan}
use Rattle.rules.specs.Jobs.{happened}
use Rattle.rules.proofs.BoolLaws.{cond_of}
use Rattle.rules.proofs.DownLaws.{Each, On, on_both, Inside, Reach, bounds_in, latest_in_lem, settled-of, down_by}
use Rattle.rules.proofs.RankLaws.{entered, best-one}
use Rattle.rules.proofs.BudgetLaws.{records-after, records_begins}
use Rattle.rules.proofs.BesideLaws.{top_down_beside, afford_beside}
use Rattle.rules.proofs.ScanCountLaws.{blank-length}
use Rattle.rules.proofs.RefusalLaws.{lines-count}

each-front : {A : Type 0} (P : A → Type 0) (xs ys : List A) → Each P (xs ++ ys) → Each P xs
each-front P [] ys h = tt
each-front P (x ∷ xs) ys h = (h.0, each-front P xs ys h.1)

-- ---- the best of one or more
module _ (P : Stored → Type 0) where
  best-held : (ss : List Stored) → 0 < length ss → Each P ss → (ls : List (List ℕ)) (v : View) → P (best ss ls v).value.text
  unfolding best best_from better scored no_best no_text
  best-held [] n h ls v = absurd (not-suc-le-zero n)
  best-held (s ∷ ss) n h ls v =
      let t = view_table (viewed ls v) in
      best-one (λ b. P b.text) t v ss (entered t s) h.1 h.0

-- ---- P of every stored text; and R of the bounds of a view of n lines against a text of which P holds
abbrev pub Makes : (Stored → Type 0) → ℕ → (Recorded → Type 0) → Type 0
Makes P n R = (ls : List (List ℕ)) (v : View) (s : Stored) → length ls ≡ n → Inside 0 n v → P s → R (record { text = s; range = (bounds ls v s).value })

module _ (P : Stored → Type 0) (n : ℕ) (R : Recorded → Type 0) (makes : Makes P n R) (lim : Limits) (ss : List Stored) (one : 0 < length ss) (h : Each P ss) where
  abbrev Holds : List Event → Type 0
  Holds es = Each R (records es)

  passes_hold : (p : ℕ) (ls : List (List ℕ)) (b : Best) → length ls ≡ n → P b.text → Holds (each_pass lim ss p ls b)
  unfolding each_pass records whole
  passes_hold zero ls b e k = tt
  passes_hold (suc p) ls b e k =
      let m = bounds ls (whole ls) b.text in
      let r = m.value in
      let rest = blank r.first r.after ls in
      let next = best ss rest (whole rest) in
      let on = each_pass lim ss p rest next.value in
      let more = found (record { text = b.text; range = r }) ∷ after next.list on in
      let again = passes_hold p rest next.value (blank-length r.first r.after ls ∙ e) (best-held P ss one h rest (whole rest)) in
      subst (Each R) (sym (records-after m.list (cond (below lim r) [] more)))
      (cond_of Holds (below lim r) [] more tt
      (makes ls (whole ls) b.text e (omega arith, omega arith, omega (arith, e)) k, subst (Each R) (sym (records-after next.list on)) again))

  module _ (s : ℕ) (step : 0 < s) (ls : List (List ℕ)) (e : length ls ≡ n) where
    abbrev Paired : Option Pair → Type 0
    Paired o = On (λ q. P q.text) o

    latest-held : (o : Option Pair) (vs : List View) → Paired o → Paired (latest lim ss ls o vs).value
    unfolding latest
    latest-held none [] k = k
    latest-held (some q) [] k = k
    latest-held none (v ∷ vs) k =
        let b = (best ss ls v).value in
        let q : Pair = record { view = v; text = b.text } in
        cond_of (λ m. Paired m.value) (lt b.value.score lim.threshold) (latest lim ss ls none vs) (latest lim ss ls (some q) vs)
        (latest-held none vs tt) (latest-held (some q) vs (best-held P ss one h ls v))
    latest-held (some p) (v ∷ vs) k =
        let b = (best ss ls v).value in
        let q : Pair = record { view = v; text = b.text } in
        cond_of (λ m. Paired m.value) (lt b.value.score lim.threshold) (record { list = []; value = some p }) (latest lim ss ls (some q) vs)
        k (latest-held (some q) vs (best-held P ss one h ls v))

    round_hold : (c : ℕ) → On R (contained lim s ss ls c).value
    unfolding contained
    round_hold c =
        let vs = views_of s (length ls) (steps s c (length ls)) in
        let o = (latest lim ss ls none vs).value in
        let inside : Pair → Type 0 = λ q. Inside c (length ls) q.view in
        let held : Pair → Type 0 = λ q. P q.text in
        settled-of lim ls (λ q. inside q × held q) R
        (λ q i k. makes ls q.view q.text e (omega arith, i.0.1, omega (arith, i.0.2, e)) i.1) o
        (on_both inside held o (latest_in_lem lim s ss ls step c) (latest-held none vs tt))

    down_hold : Holds (top_down lim s ss ls)
    unfolding top_down records
    down_hold = down_by lim s ss ls step (λ c es. Holds es) (λ c h. tt) (λ c h. simp records-after tt) goes 0
      where
        goes : (c : ℕ) (r : Recorded) (es : List Event) → c < length ls → (contained lim s ss ls c).value ≡ some r → Holds es →
            Holds (after (contained lim s ss ls c).list (found r ∷ es))
        goes c r es h q more = simp records-after (subst (On R) q (round_hold c), more)

  events_hold : (mode : Mode) → step_zero mode ≡ false → (ls : List (List ℕ)) → length ls ≡ n → Holds (events lim mode ss ls)
  unfolding events elimination records step_zero
  events_hold (Elimination optimize p) z ls e =
      let m = best ss ls (whole ls) in
      let more = each_pass lim ss p ls m.value in
      let on = cond (stops lim m.value || not optimize) [] more in
      subst (Each R) (sym (records-after m.list (overall m.value ∷ on)))
      (cond_of Holds (stops lim m.value || not optimize) [] more tt (passes_hold p ls m.value e (best-held P ss one h ls (whole ls))))
  events_hold (TopDown s) z ls e = down_hold s (omega (arith, eqb-false s 0 z)) ls e

module _ (t : List ℕ) (bs : List (List ℕ)) (lim : Limits) (mode : Mode) (b : ℕ) (a : Areas) (results : ℕ) where
  abbrev result : ℕ
  result = refusal (of_scan t bs lim mode b a results)

  -- what is known of the books and of the mode where anything happens
  abbrev pub Begun : (Stored → Type 0) → Type 0
  Begun P = eqb result 0 || eqb result 12 ≡ true → (0 < length (shelved 0 bs)) × Each P (shelved 0 bs) × (step_zero mode ≡ false)

  pub happened-recorded : (P : Stored → Type 0) (R : Recorded → Type 0) → Makes P (line_count t) R → Begun P →
      Each R (records (happened t bs lim mode b a results))
  unfolding happened records
  happened-recorded P R makes begun = at (eqb result 0 || eqb result 12) begun
    where
      full : List Event
      full = events lim mode (shelved 0 bs) (lines (edition_of bs) t)

      at : (q : Bool) → (q ≡ true → (0 < length (shelved 0 bs)) × Each P (shelved 0 bs) × (step_zero mode ≡ false)) → Each R (records (cond q (afford b full) []))
      at true k =
          let i = k refl in
          let begins = records_begins b full in
          each-front R (records (afford b full)) begins.rest
          (subst (Each R) begins.is (events_hold P (line_count t) R makes lim (shelved 0 bs) i.0 i.1 mode i.2 (lines (edition_of bs) t) (lines-count (edition_of bs) t)))
      at false k = tt

  pub happened-within : Begun (λ s. Unit {0}) → Each (Reach 0 (line_count t)) (records (happened t bs lim mode b a results))
  happened-within begun =
      happened-recorded (λ s. Unit {0}) (Reach 0 (line_count t))
      (λ ls v s e i k. let x = bounds_in ls v s i.1 in (omega arith, x.1, omega (arith, x.2, i.2))) begun

  -- top-down's lie side by side where the threshold is above 0.0
  pub happened_beside : (s : ℕ) → mode ≡ TopDown s → lt nought lim.threshold ≡ true → (eqb result 0 || eqb result 12 ≡ true → step_zero mode ≡ false) →
      Beside 0 (line_count t) (records (happened t bs lim mode b a results))
  unfolding happened records events step_zero Beside
  happened_beside s down above begun = at (eqb result 0 || eqb result 12) begun
    where
      ls : List (List ℕ)
      ls = lines (edition_of bs) t

      ss : List Stored
      ss = shelved 0 bs

      at : (q : Bool) → (q ≡ true → step_zero mode ≡ false) → Beside 0 (line_count t) (records (cond q (afford b (events lim mode ss ls)) []))
      at true k =
          let step : 0 < s = omega (arith, eqb-false s 0 (sym (ap step_zero down) ∙ k refl)) in
          afford_beside b 0 (line_count t) (events lim mode ss ls)
          (rw down (subst (λ (n : ℕ). Beside 0 n (records (top_down lim s ss ls))) (lines-count (edition_of bs) t) (top_down_beside lim above s ss ls step)))
      at false k = tt
