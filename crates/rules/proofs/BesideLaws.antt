-- With a threshold above 0.0 top-down's ranges have lines, rise, and leave at least one line between one and the next (`top_down_beside`), whatever the
-- budget (`afford_beside`); so there are at most (L + 1) / 2 of them (`beside_count`, `top_down-few`). For bounds score what their range scores, and a
-- view without a line scores 0.0 (`empty_scores`), which is below. Of any two, wherever they stand: `beside_lines`, `beside_apart`.
-- Assumes nothing.
use mathlib.Core.Path.{◌≡◌, refl, sym, ap, ◌∙◌, subst}
use mathlib.Core.Logic.{inl, inr}
use Prim.Native.Nat.{ℕ, zero, suc, ◌+◌, ◌-◌, ◌*◌, ◌/◌, ◌≤◌, ◌<◌}
use native.Mathlib.Nat.{not-suc-le-zero, le_of_suc-le-suc, eq-or-lt_of_le}
use native.Mathlib.Omega.{arith}
use mathlib.Core.Bool.{true, false, true≢false}
use mathlib.Core.List.{List, [], ◌∷◌, ◌++◌}
use mathlib.Core.Option.{some}
use lib.ListN.{length, get_or, take, drop}
use lib.Ieee.{lt}
use Rattle.rules.specs.declared.Limits.{Limits}
use Rattle.rules.specs.Table.{Value, nought}
use Rattle.rules.specs.Search.{View, view, viewed, Stored, scored, score_view, bounds}
use Rattle.rules.specs.Scan.{Event, found, Recorded, after, below, contained, top_down, afford, records}
use Rattle.rules.specs.Beside.{Beside}
use Rattle.rules.proofs.Opened.{opened}
use Rattle.rules.proofs.DownLaws.{bounds_in, contained_in_lem, contained-of, down_by}
use Rattle.rules.proofs.PairLaws.{bounds-scored}
use Rattle.rules.proofs.BudgetLaws.{records-after, records_begins}

-- ---- a view without a line scores 0.0
none-taken : (n : ℕ) (ls : List (List ℕ)) → n ≡ 0 → take n ls ≡ []
none-taken n ls e = rw e refl

pub empty_scores : (ls : List (List ℕ)) (s : Stored) (a : ℕ) → (score_view ls s (view a a)).value.score ≡ nought
unfolding score_view scored viewed opened
empty_scores ls s a = rw (none-taken (a - a) (drop a ls) (omega arith)) refl

-- ---- so what is recorded has a line
module _ (lim : Limits) (above : lt nought lim.threshold ≡ true) where
  abbrev HasLine : Recorded → Type 0
  HasLine r = r.range.first < r.range.after

  bounds-line : (ls : List (List ℕ)) (v : View) (s : Stored) → v.start ≤ v.end → below lim (bounds ls v s).value ≡ false →
      HasLine (record { text = s; range = (bounds ls v s).value })
  unfolding below
  bounds-line ls v s h q =
      let b = (bounds ls v s).value in
      elim (eq-or-lt_of_le (bounds_in ls v s h).1) [
        | inl e ↦
            let scores : b.value.score ≡ nought =
            ap (λ (x : Value). x.score) (bounds-scored ls v s h) ∙
            ap (λ (n : ℕ). (score_view ls s (view b.first n)).value.score) (sym e) ∙ empty_scores ls s b.first in
            absurd (true≢false (sym above ∙ ap (λ f. lt f lim.threshold) (sym scores) ∙ q))
        | inr l ↦ l
      ]

  module _ (s : ℕ) (ss : List Stored) (ls : List (List ℕ)) (p : 0 < s) where
    pub top_down_beside : Beside 0 (length ls) (records (top_down lim s ss ls))
    unfolding top_down records Beside
    top_down_beside = down_by lim s ss ls p (λ c es. Beside c (length ls) (records es)) (λ c h. tt) (λ c h. simp records-after tt) goes 0
      where
        goes : (c : ℕ) (r : Recorded) (es : List Event) → c < length ls → (contained lim s ss ls c).value ≡ some r → Beside (r.range.after + 1) (length ls) (records es) →
            Beside c (length ls) (records (after (contained lim s ss ls c).list (found r ∷ es)))
        goes c r es h e more =
            let reach = contained_in_lem lim s ss ls p c r e in
            let line = contained-of lim s ss ls p c HasLine (λ q i k. bounds-line ls q.view q.text i.1 k) r e in
            simp records-after (reach.0, line, reach.2, more)

-- ---- how many
pub beside_count : (c n : ℕ) (rs : List Recorded) → Beside c n rs → 2 * length rs ≤ n + 1 - c
unfolding Beside
beside_count c n [] h = omega arith
beside_count c n (r ∷ rs) h = omega (arith, h.0, h.1, h.2, beside_count (r.range.after + 1) n rs h.3)

pub top_down-few : (lim : Limits) → lt nought lim.threshold ≡ true → (s : ℕ) (ss : List Stored) (ls : List (List ℕ)) → 0 < s →
    length (records (top_down lim s ss ls)) ≤ (length ls + 1) / 2
top_down-few lim above s ss ls p = omega (arith, beside_count 0 (length ls) (records (top_down lim s ss ls)) (top_down_beside lim above s ss ls p))

-- ---- the first of them
front_beside : (c n : ℕ) (xs ys : List Recorded) → Beside c n (xs ++ ys) → Beside c n xs
unfolding Beside
front_beside c n [] ys h = tt
front_beside c n (x ∷ xs) ys h = (h.0, h.1, h.2, front_beside (x.range.after + 1) n xs ys h.3)

pub afford_beside : (b c n : ℕ) (es : List Event) → Beside c n (records es) → Beside c n (records (afford b es))
afford_beside b c n es h =
    let g = records_begins b es in
    front_beside c n (records (afford b es)) g.rest (subst (Beside c n) g.is h)

-- ---- any of them, and any two
pub beside_lines : (c n : ℕ) (rs : List Recorded) (k : ℕ) (d : Recorded) → k < length rs → Beside c n rs →
    let r = (get_or rs k d).range in (c ≤ r.first) × (r.first < r.after) × (r.after ≤ n)
unfolding Beside
beside_lines c n [] k d l h = absurd (not-suc-le-zero l)
beside_lines c n (r ∷ rs) zero d l h = (h.0, h.1, h.2)
beside_lines c n (r ∷ rs) (suc k) d l h =
    let x = beside_lines (r.range.after + 1) n rs k d (le_of_suc-le-suc l) h.3 in
    (omega (arith, h.0, h.1, x.0), x.1, x.2)

pub beside_apart : (c n : ℕ) (rs : List Recorded) (j k : ℕ) (d : Recorded) → j < k → k < length rs → Beside c n rs →
    (get_or rs j d).range.after < (get_or rs k d).range.first
unfolding Beside
beside_apart c n [] j k d l m h = absurd (not-suc-le-zero m)
beside_apart c n (r ∷ rs) j zero d l m h = absurd (not-suc-le-zero l)
beside_apart c n (r ∷ rs) zero (suc k) d l m h =
    let x = beside_lines (r.range.after + 1) n rs k d (le_of_suc-le-suc m) h.3 in
    omega (arith, x.0)
beside_apart c n (r ∷ rs) (suc j) (suc k) d l m h = beside_apart (r.range.after + 1) n rs j k d (le_of_suc-le-suc l) (le_of_suc-le-suc m) h.3
