-- What a caller concludes of m and t from `BoundsDone`, the contract of the job `bounds`, alone.
--     bounded_one, bounded_none   the answer's score, m and t are the value of one scoring, of the range handed back; after a refusal 0.0, 0 and 0
--     pair-of-range               the score is `score m a b` of the range's total and the stored text's, and t is a + b
--     pair-told                   it is 2m/t by m and t alone, 2m is at most t, and t below 2^24
-- Assumes nothing.
use mathlib.Core.Path.{◌≡◌, refl, sym, ap, subst, ◌∙◌}
use mathlib.Core.Bool.{Bool, true, false, cond}
use mathlib.Core.List.{List}
use Prim.Native.Nat.{ℕ, ◌+◌}
use native.Mathlib.Omega.{arith}
use lib.Dec.{eqb}
use lib.ListN.{get_or}
use borrow.Author.Tests.{eq-eqb, ne_eqb, eqb-true}
use Rattle.rules.specs.declared.View.{View}
use Rattle.rules.specs.declared.Bounded.{Bounded}
use Rattle.rules.specs.Lines.{lines}
use Rattle.rules.specs.Table.{Table, view_table, score, no_value}
use Rattle.rules.specs.Search.{Stored, no_text, view, viewed, score_view}
use Rattle.rules.specs.Book.{shelved, edition_of}
use Rattle.rules.specs.Refusal.{refusal, of_view}
use Rattle.rules.specs.Jobs.{lent, bounded_as, no_bounds, bounds_found, bounds_job, BoundsDone}
use Rattle.rules.proofs.PairLaws.{PairFacts, bounds-scored, by_totals, pair-either, bounded_value}
use Rattle.refusals.proofs.PassedLaws.{view_passed, passed_pair}

module _ {t : List ℕ} {bs : List (List ℕ)} {v : View} {k : ℕ} {b₀ b w₀ w : List ℕ} {a : Bounded} (d : BoundsDone t bs v k b₀ b w₀ w a) where
  abbrev pub ls : List (List ℕ)
  ls = lines (edition_of bs) t

  abbrev pub text : Stored
  text = get_or (shelved 0 bs) k no_text

  -- the range handed back, and its table
  abbrev pub range : View
  range = view a.first a.after

  abbrev pub table : Table
  table = view_table (viewed ls range)

  abbrev refused : ℕ
  refused = refusal (of_view t bs v k (lent b₀ w₀))

  number : a.refusal ≡ refused
  unfolding bounds_job bounds_found
  number = ap (λ (x : Bounded). x.refusal) d.answer ∙ at (eqb refused 0) refl
    where
      at : (q : Bool) → eqb refused 0 ≡ q → (cond q (bounds_found ls (shelved 0 bs) v k) (bounded_as refused no_bounds 0)).refusal ≡ refused
      at true q = sym (eqb-true refused 0 q)
      at false q = refl

  found : a.refusal ≡ 0 → a ≡ bounds_found ls (shelved 0 bs) v k
  unfolding bounds_job
  found z = d.answer ∙ ap (λ (q : Bool). cond q (bounds_found ls (shelved 0 bs) v k) (bounded_as refused no_bounds 0)) (eq-eqb refused 0 (sym number ∙ z))

  pub bounded_one : a.refusal ≡ 0 → bounded_value a ≡ (score_view ls text range).value
  unfolding bounds_found
  bounded_one z =
      let p = view_passed t bs v k (lent b₀ w₀) (sym number ∙ z) in
      ap bounded_value (found z) ∙ bounds-scored ls v text p.start ∙ ap (λ (x : Bounded). (score_view ls text (view x.first x.after)).value) (sym (found z))

  pub bounded_none : (a.refusal ≡ 0 → ⊥) → bounded_value a ≡ no_value
  unfolding bounds_job
  bounded_none n =
      ap bounded_value d.answer ∙
      ap (λ (q : Bool). bounded_value (cond q (bounds_found ls (shelved 0 bs) v k) (bounded_as refused no_bounds 0))) (ne_eqb refused 0 (λ z. n (number ∙ z)))

  pub pair-of-range : a.refusal ≡ 0 → (a.score ≡ score a.m table.total text.table.total) × (a.t ≡ table.total + text.table.total)
  pair-of-range z = by_totals ls text range (bounded_value a) (bounded_one z)

  pub pair-told : PairFacts (bounded_value a)
  pair-told = pair-either a.refusal (bounded_value a) here bounded_none
    where
      here : a.refusal ≡ 0 → PairFacts (bounded_value a)
      here z =
          let p = view_passed t bs v k (lent b₀ w₀) (sym number ∙ z) in
          subst PairFacts (sym (bounded_one z)) (passed_pair t bs p.both ls (omega arith) range k p.number)
