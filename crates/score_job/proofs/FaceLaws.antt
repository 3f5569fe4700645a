-- What a caller concludes of m and t from `ScoreDone`, the contract of the job `score`, alone.
--     scored-one, scored-none     the answer's score, m and t are the value of this view's one scoring; after a refusal 0.0, 0 and 0
--     pair-of-score               the score is `score m a b` of the two totals, and t is a + b
--     pair-told                   it is 2m/t by m and t alone, 2m is at most t, and t below 2^24
-- Assumes nothing.
use mathlib.Core.Path.{◌≡◌, sym, ap, subst, ◌∙◌}
use mathlib.Core.Bool.{Bool, cond}
use mathlib.Core.List.{List}
use Prim.Native.Nat.{ℕ, ◌+◌}
use native.Mathlib.Omega.{arith}
use lib.Dec.{eqb}
use lib.ListN.{get_or}
use borrow.Author.Tests.{eq-eqb, ne_eqb}
use Rattle.rules.specs.declared.View.{View}
use Rattle.rules.specs.declared.Scored.{Scored}
use Rattle.rules.specs.Lines.{lines}
use Rattle.rules.specs.Table.{Table, view_table, score, no_value}
use Rattle.rules.specs.Search.{Stored, no_text, viewed, score_view}
use Rattle.rules.specs.Book.{shelved, edition_of}
use Rattle.rules.specs.Refusal.{refusal, of_view}
use Rattle.rules.specs.Jobs.{lent, score_job, ScoreDone}
use Rattle.rules.proofs.PairLaws.{PairFacts, by_totals, pair-either, scored_value}
use Rattle.refusals.proofs.PassedLaws.{view_passed, passed_pair}

module _ {t : List ℕ} {bs : List (List ℕ)} {v : View} {k : ℕ} {b₀ b w₀ w : List ℕ} {a : Scored} (d : ScoreDone t bs v k b₀ b w₀ w a) where
  abbrev pub ls : List (List ℕ)
  ls = lines (edition_of bs) t

  abbrev pub text : Stored
  text = get_or (shelved 0 bs) k no_text

  abbrev pub table : Table
  table = view_table (viewed ls v)

  number : a.refusal ≡ refusal (of_view t bs v k (lent b₀ w₀))
  unfolding score_job
  number = ap (λ (x : Scored). x.refusal) d.answer

  told : scored_value a ≡ cond (eqb a.refusal 0) (score_view ls text v).value no_value
  unfolding score_job
  told = ap scored_value d.answer ∙ ap (λ (n : ℕ). cond (eqb n 0) (score_view ls text v).value no_value) (sym number)

  pub scored-one : a.refusal ≡ 0 → scored_value a ≡ (score_view ls text v).value
  scored-one z = told ∙ ap (λ (q : Bool). cond q (score_view ls text v).value no_value) (eq-eqb a.refusal 0 z)

  pub scored-none : (a.refusal ≡ 0 → ⊥) → scored_value a ≡ no_value
  scored-none n = told ∙ ap (λ (q : Bool). cond q (score_view ls text v).value no_value) (ne_eqb a.refusal 0 n)

  pub pair-of-score : a.refusal ≡ 0 → (a.score ≡ score a.m table.total text.table.total) × (a.t ≡ table.total + text.table.total)
  pair-of-score z = by_totals ls text v (scored_value a) (scored-one z)

  pub pair-told : PairFacts (scored_value a)
  pair-told = pair-either a.refusal (scored_value a) here scored-none
    where
      here : a.refusal ≡ 0 → PairFacts (scored_value a)
      here z =
          let p = view_passed t bs v k (lent b₀ w₀) (sym number ∙ z) in
          subst PairFacts (sym (scored-one z)) (passed_pair t bs p.both ls (omega arith) v k p.number)
