-- Demand 3 at the face: what a caller concludes from `ScanDone`, the contract of the job `scan`, alone.
--     answer-all                        where 0 is answered, the answer is the full scan's,
--     count-all, results-all            so the count is the length of its list of scorings, and the results are its records
--     count-exact                       the count is the number of scorings that the budget pays of the definition's list
--     elimination-most, top_down-most    the two limits on the count, whatever is refused
--     count_fits                        the count is below 2^64, of one or two books and passes of 16 bits, whatever the budget
--     all_paid, only_paid               0 comes exactly where nothing is refused before any work and the budget pays the list
--     over_budget_lem, only_over            12 comes exactly where nothing is refused before any work and the list is longer than the budget
--     over-counts                       the count is then the budget
--     recorded-stays, recorded-first    the records that it has written are the first of the full scan's
--     t_below                           t of every scoring that a scan may make is below 2^24, so exact
--     overall-value, overall-pair       the answer's score, m and t are the overall best's value; the score is 2m/t, 2m at most t, t below 2^24
--     overall-scored, pair-of-overall   of elimination one scoring's, of the best text, once every stored text is scored: `score m a b`, t is a + b,
--     overall-short                     and before that 0.0, 0 and 0
--     overall-first                     no stored text scores higher than it, and none of an equal score has a smaller kind than the answer's
--     overall_down, overall-refused     of top-down, and of what is refused before any work, 0.0, 0 and 0
--     part_lies, part-named, part_length   the name's part lies in the book that it names, its bytes are the name, and as many
--     part_handed                       `name_part` of the answer hands back the part that the definition gives
-- Assumes nothing.
use mathlib.Core.Path.{◌≡◌, refl, sym, ap, ◌∙◌, subst}
use mathlib.Core.Bool.{Bool, true, false, cond}
use mathlib.Core.List.{List}
use Prim.Native.Nat.{ℕ, ◌+◌, ◌-◌, ◌*◌, ◌^◌, ◌≤◌, ◌<◌, min}
use native.Mathlib.Omega.{arith}
use lib.Dec.{eqb}
use lib.ListN.{length, get_or, take}
use lib.Ieee.{lt}
use borrow.Author.Tests.{eqb-true, eqb-false}
use Rattle.rules.specs.declared.Limits.{Limits}
use Rattle.rules.specs.declared.Mode.{Mode}
use Rattle.rules.specs.declared.Mode.TheVariants.{Elimination, TopDown}
use Rattle.rules.specs.declared.Scanned.{Scanned}
use Rattle.rules.specs.Sizes.{lines_most, stored_most}
use Rattle.rules.specs.Lines.{lines, line_count, size}
use Rattle.rules.specs.declared.View.{View}
use Rattle.rules.specs.declared.Value.{Value}
use Rattle.rules.specs.Table.{view_table, score, no_value}
use Rattle.rules.specs.Search.{no_text, whole, viewed, scored, score_view, Best, no_best, best}
use Rattle.rules.specs.Scan.{Event, events, afford, Begins, scorings, records, verdict, numbers, names}
use Rattle.rules.specs.Book.{shelved, edition_of, name_parts, part_in, Lies, ReadAs}
use Rattle.rules.specs.Count.{most_elimination, most_top_down}
use Rattle.rules.specs.Refusal.{refusal, step_zero, before_scan, of_scan}
use Rattle.rules.specs.Jobs.{lent, over, happened, named, answered, scan, results_after, ScanDone}
use Rattle.rules.proofs.DownLaws.{each_of}
use Rattle.rules.proofs.ShelfLaws.{shelved-most}
use Rattle.rules.proofs.PairLaws.{PairFacts, no-pair, best-scored, by_totals, pair-either, scanned_value}
use Rattle.rules.proofs.VerdictLaws.{happened-one, overall-paid, overall_unpaid, down_unpaid}
use Rattle.rules.proofs.NameLaws.{answer-lies, answer-named, answer-length}
use Rattle.rules.proofs.BudgetLaws.{afford-all, records_begins}
use Rattle.rules.proofs.RefusalLaws.{lines-count, scan-over, scan-paid, scan_only, scan_zero, scan-count, scan-within, scan-happened, scan_nothing}
use Rattle.rules.proofs.ScanCountLaws.{elimination-count, top_down-count, elimination_fits, top_down_fits}
use Rattle.detection_part.specs.Parts.{fitting}
use Rattle.detection_part.proofs.PartLaws.{part_fits}
use Rattle.refusals.proofs.PassedLaws.{BothPassed, scan_passed, passed_pair, passed_first}
use Rattle.scan_job.proofs.ModeLaws.{step_above}

module _ {t : List ℕ} {bs : List (List ℕ)} {lim : Limits} {mode : Mode} {budget : ℕ} {b₀ b w₀ w r₀ r : List ℕ} {a : Scanned}
    (d : ScanDone t bs lim mode budget b₀ b w₀ w r₀ r a) where
  abbrev pub full : List Event
  full = events lim mode (shelved 0 bs) (lines (edition_of bs) t)

  -- what is refused before any work
  abbrev pub before : ℕ
  before = refusal (before_scan t bs lim mode (lent b₀ w₀) (length r₀))

  number : a.refusal ≡ refusal (of_scan t bs lim mode budget (lent b₀ w₀) (length r₀))
  unfolding scan answered
  number = ap (λ (x : Scanned). x.refusal) d.answer

  pub count-exact : before ≡ 0 → a.count ≡ min budget (length (scorings full))
  count-exact z = ap (λ (x : Scanned). x.count) d.answer ∙ scan-count t bs lim mode (lent b₀ w₀) (length r₀) budget z

  pub over_budget_lem : before ≡ 0 → budget < length (scorings full) → a.refusal ≡ 12
  over_budget_lem z l = number ∙ scan-over t bs lim mode (lent b₀ w₀) (length r₀) budget z l

  pub only_over : a.refusal ≡ 12 → (before ≡ 0) × (budget < length (scorings full))
  only_over e = scan_only t bs lim mode (lent b₀ w₀) (length r₀) budget (sym number ∙ e)

  pub over-counts : a.refusal ≡ 12 → a.count ≡ budget
  over-counts e =
      let o = only_over e in
      omega (arith, count-exact o.0, o.1)

  pub recorded-stays : before ≡ 0 → r ≡ over (numbers t (records (afford budget full))) r₀
  unfolding results_after
  recorded-stays z =
      d.results ∙ ap (λ (es : List Event). over (numbers t (records es)) r₀) (scan-happened t bs lim mode (lent b₀ w₀) (length r₀) budget z)

  pub recorded-first : Begins (records (afford budget full)) (records full)
  recorded-first = records_begins budget full

  -- ---- where 0 is answered
  pub all_paid : before ≡ 0 → length (scorings full) ≤ budget → a.refusal ≡ 0
  all_paid z l = number ∙ scan-paid t bs lim mode (lent b₀ w₀) (length r₀) budget z l

  pub only_paid : a.refusal ≡ 0 → (before ≡ 0) × (length (scorings full) ≤ budget)
  only_paid e = scan_zero t bs lim mode (lent b₀ w₀) (length r₀) budget (sym number ∙ e)

  pub answer-all : a.refusal ≡ 0 → a ≡ answered 0 lim (name_parts false bs) full
  unfolding scan
  answer-all e =
      let o = only_paid e in
      let n = sym number ∙ e in
      let es = scan-happened t bs lim mode (lent b₀ w₀) (length r₀) budget o.0 ∙ afford-all budget full o.1 in
      d.answer ∙ (λ i. answered (n i) lim (name_parts false bs) (es i))

  pub count-all : a.refusal ≡ 0 → a.count ≡ length (scorings full)
  unfolding answered
  count-all e = ap (λ (x : Scanned). x.count) (answer-all e)

  pub results-all : a.refusal ≡ 0 → r ≡ over (numbers t (records full)) r₀
  results-all e =
      let o = only_paid e in
      recorded-stays o.0 ∙ ap (λ (es : List Event). over (numbers t (records es)) r₀) (afford-all budget full o.1)

  -- ---- what is not refused before any work
  passed : before ≡ 0 → BothPassed t bs × (step_zero mode ≡ false)
  passed z = scan_passed t bs lim mode (lent b₀ w₀) (length r₀) z

  -- a limit on the list of what is not refused
  counted-within : (m : ℕ) → (before ≡ 0 → length (scorings full) ≤ m) → a.count ≤ m
  counted-within m h =
      omega (arith, ap (λ (x : Scanned). x.count) d.answer, scan-within t bs lim mode (lent b₀ w₀) (length r₀) budget m h)

  few-texts : before ≡ 0 → length bs ≤ 2 → length (shelved 0 bs) ≤ 2 * stored_most
  few-texts z l = omega (arith, shelved-most 0 bs (passed z).0.sound, l)

  few-lines : before ≡ 0 → length (lines (edition_of bs) t) ≤ lines_most
  few-lines z = omega (arith, lines-count (edition_of bs) t, (passed z).0.few)

  -- of any view, over the note's lines or what blanking leaves of them, against any stored text
  pub t_below : before ≡ 0 → (ls : List (List ℕ)) → size ls ≤ size (lines (edition_of bs) t) → (v : View) (k : ℕ) → k < length (shelved 0 bs) →
      (score_view ls (get_or (shelved 0 bs) k no_text) v).value.t < 2 ^ 24
  t_below z ls l v k h = (passed_pair t bs (passed z).0 ls l v k h).below

  -- ---- the overall score with its m and t
  pub overall-value : scanned_value a ≡ (verdict (happened t bs lim mode budget (lent b₀ w₀) (length r₀))).value
  unfolding scan answered
  overall-value = ap scanned_value d.answer

  -- nothing is scored of what is refused before any work
  pub overall-refused : (before ≡ 0 → ⊥) → scanned_value a ≡ no_value
  unfolding verdict no_best
  overall-refused n = overall-value ∙ ap (λ (es : List Event). (verdict es).value) (scan_nothing t bs lim mode (lent b₀ w₀) (length r₀) budget n)

  -- what a budget leaves
  overall-left : before ≡ 0 → scanned_value a ≡ (verdict (afford budget full)).value
  overall-left z = overall-value ∙ ap (λ (es : List Event). (verdict es).value) (scan-happened t bs lim mode (lent b₀ w₀) (length r₀) budget z)

  -- it is the overall best's kind or, where that is not named, 0
  kind-most : before ≡ 0 → a.kind ≤ (verdict (afford budget full)).text.kind
  unfolding scan answered named no_text
  kind-most z =
      let x = verdict (afford budget full) in
      let e = ap (λ (y : Scanned). y.kind) d.answer ∙
      ap (λ (es : List Event). (named lim (verdict es)).kind) (scan-happened t bs lim mode (lent b₀ w₀) (length r₀) budget z) in
      subst (λ (n : ℕ). n ≤ x.text.kind) (sym e) (at (names lim x))
    where
      at : (q : Bool) → (cond q (verdict (afford budget full)).text no_text).kind ≤ (verdict (afford budget full)).text.kind
      at true = omega arith
      at false = omega arith

  overall-none : verdict (afford budget full) ≡ no_best → scanned_value a ≡ no_value
  unfolding no_best
  overall-none n = at (eqb before 0) refl
    where
      at : (q : Bool) → eqb before 0 ≡ q → scanned_value a ≡ no_value
      at true q = overall-left (eqb-true before 0 q) ∙ ap (λ (x : Best). x.value) n
      at false q = overall-refused (eqb-false before 0 q)

  pub overall-pair : PairFacts (scanned_value a)
  unfolding no_best
  overall-pair = pair-either before (scanned_value a) here overall-refused
    where
      ls : List (List ℕ)
      ls = lines (edition_of bs) t

      here : before ≡ 0 → PairFacts (scanned_value a)
      here z =
          subst PairFacts (sym overall-value)
          (happened-one (λ b. PairFacts b.value) no-pair t bs lim mode budget (lent b₀ w₀) (length r₀)
          (each_of (λ s. PairFacts (score_view ls s (whole ls)).value) (shelved 0 bs) no_text (λ k h. passed_pair t bs (passed z).0 ls (omega arith) (whole ls) k h)))

-- ---- whose they are: elimination's best text's, named or not, once every stored text is scored; none before, and none of top-down
module _ {t : List ℕ} {bs : List (List ℕ)} {lim : Limits} {budget : ℕ} {b₀ b w₀ w r₀ r : List ℕ} {a : Scanned} where
  pub overall-scored : (optimize : Bool) (p : ℕ) (d : ScanDone t bs lim (Elimination optimize p) budget b₀ b w₀ w r₀ r a) → before d ≡ 0 → length (shelved 0 bs) ≤ budget →
      let ls = lines (edition_of bs) t in
      scanned_value a ≡ (score_view ls (best (shelved 0 bs) ls (whole ls)).value.text (whole ls)).value
  unfolding events
  overall-scored optimize p d z h =
      let ls = lines (edition_of bs) t in
      overall-left d z ∙ ap (λ (x : Best). x.value) (overall-paid lim optimize p (shelved 0 bs) ls budget h) ∙ best-scored (shelved 0 bs) ls (whole ls) (passed d z).0.some

  pub pair-of-overall : (optimize : Bool) (p : ℕ) (d : ScanDone t bs lim (Elimination optimize p) budget b₀ b w₀ w r₀ r a) → before d ≡ 0 → length (shelved 0 bs) ≤ budget →
      let ls = lines (edition_of bs) t in
      let total = (view_table (viewed ls (whole ls))).total in
      let stored = (best (shelved 0 bs) ls (whole ls)).value.text.table.total in
      (a.score ≡ score a.m total stored) × (a.t ≡ total + stored)
  pair-of-overall optimize p d z h =
      let ls = lines (edition_of bs) t in
      by_totals ls (best (shelved 0 bs) ls (whole ls)).value.text (whole ls) (scanned_value a) (overall-scored optimize p d z h)

  -- the kind is 0 where no text is named
  pub overall-first : (optimize : Bool) (p : ℕ) (d : ScanDone t bs lim (Elimination optimize p) budget b₀ b w₀ w r₀ r a) → before d ≡ 0 → length (shelved 0 bs) ≤ budget →
      (k : ℕ) → k < length (shelved 0 bs) →
      let ls = lines (edition_of bs) t in
      let s = get_or (shelved 0 bs) k no_text in
      let x = (score_view ls s (whole ls)).value.score in
      (lt a.score x ≡ false) × (lt x a.score ≡ false → a.kind ≤ s.kind)
  unfolding events score_view scored
  overall-first optimize p d z h k l =
      let ls = lines (edition_of bs) t in
      let f = passed_first t bs (passed d z).0 ls (omega arith) (whole ls) in
      let paid = overall-paid lim optimize p (shelved 0 bs) ls budget h in
      let e = ap (λ (x : Value). x.score) (overall-left d z ∙ ap (λ (x : Best). x.value) paid) in
      (rw e (f.no-higher k l), λ q. omega (arith, kind-most d z, ap (λ (x : Best). x.text.kind) paid, f.no-smaller-kind k l (rw e at q)))

  pub overall-short : (optimize : Bool) (p : ℕ) (d : ScanDone t bs lim (Elimination optimize p) budget b₀ b w₀ w r₀ r a) → budget < length (shelved 0 bs) → scanned_value a ≡ no_value
  unfolding events
  overall-short optimize p d h = overall-none d (overall_unpaid lim optimize p (shelved 0 bs) (lines (edition_of bs) t) budget h)

  pub overall_down : (s : ℕ) (d : ScanDone t bs lim (TopDown s) budget b₀ b w₀ w r₀ r a) → scanned_value a ≡ no_value
  unfolding events
  overall_down s d = overall-none d (down_unpaid lim s (shelved 0 bs) (lines (edition_of bs) t) budget)

-- ---- the two limits
module _ {t : List ℕ} {bs : List (List ℕ)} {lim : Limits} {budget : ℕ} {b₀ b w₀ w r₀ r : List ℕ} {a : Scanned} where
  pub elimination-most : (optimize : Bool) (p : ℕ) (d : ScanDone t bs lim (Elimination optimize p) budget b₀ b w₀ w r₀ r a) →
      a.count ≤ most_elimination (length (shelved 0 bs)) p (line_count t)
  unfolding events
  elimination-most optimize p d =
      counted-within d (most_elimination (length (shelved 0 bs)) p (line_count t))
      (λ z. omega (arith, elimination-count lim optimize p (shelved 0 bs) (lines (edition_of bs) t), ap (most_elimination (length (shelved 0 bs)) p) (lines-count (edition_of bs) t)))

  pub top_down-most : (s : ℕ) (d : ScanDone t bs lim (TopDown s) budget b₀ b w₀ w r₀ r a) → a.count ≤ most_top_down (length (shelved 0 bs)) s (line_count t)
  unfolding events
  top_down-most s d =
      counted-within d (most_top_down (length (shelved 0 bs)) s (line_count t))
      (λ z. omega (arith, top_down-count lim s (shelved 0 bs) (lines (edition_of bs) t) (step_above (TopDown s) s refl (passed d z).1), ap (most_top_down (length (shelved 0 bs)) s) (lines-count (edition_of bs) t)))

  -- below 2^64 whatever the budget, for the lent books are one or two and the passes a u16
  pub count_fits : (mode : Mode) (d : ScanDone t bs lim mode budget b₀ b w₀ w r₀ r a) → length bs ≤ 2 →
      ((optimize : Bool) (p : ℕ) → mode ≡ Elimination optimize p → p < 65_536) → a.count < 2 ^ 64
  unfolding events
  count_fits (Elimination optimize p) d l k =
      let h : before d ≡ 0 → length (scorings (full d)) ≤ 2 ^ 64 - 1 = λ z. omega (
        arith,
        elimination-count lim optimize p (shelved 0 bs) (lines (edition_of bs) t),
        elimination_fits (length (shelved 0 bs)) p (length (lines (edition_of bs) t)) (few-texts d z l) (k optimize p refl) (few-lines d z),
      ) in
      omega (arith, counted-within d (2 ^ 64 - 1) h)
  count_fits (TopDown s) d l k =
      let h : before d ≡ 0 → length (scorings (full d)) ≤ 2 ^ 64 - 1 = λ z. omega (
        arith,
        top_down-count lim s (shelved 0 bs) (lines (edition_of bs) t) (step_above (TopDown s) s refl (passed d z).1),
        top_down_fits (length (shelved 0 bs)) s (length (lines (edition_of bs) t)) (few-texts d z l) (few-lines d z),
      ) in
      omega (arith, counted-within d (2 ^ 64 - 1) h)

-- ---- the name as a part of a lent book: of `first`, or of `second`, which has no bytes where one book is lent (`read_one`, `read_two`)
module _ {t first second : List ℕ} {bs : List (List ℕ)} {lim : Limits} {mode : Mode} {budget : ℕ} {b₀ b w₀ w r₀ r : List ℕ} {a : Scanned}
    (read : ReadAs first second bs) (d : ScanDone t bs lim mode budget b₀ b w₀ w r₀ r a) where
  pub part_lies : Lies first second a.part
  part_lies =
      subst (λ (x : Scanned). Lies first second x.part) (sym d.answer) (answer-lies first second t bs read lim mode budget (lent b₀ w₀) (length r₀))

  pub part-named : part_in first second a.part ≡ take a.len a.name
  part-named =
      subst (λ (x : Scanned). part_in first second x.part ≡ take x.len x.name) (sym d.answer)
      (answer-named first second t bs read lim mode budget (lent b₀ w₀) (length r₀))

  pub part_length : a.part.len ≡ a.len
  part_length =
      subst (λ (x : Scanned). x.part.len ≡ x.len) (sym d.answer) (answer-length first second t bs read lim mode budget (lent b₀ w₀) (length r₀))

  -- so what `name_part` hands back, bytes and place, is the definition's part
  pub part_handed : fitting first second a.part ≡ (scan t bs lim mode budget (lent b₀ w₀) (length r₀)).part
  part_handed = part_fits first second a.part part_lies ∙ ap (λ (x : Scanned). x.part) d.answer
