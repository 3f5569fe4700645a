-- What a viewer concludes from `ScanDone`, the contract of the job `scan`, alone: of the six numbers of each record in the results.
--     records-placed     the two lines are a range of the note's lines, the two places a range of its bytes that starts where the first line does; an
--                        empty range has that place twice; and of any other the bytes between the places, split at newlines, are the note's
--                        lines from the one up to the other (`places-cut`)
--     records_beside     with a threshold above 0.0 the records of top-down lie side by side, whatever the budget,
--     ranges_beside      and so do the ranges in the results: each has a line, of any two the earlier ends before the later begins, with a line between
--                        them, and with two bytes or more; they are at most (L + 1) / 2
-- Assumes nothing.
use mathlib.Core.Path.{◌≡◌, refl, sym, ap, ◌∙◌, subst}
use mathlib.Core.Bool.{Bool, true, cond}
use mathlib.Core.List.{List, [], ◌∷◌, ◌++◌}
use Prim.Native.Nat.{ℕ, zero, suc, ◌+◌, ◌-◌, ◌*◌, ◌/◌, ◌≤◌, ◌<◌}
use native.Mathlib.Nat.{not-suc-le-zero, le_of_suc-le-suc}
use native.Mathlib.Omega.{arith}
use lib.ListN.{length, get_or, drop}
use lib.Seq.{get_or-drop}
use lib.Ieee.{lt}
use borrow.Author.Tests.{eq-eqb}
use Rattle.rules.specs.declared.Limits.{Limits}
use Rattle.rules.specs.declared.Mode.{Mode}
use Rattle.rules.specs.declared.Mode.TheVariants.{TopDown}
use Rattle.rules.specs.declared.Scanned.{Scanned}
use Rattle.rules.specs.Sizes.{record_width}
use Rattle.rules.specs.Bytes.{split}
use Rattle.rules.specs.Lines.{line_count, line_start, line_end, range_end}
use Rattle.rules.specs.Scan.{Recorded, records, six, numbers}
use Rattle.rules.specs.Beside.{Beside}
use Rattle.rules.specs.Table.{nought}
use Rattle.rules.specs.declared.Bounds.{Bounds}
use Rattle.rules.specs.Search.{no_text}
use Rattle.rules.specs.Book.{shelved}
use Rattle.rules.specs.Jobs.{lent, over, no_bounds, happened, answered, scan, results_after, ScanDone}
use Rattle.rules.proofs.DownLaws.{Reach, each_at, each_of}
use Rattle.rules.proofs.PlaceLaws.{between, range-order, range-most, ranges_apart, places-cut}
use Rattle.rules.proofs.BesideLaws.{beside_count, beside_lines, beside_apart}
use Rattle.rules.proofs.RecordLaws.{happened-within, happened_beside}
use Rattle.refusals.proofs.PassedLaws.{scan_begun}

-- a range of lines, and where it stands in the text
pub record Placed (t : List ℕ) (first after start end : ℕ) : Type 0 where
  pub lines : (first ≤ after) × (after ≤ line_count t)
  pub starts : start ≡ line_start first t
  pub bytes : (start ≤ end) × (end ≤ length t)
  pub empty : first ≡ after → start ≡ end
  pub cut : first < after → split 10 (between start end t) ≡ between first after (split 10 t)

range-placed : (t : List ℕ) (first after : ℕ) → (first ≤ after) × (after ≤ line_count t) → Placed t first after (line_start first t) (range_end first after t)
unfolding range_end
range-placed t first after h = record {
  lines = h;
  starts = refl;
  bytes = (range-order first after t h.0, range-most first after t h.0);
  empty = λ e. sym (ap (λ (q : Bool). cond q (line_start first t) (line_end (after - 1) t)) (eq-eqb first after e));
  cut = λ l. places-cut first after t l h.1;
}

-- ---- the numbers of record k
-- in the results r number j of it: 0 its text's, 1 and 2 its lines, 3 its score's bits, 4 and 5 its bytes
abbrev pub number_at : List ℕ → ℕ → ℕ → ℕ
number_at r k j = get_or r (record_width * k + j) 0

no_record : Recorded
no_record = record { text = no_text; range = no_bounds }

module _ (t rest : List ℕ) where
  numbers-at : (rs : List Recorded) (k : ℕ) → k < length rs →
      let x = get_or rs k no_record in
      drop (record_width * k) (numbers t rs ++ rest) ≡ six t x.text.number x.range ++ drop (record_width * k + record_width) (numbers t rs ++ rest)
  unfolding numbers six
  numbers-at [] k h = absurd (not-suc-le-zero h)
  numbers-at (r ∷ rs) zero h = refl
  numbers-at (r ∷ rs) (suc k) h =
      let e : record_width * suc k ≡ suc (suc (suc (suc (suc (suc (record_width * k)))))) = omega arith in
      let f : record_width * suc k + record_width ≡ suc (suc (suc (suc (suc (suc (record_width * k + record_width)))))) = omega arith in
      rw (f, e) (numbers-at rs k (le_of_suc-le-suc h))

module _ {t : List ℕ} {bs : List (List ℕ)} {lim : Limits} {mode : Mode} {budget : ℕ} {b₀ b w₀ w r₀ r : List ℕ} {a : Scanned}
    (d : ScanDone t bs lim mode budget b₀ b w₀ w r₀ r a) where
  abbrev pub made : List Recorded
  made = records (happened t bs lim mode budget (lent b₀ w₀) (length r₀))

  many : a.records ≡ length made
  unfolding scan answered
  many = ap (λ (x : Scanned). x.records) d.answer

  within : (k : ℕ) → k < length made → Reach 0 (line_count t) (get_or made k no_record)
  within k h =
      each_at (Reach 0 (line_count t)) made k no_record h
      (happened-within t bs lim mode budget (lent b₀ w₀) (length r₀)
      (λ e. let o = scan_begun t bs lim mode (lent b₀ w₀) (length r₀) budget e in (o.0.some, each_of (λ s. Unit {0}) (shelved 0 bs) no_text (λ j l. tt), o.1)))

  module _ (k : ℕ) (h : k < a.records) where
    abbrev it : Recorded
    it = get_or made k no_record

    abbrev at : ℕ → ℕ
    at j = number_at r k j

    at-is : (j : ℕ) → at j ≡ get_or (six t it.text.number it.range ++ drop (record_width * k + record_width) r) j 0
    unfolding results_after over
    at-is j =
        let n = numbers t made in
        let e : r ≡ n ++ drop (length n) r₀ = d.results in
        let there : k < length made = omega (arith, h, many) in
        let here = subst (λ (l : List ℕ). drop (record_width * k) l ≡ six t it.text.number it.range ++ drop (record_width * k + record_width) l) (sym e)
        (numbers-at t (drop (length n) r₀) made k there) in
        sym (get_or-drop (record_width * k) r j 0) ∙ ap (λ (l : List ℕ). get_or l j 0) here

    numbers_are : (at 1 ≡ it.range.first) × (at 2 ≡ it.range.after) × (at 4 ≡ line_start it.range.first t) × (at 5 ≡ range_end it.range.first it.range.after t)
    unfolding six
    numbers_are = (at-is 1, at-is 2, at-is 4, at-is 5)

    pub records-placed : Placed t (at 1) (at 2) (at 4) (at 5)
    records-placed =
        let reach = within k (omega (arith, h, many)) in
        let e = numbers_are in
        rw (e.0, e.1, e.2, e.3) (range-placed t it.range.first it.range.after (reach.1, reach.2))

-- ---- ranges in the results that lie side by side, by their lines and so by their bytes
pub record SideBySide (t r : List ℕ) (records : ℕ) : Type 0 where
  pub few : records ≤ (line_count t + 1) / 2
  pub lines : (k : ℕ) → k < records → (number_at r k 1 < number_at r k 2) × (number_at r k 2 ≤ line_count t)
  pub apart : (j k : ℕ) → j < k → k < records → number_at r j 2 < number_at r k 1
  pub bytes : (j k : ℕ) → j < k → k < records → number_at r j 5 + 2 ≤ number_at r k 4

module _ {t : List ℕ} {bs : List (List ℕ)} {lim : Limits} {s budget : ℕ} {b₀ b w₀ w r₀ r : List ℕ} {a : Scanned}
    (d : ScanDone t bs lim (TopDown s) budget b₀ b w₀ w r₀ r a) (above : lt nought lim.threshold ≡ true) where
  pub records_beside : Beside 0 (line_count t) (made d)
  records_beside =
      happened_beside t bs lim (TopDown s) budget (lent b₀ w₀) (length r₀) s refl above
      (λ e. (scan_begun t bs lim (TopDown s) (lent b₀ w₀) (length r₀) budget e).1)

  abbrev range : ℕ → Bounds
  range k = (get_or (made d) k no_record).range

  has_line : (k : ℕ) → k < a.records → ((range k).first < (range k).after) × ((range k).after ≤ line_count t)
  has_line k h = let x = beside_lines 0 (line_count t) (made d) k no_record (omega (arith, h, many d)) records_beside in (x.1, x.2)

  ends-before : (j k : ℕ) → j < k → k < a.records → (range j).after < (range k).first
  ends-before j k l h = beside_apart 0 (line_count t) (made d) j k no_record l (omega (arith, h, many d)) records_beside

  bytes-before : (j k : ℕ) → j < k → k < a.records → range_end (range j).first (range j).after t + 2 ≤ line_start (range k).first t
  bytes-before j k l h =
      let x = has_line k h in
      ranges_apart (range j).first (range j).after (range k).first t (has_line j (omega (arith, l, h))).0 (ends-before j k l h) (omega (arith, x.0, x.1))

  pub ranges_beside : SideBySide t r a.records
  ranges_beside = record {
    few = omega (arith, many d, beside_count 0 (line_count t) (made d) records_beside);
    lines = λ k h. let e = numbers_are d k h in let x = has_line k h in (omega (arith, e.0, e.1, x.0), omega (arith, e.1, x.1));
    apart = λ j k l h. omega (arith, (numbers_are d j (omega (arith, l, h))).1, (numbers_are d k h).0, ends-before j k l h);
    bytes = λ j k l h. omega (arith, (numbers_are d j (omega (arith, l, h))).3, (numbers_are d k h).2, bytes-before j k l h);
  }
