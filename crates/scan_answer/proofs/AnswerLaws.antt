-- The answer of the job `scan`: what the code makes of how the scan ended is what the definition says.
--     held-named, held-fits             of a text that is named, and of none
--     found-is                          what is found is the answer to how the scan ended
--     answer_fits                       the numbers fit the answer
--     refused-is                        of a refusal before any work
--     answer-is, results_are            where nothing is refused before any work
--     scan-refused, scan-done           the two ends of the job
-- Assumes nothing.
use mathlib.Core.Path.{◌≡◌, refl, sym, ap, ap₂, ◌∙◌}
use mathlib.Core.Bool.{Bool, true, false, not, cond}
use mathlib.Core.List.{List, [], ◌++◌}
use mathlib.Core.Option.{none, some}
use Prim.Native.Nat.{ℕ, ◌-◌, ◌≤◌}
use native.Mathlib.Omega.{arith}
use lib.Dec.{leb, ltb}
use lib.Ieee.{lt}
use lib.ListN.{length, drop, replicate, length-drop}
use lib.Seq.{length-take-le}
use borrow.Author.Tests.{leb-true, leb-false, lt-ltb, le-ltb, ne_eqb}
use Rattle.rules.specs.declared.Areas.{Areas}
use Rattle.rules.specs.declared.Limits.{Limits}
use Rattle.rules.specs.declared.Mode.{Mode}
use Rattle.rules.specs.declared.Scanned.{Scanned}
use Rattle.rules.specs.Book.{edition, shelved, edition_of, name_parts, no_part, ReadAs}
use Rattle.rules.specs.Sizes.{name_most}
use Rattle.rules.specs.Lines.{lines}
use Rattle.rules.specs.Table.{nought, no_value}
use Rattle.rules.specs.Search as rules
use Rattle.rules.specs.Search.{Stored, no_text, no_best}
use Rattle.rules.specs.Scan.{Event, events, afford, scorings, records, verdict, names, numbers}
use Rattle.detection_shelf.specs.Shelves.{Shelf, texts, book_in, text_in, part_held, parts_of}
use Rattle.rules.specs.Refusal.{refusal, of_scan, before_scan, results_need}
use Rattle.rules.specs.Jobs.{over, lent, named, name_part, answered, happened, scan, results_after, area_after, ScanDone}
use Rattle.rules.proofs.BudgetLaws.{afford-count}
use Rattle.rules.proofs.RefusalLaws.{early, not_early, lines-count, scan-before, scan_then, scan-happened}
use Rattle.rules.proofs.ScanCountLaws.{results_fit, numbers-length}
use Rattle.std.proofs.Common.{Option, None, Some, Ok, IfSome, is_none, is_some}
use Rattle.rules.specs.declared.Findings.{Findings}
use Rattle.rules.specs.declared.Named.{Named}
use Rattle.rules.specs.declared.Licence.{Licence}
use Rattle.rules.specs.Told.{kind_number, scanned_told}
use Rattle.lists.specs.Parts.{part}
use Rattle.detection_shelf.specs.declared.Shelved.{Shelved}
use Rattle.detect_best.specs.declared.Best.{Best}
use Rattle.detect_best.specs.Beats.{best_in}
use Rattle.license_charge.specs.declared.Scorings.{Scorings}
use Rattle.refusals.proofs.AreaLaws.{kept}
use Rattle.refusals.proofs.AdmitLaws.{scan-early}
use Rattle.refusals.specs.Admits.{ScanThrough}
use Rattle.scan_ranges.specs.declared.Run.{Run}
use Rattle.scan_elimination.specs.declared.Outcome.{Outcome}
use Rattle.scan_ranges.specs.Run.{paid_numbers, left_over, run_of}
use Rattle.scan_elimination.specs.Ended.{NameFits, Eliminated}
use Rattle.scan_answer.specs.Answers.{refused_by, held_for, stored_held, part_of, named_in, part_for, HeldFits, LicenceHeld, value_for, left_count, answer_for, full, over_number, Scans}

-- ---- the text that is named
no_name_lem : (lim : Limits) → named lim no_best ≡ no_text
unfolding named no_best
no_name_lem lim = at (names lim no_best)
  where
    at : (q : Bool) → cond q no_text no_text ≡ no_text
    at true = refl
    at false = refl

module _ (books : Shelf) (lim : Limits) where
  pub held-named : (b : Option Best) → named_in books lim b ≡ stored_held books (held_for lim b)
  unfolding named names best_in
  held-named None = no_name_lem lim
  held-named (Some b) = at (lt lim.threshold b.value.score)
    where
      at : (q : Bool) → cond q (text_in books b.text) no_text ≡ stored_held books (cond q (Some b.text) None)
      at true = refl
      at false = refl

  pub held-fits : (b : Option Best) → IfSome b (λ x. NameFits books x.text) → HeldFits books (held_for lim b)
  held-fits None f = tt
  held-fits (Some b) f = at (lt lim.threshold b.value.score)
    where
      at : (q : Bool) → HeldFits books (cond q (Some b.text) None)
      at true = f
      at false = tt

pub held_short : (books : Shelf) (o : Option Shelved) → HeldFits books o → IfSome o (λ t. (t.text.name ≤ t.text.past) × (t.text.past - t.text.name ≤ name_most))
held_short books None f = tt
held_short books (Some t) f = (f.order, f.most)

-- of what is named its kind and part, and of none
pub licence-none : {o : Option Shelved} → o ≡ None → LicenceHeld o None
unfolding no_text
licence-none e = rw e (record { kind = λ books. refl; part = refl })

pub licence-some : {o : Option Shelved} {t : Shelved} → o ≡ Some t → (l : Licence) → l.kind ≡ t.text.kind → l.part ≡ part_held t → LicenceHeld o (Some l)
unfolding text_in
licence-some e l k p = rw e (record { kind = λ books. ap kind_number k; part = p })

-- the name's bytes, and none
pub name-none : (books : Shelf) {o : Option Shelved} → o ≡ None → replicate name_most 0 ≡ over (stored_held books o).name (replicate name_most 0)
unfolding no_text over
name-none books e = rw e refl

pub name-some : (books : Shelf) {o : Option Shelved} {t : Shelved} → o ≡ Some t → (bytes held : List ℕ) → held ≡ book_in books t.second →
    bytes ≡ over (part held t.text.name t.text.past) (replicate name_most 0) → bytes ≡ over (stored_held books o).name (replicate name_most 0)
unfolding text_in
name-some books {o} {t} e bytes held h k = k ∙ ap (λ (s : List ℕ). over (part s t.text.name t.text.past) (replicate name_most 0)) h ∙ rw e refl

-- the part of the name is as long
held_length : (books : Shelf) (o : Option Shelved) → HeldFits books o → (part_of o).len ≡ length (stored_held books o).name
unfolding no_text text_in
held_length books None f = refl
held_length books (Some t) f =
    sym (length-take-le (t.text.past - t.text.name) (drop t.text.name (book_in books t.second)) (omega (arith, length-drop t.text.name (book_in books t.second), f.high)))

-- a test of none by one of some
other-way : (b r : Bool) → b ≡ not r → r ≡ not b
other-way b true e = rw e refl
other-way b false e = rw e refl

pub value_is : (books : Shelf) (b : Option Best) → value_for b ≡ (best_in books b).value
unfolding best_in no_best
value_is books None = refl
value_is books (Some b) = refl

-- ---- what is found, as the answer to how the scan ended
module _ (books : Shelf) (lim : Limits) (budget : ℕ) (x : Outcome) (f : Findings) (fits : IfSome x.best (λ b. NameFits books b.text)) where
  abbrev held : Option Shelved
  held = held_for lim x.best

  pub found-is : LicenceHeld held f.licence → f.name ≡ over (stored_held books held).name (replicate name_most 0) → f.value ≡ value_for x.best →
      f.count ≡ budget - left_count x.run.left → f.records ≡ x.run.records → is_some x.run.left ≡ not f.over_budget → scanned_told (Ok f) ≡ answer_for books lim budget x
  found-is l n v c r known =
      let w = sym (held-named books lim x.best) in
      let len = ap (λ (p : Named). p.len) l.part ∙ held_length books held (held-fits books lim x.best fits) ∙ ap (λ (s : Stored). length s.name) w in
      let name = n ∙ ap (λ (s : Stored). over s.name (replicate name_most 0)) w in
      let kind = l.kind books ∙ ap (λ (s : Stored). s.kind) w in
      let part = l.part in
      let out = other-way _ _ known in
      λ i. record {
        refusal = cond (out i) 12 0;
        name = name i;
        len = len i;
        kind = kind i;
        score = (v i).score;
        m = (v i).m;
        t = (v i).t;
        count = c i;
        records = r i;
        part = part i;
      }

-- ---- a refusal's answer is what the definition says where nothing happened
pub refused-is : (bs : List (List ℕ)) (lim : Limits) (n : ℕ) → refused_by n ≡ answered n lim (name_parts false bs) []
unfolding answered name_part over verdict records scorings no_text no_best
refused-is bs lim n =
    let w = sym (no_name_lem lim) in
    λ i. record {
      refusal = n;
      name = over (w i).name (replicate name_most 0);
      len = length (w i).name;
      kind = (w i).kind;
      score = nought;
      m = 0;
      t = 0;
      count = 0;
      records = 0;
      part = name_part (name_parts false bs) (w i);
    }

-- ---- where nothing is refused before any work
module _ (t : List ℕ) (books : Shelf) (lim : Limits) (mode : Mode) (budget : ℕ) (a : Areas) (r₀ : List ℕ) (passed : ScanThrough t books lim mode a (length r₀)) where
  abbrev all : List Event
  all = full t books lim mode

  abbrev count : ℕ
  count = length (scorings all)

  pub scan-room : (left : Scorings) → left ≡ record { count = budget } → (ls : List (List ℕ)) → ls ≡ lines (edition books.first) t →
      length (paid_numbers t left.count (events lim mode (texts books) ls)) ≤ length r₀
  unfolding paid_numbers
  scan-room left made ls e =
      rw (made, e) (omega (arith, results_fit t lim mode (texts books) (lines (edition books.first) t) budget passed.step, passed.room, ap (λ (n : ℕ). results_need n lim mode) (lines-count (edition books.first) t)))

module _ (t : List ℕ) (books : Shelf) (lim : Limits) (mode : Mode) (budget : ℕ) (r₀ r : List ℕ) (x : Outcome) (h : Eliminated t (full t books lim mode) budget books r₀ r x) where
  abbrev es : List Event
  es = afford budget (full t books lim mode)

  abbrev many : ℕ
  many = length (scorings (full t books lim mode))

  -- out, or all is paid
  record Ends : Type 0 where
    number : cond (is_none x.run.left) 12 0 ≡ over_number budget (full t books lim mode)
    within : left_count x.run.left ≤ budget
    counted : budget - left_count x.run.left ≡ length (scorings es)

  ends : Ends
  unfolding left_over run_of
  ends = at (leb many budget) refl
    where
      at : (q : Bool) → leb many budget ≡ q → Ends
      at true q =
          let l = leb-true many budget q in
          let over : left_over budget (full t books lim mode) ≡ some (budget - many) = rw q in
          let run : x.run ≡ run_of x.run.records (some (budget - many)) = h.ran.run ∙ ap (run_of x.run.records) over in
          let left : left_count x.run.left ≡ budget - many = ap (λ (y : Run). left_count y.left) run in
          record {
            number = ap (λ (y : Run). cond (is_none y.left) 12 0) run ∙ sym (ap (λ (b : Bool). cond b 12 0) (le-ltb budget many l));
            within = omega (arith, left);
            counted = omega (arith, left, l, afford-count budget (full t books lim mode));
          }
      at false q =
          let l = leb-false many budget q in
          let over : left_over budget (full t books lim mode) ≡ none = rw q in
          let run : x.run ≡ run_of x.run.records none = h.ran.run ∙ ap (run_of x.run.records) over in
          let left : left_count x.run.left ≡ 0 = ap (λ (y : Run). left_count y.left) run in
          record {
            number = ap (λ (y : Run). cond (is_none y.left) 12 0) run ∙ sym (ap (λ (b : Bool). cond b 12 0) (lt-ltb budget many l));
            within = omega (arith, left);
            counted = omega (arith, left, l, afford-count budget (full t books lim mode));
          }

  recorded : x.run.records ≡ length (records es)
  unfolding paid_numbers
  recorded = omega (arith, h.ran.wrote.count, numbers-length t (records es))

  pub answer_fits : left_count x.run.left ≤ budget
  answer_fits = ends.within

  part-is : part_for lim x.best ≡ name_part (parts_of books) (named lim (verdict es))
  unfolding name_part no_text
  part-is = at (held_for lim x.best) (held-fits books lim x.best h.name) ∙ ap (name_part (parts_of books)) (sym (held-named books lim x.best) ∙ ap (named lim) h.best)
    where
      at : (o : Option Shelved) → HeldFits books o → part_of o ≡ name_part (parts_of books) (stored_held books o)
      at None f = refl
      at (Some t) f = sym f.stands

  pub answer-is : answer_for books lim budget x ≡ answered (over_number budget (full t books lim mode)) lim (parts_of books) es
  unfolding answered
  answer-is =
      let best = h.best in
      let value = value_is books x.best ∙ ap (λ (b : rules.Best). b.value) h.best in
      let counted = ends.counted in
      let number = ends.number in
      let part = part-is in
      let wrote = recorded in
      λ i. record {
        refusal = number i;
        name = over (named lim (best i)).name (replicate name_most 0);
        len = length (named lim (best i)).name;
        kind = (named lim (best i)).kind;
        score = (value i).score;
        m = (value i).m;
        t = (value i).t;
        count = counted i;
        records = wrote i;
        part = part i;
      }

  pub results_are : r ≡ over (numbers t (records es)) r₀
  unfolding over paid_numbers
  results_are = h.ran.wrote.bytes ∙ ap (λ (n : ℕ). numbers t (records es) ++ drop n r₀) h.ran.wrote.count

-- ---- the two ends of the job
module _ (t : List ℕ) (bs : List (List ℕ)) (lim : Limits) (mode : Mode) (budget : ℕ) (b₀ w₀ r₀ : List ℕ) where
  abbrev before : ℕ
  before = refusal (before_scan t bs lim mode (lent b₀ w₀) (length r₀))

  abbrev number : ℕ
  number = refusal (of_scan t bs lim mode budget (lent b₀ w₀) (length r₀))

  pub scan-refused : (n : ℕ) (x : Scanned) → n ≡ before → (n ≡ 0 → ⊥) → x ≡ refused_by n → ScanDone t bs lim mode budget b₀ b₀ w₀ w₀ r₀ r₀ x
  unfolding scan results_after happened over numbers records early
  scan-refused n x e q r =
      let h : early n ≡ true = rw e (scan-early t bs lim mode (lent b₀ w₀) (length r₀) (λ z. q (e ∙ z))) in
      let k : number ≡ n = scan-before t bs lim mode (lent b₀ w₀) (length r₀) budget (λ z. q (e ∙ z)) ∙ sym e in
      let none : [] ≡ happened t bs lim mode budget (lent b₀ w₀) (length r₀) = sym (rw (k, ne_eqb n 0 q, ne_eqb n 12 (not_early 12 n refl h))) in
      rw r (record {
        answer = refused-is bs lim n ∙ ap₂ (λ (m : ℕ) (l : List Event). answered m lim (name_parts false bs) l) (sym k) none;
        results = ap (λ (l : List Event). over (numbers t (records l)) r₀) none;
        bytes = kept n b₀ h;
        words = kept n w₀ h;
      })

  -- 0 or 12: every element of a work area is zero
  zero_after : before ≡ 0 → (n : ℕ) (area left : List ℕ) → n ≡ length area → left ≡ replicate n 0 → left ≡ area_after number area
  unfolding area_after
  zero_after z n area left l e =
      at (ltb budget (length (scorings (events lim mode (shelved 0 bs) (lines (edition_of bs) t))))) ∙ ap (λ (n : ℕ). area_after n area) (sym (scan_then t bs lim mode (lent b₀ w₀) (length r₀) budget z))
    where
      cleared : left ≡ replicate (length area) 0
      cleared = e ∙ ap (λ (k : ℕ). replicate k 0) l

      at : (q : Bool) → left ≡ area_after (cond q 12 0) area
      at true = cleared
      at false = cleared

  module _ (books : Shelf) (read : ReadAs books.first books.second bs) (z : before ≡ 0) where
    -- what the definition says of these books is what is said below the refusals
    full_is : events lim mode (shelved 0 bs) (lines (edition_of bs) t) ≡ full t books lim mode
    full_is = ap₂ (λ (ss : List Stored) (e : ℕ). events lim mode ss (lines e t)) read.texts read.said

    numbered : over_number budget (full t books lim mode) ≡ number
    numbered = sym (scan_then t bs lim mode (lent b₀ w₀) (length r₀) budget z ∙ ap (over_number budget) full_is)

    happens : afford budget (full t books lim mode) ≡ happened t bs lim mode budget (lent b₀ w₀) (length r₀)
    happens = sym (scan-happened t bs lim mode (lent b₀ w₀) (length r₀) budget z ∙ ap (afford budget) full_is)

    said : answered (over_number budget (full t books lim mode)) lim (parts_of books) (afford budget (full t books lim mode)) ≡ scan t bs lim mode budget (lent b₀ w₀) (length r₀)
    unfolding scan
    said =
        let n = numbered in
        let parts = sym read.names in
        let l = happens in
        λ i. answered (n i) lim (parts i) (l i)

    pub scan-done : (b w r : List ℕ) (x : Scanned) → Scans t books lim mode budget r₀ r x → {m n : ℕ} → m ≡ length b₀ → b ≡ replicate m 0 → n ≡ length w₀ → w ≡ replicate n 0 →
        ScanDone t bs lim mode budget b₀ b w₀ w r₀ r x
    unfolding scan answered results_after
    scan-done b w r x s {m} {n} l p k q =
        let answer = s.answer ∙ said in
        let said-so : x.refusal ≡ number = ap (λ (y : Scanned). y.refusal) answer in
        record {
          answer = answer;
          results = s.results ∙ ap (λ (l : List Event). over (numbers t (records l)) r₀) happens;
          bytes = zero_after z m b₀ b l p ∙ ap (λ (i : ℕ). area_after i b₀) (sym said-so);
          words = zero_after z n w₀ w k q ∙ ap (λ (i : ℕ). area_after i w₀) (sym said-so);
        }
