-- Elimination as a whole: the best text, and the passes that follow it.
--     verdict-out, verdict-paid         the overall best, where the budget does not pay it and where it does
--     whole_out                         the best is not paid
--     whole-stop, whole_room, whole-on  it is paid, and no pass follows, or passes do
-- Assumes nothing.
use mathlib.Core.Path.{◌≡◌, refl, sym, ap, ◌∙◌, subst}
use mathlib.Core.Bool.{Bool, true, false, not, ◌||◌, cond}
use mathlib.Core.List.{List, [], ◌∷◌}
use mathlib.Core.Option.{none, some}
use Prim.Native.Nat.{ℕ, ◌-◌, ◌*◌, ◌≤◌}
use native.Mathlib.Omega.{arith}
use lib.ListN.{length, take}
use borrow.Author.Tests.{ne_eqb}
use Rattle.lists.specs.Wrote.{Wrote}
use Rattle.rules.specs.declared.Limits.{Limits}
use Rattle.rules.specs.declared.View.{View}
use Rattle.rules.specs.Sizes.{record_width}
use Rattle.rules.specs.Search as rules
use Rattle.rules.specs.Search.{Made, view, whole, no_best}
use Rattle.rules.specs.Jobs.{name_part}
use Rattle.rules.specs.Scan.{Event, overall, after, afford, verdict, stops, each_pass, elimination}
use Rattle.rules.proofs.BudgetLaws.{afford-whole, afford-part}
use Rattle.rules.proofs.VerdictLaws.{verdict-after}
use Rattle.preproc_table.specs.Entries.{lines_at}
use Rattle.preproc_table.proofs.EntryLaws.{lines-length}
use Rattle.license_charge.specs.declared.Scorings.{Scorings}
use Rattle.license_charge.specs.Pay.{Paid, pay}
use Rattle.detection_shelf.specs.declared.Shelved.{Shelved}
use Rattle.rules.specs.Book.{sound}
use Rattle.detection_shelf.specs.declared.Counts.{Counts}
use Rattle.detection_texts.proofs.TextLaws.{found_name}
use Rattle.detect_best.specs.declared.Best.{Best}
use Rattle.std.specs.Prelude.{None, Some, IfSome, IsSomeAnd}
use Rattle.std.specs.Prelude as prelude
use Rattle.rules.specs.Told.{kind_number}
use Rattle.license_charge.specs.declared.Charged.{Charged}
use Rattle.detect_best.specs.Beats.{best_in}
use Rattle.detect.specs.Bests.{chosen_in, ChosenStands, BestDone}
use Rattle.detection_shelf.specs.Shelves.{Shelf, texts, Stands, CountsOf, book_in, text_in}
use Rattle.detection_shelf.proofs.ShelfLaws.{stands-part}
use Rattle.scan_ranges.specs.declared.Scope.{Scope}
use Rattle.scan_elimination.specs.declared.Outcome.{Outcome}
use Rattle.scan_ranges.specs.Run.{Scanning, paid_numbers, left_over, run_of, Ran}
use Rattle.scan_elimination.specs.Ended.{NameFits, Eliminated}
use Rattle.scan_ranges.proofs.ValueLaws.{stands-sound}
use Rattle.scan_ranges.proofs.RunLaws.{paid-is, unpaid_is, paid-written, paid-left, overall-written, overall-left}
use Rattle.scan_ranges.proofs.GoingLaws.{going_first, going_as, going_out, going_end}

-- ---- the overall best
module _ {A : Type 0} (m : Made A) (b : ℕ) where
  pub verdict-out : (es : List Event) → pay m b ≡ none → verdict (afford b (after m.list es)) ≡ no_best
  unfolding verdict
  verdict-out es h = ap verdict (afford-part b m.list es (unpaid_is m b h)) ∙ verdict-after (take b m.list) []

  pub verdict-paid : (p : Paid A) (x : rules.Best) (es : List Event) → pay m b ≡ some p → verdict (afford b (after m.list (overall x ∷ es))) ≡ x
  unfolding afford verdict
  verdict-paid p x es h =
      ap verdict (afford-whole b m.list (overall x ∷ es) (paid-is m b p h).2) ∙ verdict-after m.list (afford (b - length m.list) (overall x ∷ es))

-- ---- names
book-sound : (books : Shelf) (c : Counts) (second : Bool) → CountsOf books c → sound (book_in books second) ≡ true
book-sound books c true h = h.sound-second
book-sound books c false h = h.sound-first

kind-from : (books : Shelf) (c : Counts) (t : Shelved) → CountsOf books c → Stands books t → 2 ≤ kind_number t.text.kind
unfolding text_in
kind-from books c t s h = (stands-sound books c t s h).kind-from

pub stands-name : {books : Shelf} {c : Counts} {t : Shelved} → CountsOf books c → Stands books t → NameFits books t
unfolding name_part text_in
stands-name {books} {c} {t} s h = record {
  order = h.found.is.name-from;
  high = h.found.is.name-to;
  most = (found_name (book_in books t.second) t.text.number t.text (book-sound books c t.second s) h.inside h.found).1;
  stands = rw (ne_eqb (kind_number t.text.kind) 0 (λ e. omega (arith, e, kind-from books c t s h))) (stands-part books t h);
}

-- ---- the whole
module _ (note : List ℕ) {scope : Scope} {class area₀ words₀ : List ℕ} {books : Shelf} (s : Scanning scope class area₀ words₀ books) (optimize : Bool) (p budget : ℕ) (r₀ : List ℕ)
    (room : length (paid_numbers note budget (elimination scope.limits optimize p (texts books) (lines_at area₀ words₀ scope.lines))) ≤ length r₀) where
  abbrev lim : Limits
  lim = scope.limits

  abbrev ls : List (List ℕ)
  ls = lines_at area₀ words₀ scope.lines

  abbrev made : Made rules.Best
  made = rules.best (texts books) ls (whole ls)

  abbrev pub all : List Event
  all = elimination lim optimize p (texts books) ls

  abbrev more : rules.Best → List Event
  more b = cond (stops lim b || not optimize) [] (each_pass lim (texts books) p ls b)

  split : all ≡ after made.list (overall made.value ∷ more made.value)
  unfolding elimination
  split = refl

  -- the best of the whole, as the code asks it
  asked : (v : View) → v ≡ view 0 scope.lines → rules.best (texts books) ls v ≡ made
  unfolding whole lines_at
  asked v e = ap (rules.best (texts books) ls) (e ∙ ap (view 0) (sym (lines-length area₀ words₀ 0 scope.lines)))

  module _ {area words : List ℕ} (v : View) (e : v ≡ view 0 scope.lines) where
    pub whole_out : (x : Outcome) → BestDone scope.n scope.lines area₀ words₀ area words v books budget None → x.best ≡ None → x.run ≡ run_of 0 none →
        Eliminated note all budget books r₀ r₀ x
    unfolding chosen_in best_in
    whole_out x d b q =
        let out : pay made budget ≡ none = ap (λ (m : Made rules.Best). pay m budget) (sym (asked v e)) ∙ sym d.is in
        record {
          best = ap (best_in books) b ∙ sym (ap (λ (es : List Event). verdict (afford budget es)) split ∙ verdict-out made budget _ out);
          name = subst (λ (y : prelude.Option Best). IfSome y (λ b. NameFits books b.text)) (sym b) tt;
          ran = going_out made (overall made.value ∷ more made.value) x.run out q (going_as split (going_first note all budget r₀ room));
        }

    -- the books store a text, so that they have a best
    pub best-none : {A : Type 0} (c : Charged (prelude.Option Best)) → c.value ≡ None → BestDone scope.n scope.lines area₀ words₀ area words v books budget (Some c) → A
    unfolding ChosenStands
    best-none c z d = let no : IsSomeAnd {T = Best} None (λ b. Stands books b.text) = rw z at (d.stands s.some-text) in absurd no

    module _ (c : Charged (prelude.Option Best)) (best : Best) (known : c.value ≡ Some best)
        (d : BestDone scope.n scope.lines area₀ words₀ area words v books budget (Some c)) where
      abbrev left : Scorings
      left = c.left

      paid : pay made budget ≡ some (record { value = best_in books (Some best); left = left.count })
      unfolding chosen_in
      paid = ap (λ (m : Made rules.Best). pay m budget) (sym (asked v e)) ∙ rw known at (sym d.is)

      is : made.value ≡ best_in books (Some best)
      is = sym (paid-is made budget (record { value = best_in books (Some best); left = left.count }) paid).0

      pub best-stands : Stands books best.text
      unfolding ChosenStands
      best-stands = rw known at (d.stands s.some-text)

      -- what follows the best
      then : all ≡ after made.list (overall (best_in books (Some best)) ∷ more (best_in books (Some best)))
      then = split ∙ ap (λ (b : rules.Best). after made.list (overall b ∷ more b)) is

      writes : paid_numbers note budget all ≡ paid_numbers note left.count (more (best_in books (Some best)))
      writes =
          ap (paid_numbers note budget) then ∙ paid-written made budget (overall (best_in books (Some best)) ∷ more (best_in books (Some best))) note (record { value = best_in books (Some best); left = left.count }) paid ∙
          overall-written note left.count (best_in books (Some best)) (more (best_in books (Some best)))

      leaves : left_over budget all ≡ left_over left.count (more (best_in books (Some best)))
      leaves =
          ap (left_over budget) then ∙ paid-left made budget (overall (best_in books (Some best)) ∷ more (best_in books (Some best))) (record { value = best_in books (Some best); left = left.count }) paid ∙
          overall-left left.count (best_in books (Some best)) (more (best_in books (Some best)))

      -- a run of what follows is a run of the whole
      ended_as : {r : List ℕ} (x : Outcome) → x.best ≡ Some best → Ran note (more (best_in books (Some best))) left.count r₀ r x.run → Eliminated note all budget books r₀ r x
      ended_as {r} x b a = record {
        best = ap (best_in books) b ∙ sym (ap (λ (es : List Event). verdict (afford budget es)) then ∙
            verdict-paid made budget (record { value = best_in books (Some best); left = left.count }) (best_in books (Some best)) (more (best_in books (Some best))) paid);
        name = subst (λ (y : prelude.Option Best). IfSome y (λ t. NameFits books t.text)) (sym b) (stands-name s.counted best-stands);
        ran = record {
          wrote = subst (λ (l : List ℕ). Wrote l r₀ (record_width * x.run.records) r) (sym writes) a.wrote;
          run = a.run ∙ ap (run_of x.run.records) (sym leaves);
        };
      }

      pub whole-stop : (x : Outcome) → stops lim (best_in books (Some best)) || not optimize ≡ true → x.best ≡ Some best → x.run ≡ run_of 0 (some left.count) → Eliminated note all budget books r₀ r₀ x
      whole-stop x t b q =
          ended_as x b (going_end x.run q (going_as (none_more t) (going_first note (more (best_in books (Some best))) left.count r₀ (subst (λ (l : List ℕ). length l ≤ length r₀) writes room))))
        where
          none_more : stops lim (best_in books (Some best)) || not optimize ≡ true → more (best_in books (Some best)) ≡ []
          none_more t = rw t

      module _ (t : stops lim (best_in books (Some best)) || not optimize ≡ false) where
        -- the passes, over the areas as they stand
        passes : more (best_in books (Some best)) ≡ each_pass lim (texts books) p (lines_at area words scope.lines) (best_in books (Some best))
        passes = rw t (ap (λ (ms : List (List ℕ)). each_pass lim (texts books) p ms (best_in books (Some best))) (sym d.held.same))

        pub whole_room : length (paid_numbers note left.count (each_pass lim (texts books) p (lines_at area words scope.lines) (best_in books (Some best)))) ≤ length r₀
        whole_room = subst (λ (l : List ℕ). length l ≤ length r₀) (writes ∙ ap (paid_numbers note left.count) passes) room

        pub whole-on : {r : List ℕ} (x : Outcome) → x.best ≡ Some best → Ran note (each_pass lim (texts books) p (lines_at area words scope.lines) (best_in books (Some best))) left.count r₀ r x.run →
            Eliminated note all budget books r₀ r x
        whole-on {r} x b a = ended_as x b (subst (λ (es : List Event). Ran note es left.count r₀ r x.run) (sym passes) a)

-- ---- whether passes follow
pub stop_by_best : (a b : Bool) → a ≡ true → a || b ≡ true
stop_by_best a b h = rw h

pub stop_by_setting : (a b : Bool) → b ≡ true → a || b ≡ true
stop_by_setting true b h = refl
stop_by_setting false b h = h

pub no_stop : (a b : Bool) → a ≡ false → b ≡ false → a || b ≡ false
no_stop a b h k = rw (h, k)
