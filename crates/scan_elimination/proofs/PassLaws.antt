-- Elimination, pass by pass: the loop's invariant, and its steps.
--     Passing                           the passes still to come, paid from what is left, are all passes paid from the budget
--     pass_first                        before the first pass
--     pass_out, pass_below              bounds that are not paid, or too low
--     pass_again, pass_out_again        past a record: the best of what is left, and where it is not paid
--     pass_end                          no pass left
-- Assumes nothing.
use mathlib.Core.Path.{◌≡◌, refl, sym, ap, ◌∙◌}
use mathlib.Core.Bool.{true, false, cond}
use mathlib.Core.List.{List, [], ◌∷◌, ◌++◌}
use mathlib.Core.Option.{none, some}
use Prim.Native.Nat.{ℕ, suc, ◌+◌, ◌-◌, ◌*◌, ◌≤◌, ◌<◌}
use native.Mathlib.Nat.{sub-zero}
use native.Mathlib.Omega.{arith}
use lib.ListN.{length, take, drop}
use Rattle.rules.specs.declared.Bounds.{Bounds}
use Rattle.rules.specs.declared.Limits.{Limits}
use Rattle.rules.specs.declared.View.{View}
use Rattle.rules.specs.Sizes.{record_width}
use Rattle.rules.specs.Search as rules
use Rattle.rules.specs.Search.{Made, Stored, view, whole, blank, bounds}
use Rattle.rules.specs.Scan.{Event, found, Recorded, after, below, each_pass}
use Rattle.preproc_table.specs.Entries.{lines_at, Blanked}
use Rattle.preproc_table.proofs.EntryLaws.{lines-length}
use Rattle.std.specs.Prelude.{None, Some, IsSomeAnd}
use Rattle.std.specs.Prelude as prelude
use Rattle.license_charge.specs.declared.Charged.{Charged}
use Rattle.license_charge.specs.declared.Scorings.{Scorings}
use Rattle.license_charge.specs.Pay.{Paid, pay, charged_of}
use Rattle.license_charge.proofs.PayLaws.{out_of, paid_of}
use Rattle.license_notes.specs.Laid.{Held}
use Rattle.detect_best.specs.declared.Best.{Best}
use Rattle.detect_best.specs.Beats.{best_in}
use Rattle.detect.specs.Bests.{chosen_in, ChosenStands, BestDone}
use Rattle.detection_shelf.specs.Shelves.{Shelf, texts, text_in, Stands}
use Rattle.scan_ranges.specs.declared.Run.{Run}
use Rattle.scan_ranges.specs.declared.Scope.{Scope}
use Rattle.scan_ranges.specs.Run.{paid_numbers, run_of, Scanning, BestWithout, RangeFits, Ran}
use Rattle.scan_ranges.proofs.RunLaws.{paid-is}
use Rattle.scan_ranges.proofs.HeldLaws.{fits_of}
use Rattle.scan_ranges.proofs.GoingLaws.{Going, going_first, going_as, going_paid, going_out, going_room, going_found, going_end, six_of}

-- ---- the best of what white-out leaves, of areas that still hold the same lines
pub without-held : {scope : Scope} {class area₀ words₀ area₁ words₁ area words : List ℕ} {books : Shelf} {range : Bounds} {budget : ℕ} {r : prelude.Option (Charged (prelude.Option Best))} →
    Held scope.n scope.lines area₀ words₀ area₁ words₁ → BestWithout scope class area₁ words₁ area words books range budget r →
    BestWithout scope class area₀ words₀ area words books range budget r
without-held {scope} {class} {area₀} {words₀} {area₁} {words₁} {area} {words} {books} {range} {budget} {r} h w =
    let cut : List (List ℕ) → List (List ℕ) = λ m. blank range.first range.after m in
    record {
      is = w.is ∙ ap (λ (m : List (List ℕ)). pay (rules.best (texts books) (cut m) (whole (cut m))) budget) h.same;
      lines = w.lines ∙ ap cut h.same;
      stands = w.stands;
      ready = w.ready;
      area_long = w.area_long ∙ h.area_long;
      words_long = w.words_long ∙ h.words_long;
    }

-- ---- the best of what white-out leaves
pub best-without : {scope : Scope} {class area₀ words₀ words₁ area words : List ℕ} {books : Shelf} {v : View} {range : Bounds} {budget : ℕ} {r : prelude.Option (Charged (prelude.Option Best))} →
    Scanning scope class area₀ words₀ books → Blanked range.first range.after words₀ words₁ → length words₁ ≡ length words₀ →
    v ≡ view 0 scope.lines → BestDone scope.n scope.lines area₀ words₁ area words v books budget r →
    BestWithout scope class area₀ words₀ area words books range budget r
unfolding whole lines_at
best-without {scope} {class} {area₀} {words₀} {words₁} {area} {words} {books} {v} {range} {budget} {r} s b long e d =
    let rest = blank range.first range.after (lines_at area₀ words₀ scope.lines) in
    let cut : lines_at area₀ words₁ scope.lines ≡ rest = b.lines area₀ scope.lines in
    let all : v ≡ whole (lines_at area₀ words₁ scope.lines) = e ∙ ap (view 0) (sym (lines-length area₀ words₁ 0 scope.lines)) in
    record {
      is = d.is ∙ ap (λ (w : View). pay (rules.best (texts books) (lines_at area₀ words₁ scope.lines) w) budget) all ∙
          ap (λ (m : List (List ℕ)). pay (rules.best (texts books) m (whole m)) budget) cut;
      lines = d.held.same ∙ cut;
      stands = d.stands s.some-text;
      ready = record { classes = s.classes; laid = d.held.laid; few = s.few; counted = s.counted; some-text = s.some-text };
      area_long = d.held.area_long;
      words_long = d.held.words_long ∙ long;
    }

-- ---- the passes
pub record Passing (note : List ℕ) (scope : Scope) (class area₀ words₀ : List ℕ) (books : Shelf) (r₀ : List ℕ) (p budget : ℕ) (first : Best) (area words r : List ℕ) (best : Best) (left k : ℕ) : Type 0 where
  pub ready : Scanning scope class area words books
  pub area_long : length area ≡ length area₀
  pub words_long : length words ≡ length words₀
  pub stands : Stands books best.text
  pub within : k ≤ p
  pub going :
      Going note (each_pass scope.limits (texts books) p (lines_at area₀ words₀ scope.lines) (best_in books (Some first))) budget r₀ r k left
      (each_pass scope.limits (texts books) (p - k) (lines_at area words scope.lines) (best_in books (Some best)))

pub pass_first : (note : List ℕ) (scope : Scope) (class area words : List ℕ) (books : Shelf) (r : List ℕ) (p budget : ℕ) (first : Best) → Scanning scope class area words books → Stands books first.text →
    length (paid_numbers note budget (each_pass scope.limits (texts books) p (lines_at area words scope.lines) (best_in books (Some first)))) ≤ length r →
    Passing note scope class area words books r p budget first area words r first budget 0
pass_first note scope class area words books r p budget first s t h = record {
  ready = s;
  area_long = refl;
  words_long = refl;
  stands = t;
  within = omega arith;
  going = going_as (ap (λ (n : ℕ). each_pass scope.limits (texts books) n (lines_at area words scope.lines) (best_in books (Some first))) (sym (sub-zero p))) (going_first note _ budget r h);
}

module _ {note : List ℕ} {scope : Scope} {class area₀ words₀ : List ℕ} {books : Shelf} {r₀ : List ℕ} {p budget : ℕ} {first : Best} {area words r : List ℕ} {best : Best} {left k : ℕ}
    (i : Passing note scope class area₀ words₀ books r₀ p budget first area words r best left k) where
  abbrev pub lim : Limits
  lim = scope.limits

  abbrev pub all : List Event
  all = each_pass lim (texts books) p (lines_at area₀ words₀ scope.lines) (best_in books (Some first))

  abbrev pub ls : List (List ℕ)
  ls = lines_at area words scope.lines

  abbrev pub text : Stored
  text = text_in books best.text

  abbrev pub made : Made Bounds
  made = bounds ls (whole ls) text

  -- the lines without a range, their best, and what follows it
  abbrev pub without : Bounds → List (List ℕ)
  without x = blank x.first x.after ls

  abbrev pub next : Bounds → Made rules.Best
  next x = rules.best (texts books) (without x) (whole (without x))

  abbrev pub more : Bounds → List Event
  more x = after (next x).list (each_pass lim (texts books) (p - (k + 1)) (without x) (next x).value)

  abbrev pub told : Bounds → List Event
  told x = cond (below lim x) [] (found (record { text = text; range = x }) ∷ more x)

  split : k < p → each_pass lim (texts books) (p - k) ls (best_in books (Some best)) ≡ after made.list (told made.value)
  unfolding each_pass best_in
  split l = ap (λ (n : ℕ). each_pass lim (texts books) n ls (best_in books (Some best))) (fewer l)
    where
      fewer : k < p → p - k ≡ suc (p - (k + 1))
      fewer l = omega arith

  -- bounds over the whole, as the code asks them
  asked : (v : View) → v ≡ view 0 scope.lines → bounds ls v text ≡ made
  unfolding whole lines_at
  asked v e = ap (λ (w : View). bounds ls w text) (e ∙ ap (view 0) (sym (lines-length area words 0 scope.lines)))

  -- where the budget is out
  pub pass_out : (v : View) (x : Run) → k < p → v ≡ view 0 scope.lines → None ≡ charged_of (pay (bounds ls v text) left) → x ≡ run_of k none →
      Ran note all budget r₀ r x
  pass_out v x l e o q =
      going_out made (told made.value) x (ap (λ (m : Made Bounds). pay m left) (sym (asked v e)) ∙ out_of (pay (bounds ls v text) left) o) q
      (going_as (split l) i.going)

  module _ (v : View) (c : Charged Bounds) (l : k < p) (e : v ≡ view 0 scope.lines) (o : Some c ≡ charged_of (pay (bounds ls v text) left)) where
    abbrev range : Bounds
    range = c.value

    abbrev rest : Scorings
    rest = c.left

    paid : pay made left ≡ some (record { value = range; left = rest.count })
    paid = ap (λ (m : Made Bounds). pay m left) (sym (asked v e)) ∙ paid_of (pay (bounds ls v text) left) c o

    is : made.value ≡ range
    is = sym (paid-is made left (record { value = range; left = rest.count }) paid).0

    past : Going note all budget r₀ r k rest.count (told range)
    past =
        going_paid made (told range) (record { value = range; left = rest.count }) paid
        (going_as (split l ∙ ap (λ (x : Bounds). after made.list (told x)) is) i.going)

    pub pass_fits : RangeFits scope.lines range
    unfolding whole lines_at
    pass_fits = fits_of i.ready (whole ls) best.text (omega arith) (omega (arith, lines-length area words 0 scope.lines)) i.stands range is

    pub pass_below : (x : Run) → below lim range ≡ true → x ≡ run_of k (some rest.count) → Ran note all budget r₀ r x
    pass_below x b q = going_end x q (going_as (low b) past)
      where
        low : below lim range ≡ true → told range ≡ []
        low b = rw b

    module _ (b : below lim range ≡ false) where
      abbrev pub recorded : Recorded
      recorded = record { text = text; range = range }

      high : told range ≡ found recorded ∷ more range
      high = rw b

      pub pass_room : record_width * k + record_width ≤ length r
      pass_room = going_room recorded (more range) (going_as high past)

      -- past the record
      module _ (r' : List ℕ) (q : r' ≡ take (record_width * k) r ++ six_of note recorded ++ drop (record_width * k + record_width) r) where
        on : Going note all budget r₀ r' (k + 1) rest.count (more range)
        on = going_found recorded (more range) (going_as high past) r' q

        pub pass_out_again : {area' words' : List ℕ} (x : Run) → BestWithout scope class area words area' words' books range rest.count None → x ≡ run_of (k + 1) none →
            Ran note all budget r₀ r' x
        unfolding chosen_in
        pass_out_again x w e' =
            going_out (next range) (each_pass lim (texts books) (p - (k + 1)) (without range) (next range).value) x (sym w.is) e' on

        -- the books store a text, so that they have a best
        pub best-none : {A : Type 0} {area' words' : List ℕ} (d : Charged (prelude.Option Best)) → d.value ≡ None →
            BestWithout scope class area words area' words' books range rest.count (Some d) → A
        unfolding ChosenStands
        best-none d z w = let no : IsSomeAnd {T = Best} None (λ b. Stands books b.text) = rw z at w.stands in absurd no

        pub pass_again : {area' words' : List ℕ} (d : Charged (prelude.Option Best)) (best' : Best) → d.value ≡ Some best' →
            BestWithout scope class area words area' words' books range rest.count (Some d) → Passing note scope class area₀ words₀ books r₀ p budget first area' words' r' best' d.left.count (k + 1)
        unfolding chosen_in ChosenStands
        pass_again {area'} {words'} d best' is' w =
            let paid-best : Paid rules.Best = record { value = best_in books (Some best'); left = d.left.count } in
            let paid-is' : pay (next range) rest.count ≡ some paid-best = rw is' at (sym w.is) in
            let stands' : Stands books best'.text = rw is' at w.stands in
            let es = each_pass lim (texts books) (p - (k + 1)) (without range) (next range).value in
            let same : es ≡ each_pass lim (texts books) (p - (k + 1)) (lines_at area' words' scope.lines) (best_in books (Some best')) =
            ap (λ (b : rules.Best). each_pass lim (texts books) (p - (k + 1)) (without range) b) (sym (paid-is (next range) rest.count paid-best paid-is').0) ∙
            ap (λ (m : List (List ℕ)). each_pass lim (texts books) (p - (k + 1)) m (best_in books (Some best'))) (sym w.lines) in
            record {
              ready = w.ready;
              area_long = w.area_long ∙ i.area_long;
              words_long = w.words_long ∙ i.words_long;
              stands = stands';
              within = omega arith;
              going = going_as same (going_paid (next range) es paid-best paid-is' on);
            }

  pub pass_end : (x : Run) → p ≤ k → x ≡ run_of k (some left) → Ran note all budget r₀ r x
  unfolding each_pass
  pass_end x l q = going_end x q (going_as none_left i.going)
    where
      zero_left : p - k ≡ 0
      zero_left = omega (arith, l)

      none_left : each_pass lim (texts books) (p - k) ls (best_in books (Some best)) ≡ []
      none_left = ap (λ (n : ℕ). each_pass lim (texts books) n ls (best_in books (Some best))) zero_left
