-- Rows that are tried one after the other, and what is known of a text, a book, a view, settings and areas that are let through.
--     check-texts, check_sound                   what `check` says of a book that it does not refuse
--     empty_checked                              and of an empty one
--     checks_first, checks_second, checks_none, checks_apart, checks_some   the answers of `check` of both books and their editions, as the
--                                                rows of the lent books
--     both_first, then_refused, then_passed      refusals 1 to 5 and 15, then the others
--     compile-early, view-early, scan-early      a refusal before any work is none of those that change lent memory
--     compile-first, compile_then                compile: the text decides, then the edition and the areas
--     through, compile_through, view_through, scan_through   what holds where nothing is refused
--     view_admitted, view-kept                   the two ways on from `admit_view`, which both jobs of a view take
-- Assumes nothing.
use Rattle.std.proofs.Common.{Option, None, Some, unwrap_or, Result, Ok, Err}
use mathlib.Core.Path.{◌≡◌, refl, sym, ap, ◌∙◌}
use mathlib.Core.Bool.{Bool, true, false, not, ◌&&◌, ◌||◌, cond}
use mathlib.Core.List.{List, [], ◌∷◌, ◌++◌}
use Prim.Native.Nat.{ℕ, suc, ◌+◌, ◌≤◌}
use native.Mathlib.Omega.{arith}
use lib.Dec.{leb, ltb, eqb}
use lib.ListN.{length}
use borrow.Author.Tests.{eq-eqb, ne_eqb, eqb-true, eqb-false, ltb-false, leb-true, leb-false, not-false}
use Rattle.rules.specs.declared.Areas.{Areas}
use Rattle.rules.specs.declared.Limits.{Limits}
use Rattle.rules.specs.declared.Mode.{Mode}
use Rattle.rules.specs.declared.View.{View}
use Rattle.rules.specs.declared.Checked.{Checked}
use Rattle.rules.specs.Sizes.{stored_most, text_most, lines_most, edition_most, byte_area, word_area}
use Rattle.rules.specs.Bytes.{within}
use Rattle.rules.specs.Points.{wide, taken}
use Rattle.rules.specs.Lines.{line_count}
use Rattle.rules.specs.Book as Book
use Rattle.rules.specs.Book.{stored}
use Rattle.rules.specs.Search.{recurse, turns}
use Rattle.rules.specs.Refusal.{Row, row, refusal, small, of_text, of_books, of_check, before_compile, of_view, before_scan, unit, step_zero, results_need}
use Rattle.rules.specs.declared.Refusal.{Refusal}
use Rattle.rules.specs.declared.Refusal.TheVariants as refused
use Rattle.rules.specs.Told.{refusal_number, number_told, checked_told}
use Rattle.rules.proofs.ToldLaws.{numbered}
use Rattle.rules.specs.Jobs.{lent, check, CheckDone}
use Rattle.rules.proofs.SoundLaws.{sound-most}
use Rattle.rules.proofs.ShelfLaws.{two_length}
use Rattle.rules.proofs.BoolLaws.{and_left, and_right}
use Rattle.rules.proofs.RefusalLaws.{early, all_early, Numbered, refusal-first, refusal_then, refusal-early, compile-numbered, scan-numbered}
use Rattle.preproc_test.specs.Counts.{AsTested, Passed}
use Rattle.preproc_test.proofs.CountLaws.{passed_text}
use Rattle.detection_shelf.specs.declared.Counts.{Counts}
use Rattle.detection_shelf.specs.Shelves.{Shelf, texts, CountsOf}
use Rattle.refusals.specs.declared.Admitted.{Admitted}
use Rattle.refusals.specs.Lent.{books_lent, shelf_lent}
use Rattle.refusals.specs.Admits.{AdmitsShelf, Admits, both_rows, AdmitsBooks, AdmitsView, AdmitsScan, Through, ViewThrough, ScanThrough}
use Rattle.refusals.proofs.LentLaws.{lent-read}
use Rattle.refusals_rows.specs.Rows.{small_for, compile_rows, view_rows, scan_rows}
use Rattle.refusals.proofs.AreaLaws.{BothAfter, kept}

-- ---- rows
-- a row that does not apply
pub row-passes : (n : ℕ) (b : Bool) (rs : List Row) → refusal (row (suc n) b ∷ rs) ≡ 0 → (b ≡ false) × (refusal rs ≡ 0)
unfolding refusal
row-passes n true rs h = absurd (none h)
  where
    none : suc n ≡ 0 → ⊥
    none h = omega arith
row-passes n false rs h = (refl, h)

and_true : (b : Bool) → b && true ≡ b
and_true true = refl
and_true false = refl

neither : (a b : Bool) → a || b ≡ false → (a ≡ false) × (b ≡ false)
neither true b h = absurd (none h)
  where
    none : true ≡ false → ⊥
    none h = let z : ◌≡◌ {A = ℕ} 0 1 = cc in omega arith
neither false b h = (refl, h)

-- ---- a text that is let through under edition e
text-few : (e : ℕ) (t : List ℕ) → refusal (of_text e t) ≡ 0 → line_count t ≤ lines_most
unfolding of_text
text-few e t h =
    let a = row-passes 0 (ltb text_most (length t)) _ h in
    let b = row-passes 1 (not (taken (wide e) t)) _ a.1 in
    ltb-false _ _ (row-passes 2 (ltb lines_most (line_count t)) _ b.1).0

-- the edition that a text is read by beside lent books: what the first says
pub first_said : (book : List ℕ) (second : Option (List ℕ)) → Book.edition_of (books_lent book second) ≡ Book.edition book
unfolding Book.edition_of
first_said book second = refl

-- ---- the answer of `check`, as the rows of a book
abbrev first_of : (is_sound is_empty is_apart : Bool) → ℕ
first_of is_sound is_empty is_apart = cond (not is_sound) 4 (cond is_empty 5 (cond is_apart 15 0))

module _ (book : List ℕ) (c : Checked) (d : CheckDone book c) where
  check-number : c.refusal ≡ refusal (of_check book)
  unfolding check
  check-number = ap (λ (x : Checked). x.refusal) d.answer

  pub check-texts : c.refusal ≡ 0 → c.texts ≡ length (stored book)
  unfolding check
  check-texts z = ap (λ (x : Checked). x.texts) d.answer ∙ rw (eq-eqb (refusal (of_check book)) 0 (sym check-number ∙ z))

  -- a book that is not refused is sound
  pub check_sound : c.refusal ≡ 0 → Book.sound book ≡ true
  unfolding refusal of_check
  check_sound z = at (Book.sound book) (sym check-number ∙ z)
    where
      at : (s : Bool) → ◌≡◌ {A = ℕ} (cond (not s) 4 0) 0 → s ≡ true
      at true e = refl
      at false e = absurd (none e)
        where
          none : ◌≡◌ {A = ℕ} 4 0 → ⊥
          none e = omega arith

-- ---- the answers of `check` of both books, as the rows of the lent books: a second that is not lent is empty, and so sound
empty_sound : Book.sound [] ≡ true
unfolding Book.sound Book.filled Book.stored Book.stored_from Book.stored_of Book.stored_in Book.records_of Book.pieces recurse turns Book.go_on Book.front Book.sound_records
empty_sound = refl

-- as `check` answers for it
pub empty_checked : (book : List ℕ) → book ≡ [] → CheckDone book (record { refusal = 0; texts = 0 })
unfolding check refusal of_check Book.sound Book.filled Book.stored Book.stored_from Book.stored_of Book.stored_in Book.records_of Book.pieces recurse turns Book.go_on Book.front Book.sound_records
empty_checked book e = rw e (record { answer = refl })

module _ (book : List ℕ) (second : Option (List ℕ)) where
  abbrev other : List ℕ
  other = unwrap_or second []

  abbrev books : Shelf
  books = shelf_lent book second

  lent-sound : Book.all_sound (books_lent book second) ≡ (Book.sound book && Book.sound other)
  unfolding Book.all_sound
  lent-sound = at second
    where
      at : (o : Option (List ℕ)) → Book.all_sound (books_lent book o) ≡ (Book.sound book && Book.sound (unwrap_or o []))
      at (Some x) = ap (λ (b : Bool). Book.sound book && b) (and_true (Book.sound x))
      at None = ap (λ (b : Bool). Book.sound book && b) (sym empty_sound)

  abbrev of_lent : ℕ
  of_lent = refusal (of_books (books_lent book second))

  abbrev apart : Bool
  apart = Book.differ (books_lent book second)

  books_are : of_lent ≡ first_of (Book.sound book && Book.sound other) (eqb (length (texts books)) 0) apart
  unfolding refusal of_books
  books_are = rw (lent-sound, (lent-read book second).texts)

  pub shelf-refused : (e : Refusal) → refusal_number e ≡ of_lent → AdmitsShelf book second (Err e)
  unfolding number_told
  shelf-refused e q = record { number = q; texts = tt }

  -- a book that is refused is not sound
  pub checks_first : (e : Refusal) → CheckDone book (checked_told (Err e)) → AdmitsShelf book second (Err e)
  unfolding refusal of_check
  checks_first e x = shelf-refused e (at (Book.sound book) (check-number book _ x) ∙ sym books_are)
    where
      at : (s : Bool) → refusal_number e ≡ cond (not s) 4 0 → refusal_number e ≡ first_of (s && Book.sound other) (eqb (length (texts books)) 0) apart
      at true q = absurd (numbered e q)
      at false q = q

  module _ (n : ℕ) (x : CheckDone book (checked_told (Ok n))) where
    pub checks_second : (e : Refusal) → CheckDone other (checked_told (Err e)) → AdmitsShelf book second (Err e)
    unfolding refusal of_check
    checks_second e y = shelf-refused e (at (Book.sound other) (check-number other _ y) ∙ sym books_are)
      where
        at : (s : Bool) → refusal_number e ≡ cond (not s) 4 0 → refusal_number e ≡ first_of (Book.sound book && s) (eqb (length (texts books)) 0) apart
        at true q = absurd (numbered e q)
        at false q = rw (check_sound book _ x refl) q

    module _ (m : ℕ) (y : CheckDone other (checked_told (Ok m))) where
      pub checks_counted : CountsOf books (record { first = n; all = n + m })
      checks_counted =
          record {
            sound-first = check_sound book _ x refl;
            sound-second = check_sound other _ y refl;
            first = check-texts book _ x refl;
            all = omega (arith, check-texts book _ x refl, check-texts other _ y refl, two_length book other);
          }

      pub checks_fit : (n ≤ stored_most) × (m ≤ stored_most)
      checks_fit = (
        omega (arith, check-texts book _ x refl, sound-most book (check_sound book _ x refl)),
        omega (arith, check-texts other _ y refl, sound-most other (check_sound other _ y refl)),
      )

      rows_are : of_lent ≡ cond (eqb (length (texts books)) 0) 5 (cond apart 15 0)
      rows_are = books_are ∙ rw (check_sound book _ x refl, check_sound other _ y refl)

      pub checks_none : n + m ≡ 0 → AdmitsShelf book second (Err refused.BookEmpty)
      checks_none k = shelf-refused refused.BookEmpty (sym (rows_are ∙ rw (eq-eqb (length (texts books)) 0 (sym checks_counted.all ∙ k))))

      module _ (k : n + m ≡ 0 → ⊥) where
        editions_are : of_lent ≡ cond apart 15 0
        editions_are = rows_are ∙ rw (ne_eqb (length (texts books)) 0 (λ e. k (checks_counted.all ∙ e)))

        pub checks_apart : apart ≡ true → AdmitsShelf book second (Err refused.EditionsDiffer)
        checks_apart q = shelf-refused refused.EditionsDiffer (sym (editions_are ∙ rw q))

        pub checks_some : apart ≡ false → AdmitsShelf book second (Ok (record { first = n; all = n + m }))
        unfolding number_told
        checks_some q = record { number = sym (editions_are ∙ rw q); texts = checks_counted }

-- ---- the editions of the lent books
abbrev pub apart_from : List ℕ → Option (List ℕ) → Bool
apart_from book None = false
apart_from book (Some second) = not (eqb (Book.edition second) (Book.edition book))

pub apart-lent : (book : List ℕ) (second : Option (List ℕ)) → apart_from book second ≡ Book.differ (books_lent book second)
unfolding Book.differ Book.all_of
apart-lent book None = refl
apart-lent book (Some second) = ap not (sym (and_true (eqb (Book.edition second) (Book.edition book))))

-- ---- rows, then others: a refusal by the first, a refusal by the others, and none
module _ (t : List ℕ) (books : Shelf) (first rest : List Row) where
  pub both_first : (e : Refusal) → Admits t books first (Err e) → Admits t books (first ++ rest) (Err e)
  unfolding number_told
  both_first e h = record { number = h.number ∙ sym (refusal-first first rest (λ z. numbered e (h.number ∙ z))); lines = tt; texts = tt }

  module _ (n : Numbered first) {a : Admitted} (h : Admits t books first (Ok a)) where
    pub then_refused : (e : Refusal) → refusal_number e ≡ refusal rest → Admits t books (first ++ rest) (Err e)
    unfolding number_told
    then_refused e q = record { number = q ∙ sym (refusal_then first rest n (sym h.number)); lines = tt; texts = tt }

    pub then_passed : 0 ≡ refusal rest → Admits t books (first ++ rest) (Ok a)
    unfolding number_told
    then_passed q = record { number = q ∙ sym (refusal_then first rest n (sym h.number)); lines = h.lines; texts = h.texts }

-- ---- refusals 1 to 5 and 15
text-numbered : (e : ℕ) (t : List ℕ) → Numbered (of_text e t)
unfolding of_text all_early early
text-numbered e t = refl

pub both-numbered : (t : List ℕ) (bs : List (List ℕ)) → Numbered (both_rows t bs)
unfolding of_text of_books all_early early
both-numbered t bs = refl

-- a text beside lent books that is refused by the first row of either that applies
pub text-refused : (t book : List ℕ) (second : Option (List ℕ)) (e : Refusal) → refusal_number e ≡ refusal (both_rows t (books_lent book second)) →
    AdmitsBooks t book second (Err e)
unfolding number_told
text-refused t book second e h = record { number = h; lines = tt; texts = tt }

-- of a text, tested under the first book's edition
module _ (t book : List ℕ) (second : Option (List ℕ)) (m : ℕ) (w : m ≡ Book.edition book) where
  abbrev said : ℕ
  said = Book.edition_of (books_lent book second)

  abbrev rest : List Row
  rest = of_books (books_lent book second)

  tested : {r : Result ℕ Refusal} → AsTested m t r → number_told r ≡ refusal (of_text said t)
  tested h = h.number ∙ ap (λ (e : ℕ). refusal (of_text e t)) (w ∙ sym (first_said book second))

  pub text_untaken : (e : Refusal) → AsTested m t (Err e) → AdmitsBooks t book second (Err e)
  unfolding number_told
  text_untaken e h = text-refused t book second e (tested h ∙ sym (refusal-first (of_text said t) rest (λ z. numbered e (tested h ∙ z))))

  module _ (n : ℕ) (h : AsTested m t (Ok n)) where
    books_decide : refusal (both_rows t (books_lent book second)) ≡ refusal rest
    unfolding number_told
    books_decide = refusal_then (of_text said t) rest (text-numbered said t) (sym (tested h))

    pub books-refused : (e : Refusal) → AdmitsShelf book second (Err e) → AdmitsBooks t book second (Err e)
    unfolding number_told
    books-refused e q = record { number = q.number ∙ sym books_decide; lines = tt; texts = tt }

    pub books_admitted : (x : Counts) → AdmitsShelf book second (Ok x) → AdmitsBooks t book second (Ok (record { lines = n; texts = x }))
    unfolding number_told
    books_admitted x q = record { number = q.number ∙ sym books_decide; lines = h.lines; texts = q.texts }

-- ---- a refusal before any work, of any lent books
view-numbered : (t : List ℕ) (bs : List (List ℕ)) (v : View) (k : ℕ) (a : Areas) → Numbered (of_view t bs v k a)
unfolding of_view of_text of_books all_early early
view-numbered t bs v k a = refl

view-early : (t : List ℕ) (bs : List (List ℕ)) (v : View) (k : ℕ) (a : Areas) → (refusal (of_view t bs v k a) ≡ 0 → ⊥) → early (refusal (of_view t bs v k a)) ≡ true
view-early t bs v k a = refusal-early (of_view t bs v k a) (view-numbered t bs v k a)

pub scan-early : (t : List ℕ) (bs : List (List ℕ)) (lim : Limits) (mode : Mode) (a : Areas) (results : ℕ) → (refusal (before_scan t bs lim mode a results) ≡ 0 → ⊥) →
    early (refusal (before_scan t bs lim mode a results)) ≡ true
scan-early t bs lim mode a results = refusal-early (before_scan t bs lim mode a results) (scan-numbered t bs lim mode a results)

-- ---- what holds where nothing is refused
none_first : (rs qs : List Row) → refusal (rs ++ qs) ≡ 0 → refusal rs ≡ 0
none_first rs qs h = at (eqb (refusal rs) 0) refl
  where
    at : (b : Bool) → eqb (refusal rs) 0 ≡ b → refusal rs ≡ 0
    at true q = eqb-true _ _ q
    at false q = let k = eqb-false (refusal rs) 0 q in absurd (k (sym (refusal-first rs qs k) ∙ h))

pub through : (t book : List ℕ) (second : Option (List ℕ)) → refusal (both_rows t (books_lent book second)) ≡ 0 → Through t (shelf_lent book second)
unfolding of_books
through t book second h =
    let bs = books_lent book second in
    let e = Book.edition_of bs in
    let all = Book.shelved 0 bs in
    let z = none_first (of_text e t) (of_books bs) h in
    let a = row-passes 3 (not (Book.all_sound bs)) _ (sym (refusal_then (of_text e t) (of_books bs) (text-numbered e t) z) ∙ h) in
    let b = row-passes 4 (eqb (length all) 0) _ a.1 in
    let k = eqb-false (length all) 0 b.0 in
    record { text = passed_text e t z; few = text-few e t z; some = omega (arith, k, ap length (lent-read book second).texts) }

pub both_through : (t book : List ℕ) (second : Option (List ℕ)) {a : Admitted} → AdmitsBooks t book second (Ok a) → Through t (shelf_lent book second)
unfolding number_told
both_through t book second h = through t book second (sym h.number)

-- ---- compile
module _ (e : ℕ) (t : List ℕ) (a : Areas) where
  compile_rows_lem : before_compile e t a ≡ of_text e t ++ compile_rows (length t) e a
  unfolding before_compile compile_rows small
  compile_rows_lem = refl

  pub compile-first : (refusal (of_text e t) ≡ 0 → ⊥) → refusal (of_text e t) ≡ refusal (before_compile e t a)
  compile-first k = sym (ap refusal compile_rows_lem ∙ refusal-first (of_text e t) (compile_rows (length t) e a) k)

  pub compile_then : refusal (of_text e t) ≡ 0 → refusal (compile_rows (length t) e a) ≡ refusal (before_compile e t a)
  compile_then z = sym (ap refusal compile_rows_lem ∙ refusal_then (of_text e t) (compile_rows (length t) e a) (text-numbered e t) z)

  pub compile-early : (refusal (before_compile e t a) ≡ 0 → ⊥) → early (refusal (before_compile e t a)) ≡ true
  compile-early = refusal-early (before_compile e t a) (compile-numbered e t a)

  pub record CompileThrough : Type 0 where
    pub text : Passed t
    pub bytes : byte_area (length t) ≤ a.bytes
    pub words : word_area (length t) ≤ a.words

  pub compile_through : refusal (before_compile e t a) ≡ 0 → CompileThrough
  unfolding compile_rows
  compile_through h =
      let z = none_first (of_text e t) (compile_rows (length t) e a) (sym (ap refusal compile_rows_lem) ∙ h) in
      let x = row-passes 3 (not (within 1 edition_most e)) _ (compile_then z ∙ h) in
      let w = neither _ _ (row-passes 9 (small_for (length t) a) [] x.1).0 in
      record { text = passed_text e t z; bytes = ltb-false _ _ w.0; words = ltb-false _ _ w.1 }

-- ---- a view
module _ (t book : List ℕ) (second : Option (List ℕ)) (v : View) (k : ℕ) (a : Areas) where
  abbrev row_of_view : List Row
  row_of_view = view_rows (length t) (line_count t) (length (texts (shelf_lent book second))) v k a

  pub view_rows_lem : of_view t (books_lent book second) v k a ≡ both_rows t (books_lent book second) ++ row_of_view
  unfolding of_view of_text of_books view_rows small
  view_rows_lem =
      ap (λ (n : ℕ). both_rows t (books_lent book second) ++ view_rows (length t) (line_count t) n v k a) (ap length (lent-read book second).texts)

  pub view_through : refusal (of_view t (books_lent book second) v k a) ≡ 0 → ViewThrough t (shelf_lent book second) v k a
  unfolding view_rows
  view_through h =
      let first = both_rows t (books_lent book second) in
      let e = ap refusal (sym view_rows_lem) ∙ h in
      let z = none_first first row_of_view e in
      let x = row-passes 7 (not (leb v.start v.end && leb v.end (line_count t))) _ (sym (refusal_then first row_of_view (both-numbered t (books_lent book second)) z) ∙ e) in
      let y = row-passes 8 (leb (length (texts (shelf_lent book second))) k) _ x.1 in
      let w = neither _ _ (row-passes 9 (small_for (length t) a) [] y.1).0 in
      let i = not-false _ x.0 in
      record {
        both = through t book second z;
        start = leb-true _ _ (and_left _ (leb v.end (line_count t)) i);
        end = leb-true _ _ (and_right (leb v.start v.end) _ i);
        number = leb-false _ _ y.0;
        bytes = ltb-false _ _ w.0;
        words = ltb-false _ _ w.1;
      }

  -- the work below asks this, and no more
  pub view_admitted : {x : Admitted} → AdmitsView t book second v k a (Ok x) → ViewThrough t (shelf_lent book second) v k a × CountsOf (shelf_lent book second) x.texts
  unfolding number_told
  view_admitted h = (view_through (sym h.number), h.texts)

-- a refusal leaves both areas as they were
pub view-kept : (t : List ℕ) (bs : List (List ℕ)) (v : View) (k : ℕ) (b w : List ℕ) (n : ℕ) → n ≡ refusal (of_view t bs v k (lent b w)) → (n ≡ 0 → ⊥) → BothAfter n b b w w
view-kept t bs v k b w n e q =
    let h : early n ≡ true = rw e (view-early t bs v k (lent b w) (λ z. q (e ∙ z))) in
    record { bytes = kept n b h; words = kept n w h }

-- ---- a scan
module _ (t book : List ℕ) (second : Option (List ℕ)) (lim : Limits) (mode : Mode) (a : Areas) (results : ℕ) where
  abbrev row_of_scan : List Row
  row_of_scan = scan_rows (length t) (line_count t) lim mode a results

  pub scan_rows_lem : before_scan t (books_lent book second) lim mode a results ≡ both_rows t (books_lent book second) ++ row_of_scan
  unfolding before_scan of_text of_books scan_rows small
  scan_rows_lem = refl

  pub scan_through : refusal (before_scan t (books_lent book second) lim mode a results) ≡ 0 → ScanThrough t (shelf_lent book second) lim mode a results
  unfolding scan_rows
  scan_through h =
      let first = both_rows t (books_lent book second) in
      let e = ap refusal (sym scan_rows_lem) ∙ h in
      let z = none_first first row_of_scan e in
      let x = row-passes 5 (not (unit lim.threshold && unit lim.shallow)) _ (sym (refusal_then first row_of_scan (both-numbered t (books_lent book second)) z) ∙ e) in
      let y = row-passes 6 (step_zero mode) _ x.1 in
      let w = neither _ _ (row-passes 9 (small_for (length t) a || ltb results (results_need (line_count t) lim mode)) [] y.1).0 in
      let s = neither _ _ w.0 in
      let i = not-false _ x.0 in
      record {
        both = through t book second z;
        threshold = and_left _ (unit lim.shallow) i;
        shallow = and_right (unit lim.threshold) _ i;
        step = y.0;
        bytes = ltb-false _ _ s.0;
        words = ltb-false _ _ s.1;
        room = ltb-false _ _ w.1;
      }

  -- the work below asks this, and no more
  pub scan_admitted : {x : Admitted} → AdmitsScan t book second lim mode a results (Ok x) → ScanThrough t (shelf_lent book second) lim mode a results × CountsOf (shelf_lent book second) x.texts
  unfolding number_told
  scan_admitted h = (scan_through (sym h.number), h.texts)
