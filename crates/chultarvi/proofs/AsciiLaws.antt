-- A text of ASCII is answered under edition 3 as under edition 2: compile writes the same (`compile_as`, `output_as`), and beside books whose first
-- record says 3 every job answers, and leaves in lent memory, what it does beside the same books with a 2 there (`score_as`, `bounds_as`,
-- `scan_as`, `results_as`, `name_as`), wherever these are sound (`editions_alike`).
-- Assumes nothing.
use mathlib.Core.Path.{◌≡◌, refl, sym, ap, ◌∙◌}
use mathlib.Core.Bool.{Bool, true, false, ◌&&◌, cond}
use mathlib.Core.List.{List, [], ◌∷◌, ◌++◌, map}
use mathlib.Core.Option.{Option, none, some}
use Prim.Native.Nat.{ℕ, ◌+◌}
use native.Mathlib.Omega.{arith}
use lib.Dec.{leb}
use lib.ListN.{length}
use borrow.Author.Tests.{le-leb}
use Rattle.rules.specs.declared.Areas.{Areas}
use Rattle.rules.specs.declared.Limits.{Limits}
use Rattle.rules.specs.declared.Mode.{Mode}
use Rattle.rules.specs.declared.Named.{Named}
use Rattle.rules.specs.Sizes.{book_most, stored_most}
use Rattle.rules.specs.Bytes.{within}
use Rattle.rules.specs.Points.{ascii, wide, taken}
use Rattle.rules.specs.Lines.{slip, gap, lines}
use Rattle.rules.specs.declared.View.{View}
use Rattle.rules.specs.Search.{Stored}
use Rattle.rules.specs.Book.{number, Piece, Front, front, whole, broken, record_form, Record, record_of, records_of, also, go_on, placed, record_at, sound_edition, sound_body, follows, sound_records, stored_kind, stored_in, stored_of, stored_from, stored, said_by, said_at, edition, filled, sound, shelved, all_sound, edition_of, all_of, differ, names_in, names_of, name_parts, compiled}
use Rattle.rules.specs.Refusal.{of_text, of_books, before_compile, of_compile, of_view, of_name, over_budget, before_scan, of_scan}
use Rattle.rules.specs.Jobs.{compile, output_after, score_job, bounds_job, happened, scan, results_after, name_job, numbered}
use Rattle.rules.proofs.BoolLaws.{and_left, and_right, and_both}
use Rattle.rules.proofs.PointLaws.{ascii-taken}
use Rattle.rules.proofs.Steps.{pieces_step}
use Rattle.chultarvi.proofs.AnyLaws.{any-records}

-- ---- the lines are the same for every text
pub same_lines : (t : List ℕ) → lines 3 t ≡ lines 2 t
unfolding lines gap slip
same_lines t = refl

-- ---- compile
module _ (t : List ℕ) (p : ascii t ≡ true) where
  text_as : of_text 3 t ≡ of_text 2 t
  unfolding of_text
  text_as = rw (ascii-taken (wide 3) t p, ascii-taken (wide 2) t p)

  module _ (a : Areas) where
    rows_as : (out : ℕ) → of_compile 3 t a out ≡ of_compile 2 t a out
    unfolding of_compile before_compile compiled within
    rows_as out = rw (text_as, same_lines t)

    pub compile_as : (out : ℕ) → compile 3 t a out ≡ compile 2 t a out
    unfolding compile compiled
    compile_as out = rw (rows_as out, same_lines t)

    pub output_as : (out : List ℕ) → output_after 3 t a out ≡ output_after 2 t a out
    unfolding output_after compiled
    output_as out = rw (rows_as (length out), same_lines t)

-- ---- lent books that differ in nothing that an answer to this text shows
pub record Alike (t : List ℕ) (bs cs : List (List ℕ)) : Type 0 where
  pub takes : taken (wide (edition_of cs)) t ≡ taken (wide (edition_of bs)) t
  pub reads : lines (edition_of cs) t ≡ lines (edition_of bs) t
  pub sounds : all_sound cs ≡ all_sound bs
  pub texts : shelved 0 cs ≡ shelved 0 bs
  pub names : name_parts false cs ≡ name_parts false bs
  pub apart : differ cs ≡ differ bs

module _ {t : List ℕ} {bs cs : List (List ℕ)} (s : Alike t bs cs) where
  books_as : of_books cs ≡ of_books bs
  unfolding of_books
  books_as = rw (s.sounds, s.texts, s.apart)

  lent_as : of_text (edition_of cs) t ≡ of_text (edition_of bs) t
  unfolding of_text
  lent_as = rw s.takes

  module _ (v : View) (k : ℕ) (a : Areas) where
    view_as : of_view t cs v k a ≡ of_view t bs v k a
    unfolding of_view
    view_as = rw (lent_as, books_as, s.texts)

    pub score_as : score_job t cs v k a ≡ score_job t bs v k a
    unfolding score_job
    score_as = rw (view_as, s.reads, s.texts)

    pub bounds_as : bounds_job t cs v k a ≡ bounds_job t bs v k a
    unfolding bounds_job
    bounds_as = rw (view_as, s.reads, s.texts)

  module _ (lim : Limits) (mode : Mode) (b : ℕ) (a : Areas) where
    rows_of : (results : ℕ) → of_scan t cs lim mode b a results ≡ of_scan t bs lim mode b a results
    unfolding of_scan before_scan over_budget
    rows_of results = rw (lent_as, books_as, s.reads, s.texts)

    happened_as : (results : ℕ) → happened t cs lim mode b a results ≡ happened t bs lim mode b a results
    unfolding happened
    happened_as results = rw (rows_of results, s.reads, s.texts)

    pub scan_as : (results : ℕ) → scan t cs lim mode b a results ≡ scan t bs lim mode b a results
    unfolding scan
    scan_as results = rw (rows_of results, happened_as results, s.names)

    pub results_as : (old : List ℕ) → results_after t cs lim mode b a old ≡ results_after t bs lim mode b a old
    unfolding results_after
    results_as old = rw (happened_as (length old))

  pub name_as : (k : ℕ) → name_job cs k ≡ name_job bs k
  unfolding name_job of_name numbered
  name_as k = rw (books_as, s.texts, s.names)

-- ---- a book that begins with the record of edition e
abbrev pub saying : ℕ → List ℕ → List ℕ
saying e rest = 2 ∷ 0 ∷ 0 ∷ 0 ∷ 6 ∷ 0 ∷ e ∷ 0 ∷ rest

-- where names stand, and what is sound, in what follows it
names_behind : Bool → Option (List Record) → List Named
names_behind second none = []
names_behind second (some rs) = names_in second 8 (record { second = second; at = 0; len = 0 }) rs

sound_behind : Bool → Option (List Record) → Bool
sound_behind w none = false
sound_behind w (some rs) = sound_records w 6 [] rs

module _ (e : ℕ) (rest : List ℕ) where
  abbrev first : Record
  first = record { kind = 6; body = e ∷ 0 ∷ [] }

  abbrev piece : Piece
  piece = record { head = 2 ∷ 0 ∷ 0 ∷ 0 ∷ 6 ∷ 0 ∷ []; body = e ∷ 0 ∷ [] }

  front-is : front record_form (saying e rest) ≡ whole piece rest
  unfolding front number
  front-is = at (leb 8 (length (saying e rest))) (le-leb 8 (length (saying e rest)) (omega arith))
    where
      at : (b : Bool) → b ≡ true → ◌≡◌ {A = Front} (cond b (whole piece rest) broken) (whole piece rest)
      at b q = rw q

  records_is : records_of (saying e rest) ≡ also first (records_of rest)
  unfolding records_of record_of number go_on
  records_is = pieces_step record_form record_of (omega arith) (saying e rest) ∙ ap (go_on record_of records_of) front-is

  stored_is : (n : ℕ) → stored_from n (saying e rest) ≡ stored_from n rest
  unfolding stored_from stored_of also stored_in stored_kind within
  stored_is n = ap (stored_of n) records_is ∙ at (records_of rest)
    where
      at : (o : Option (List Record)) → stored_of n (also first o) ≡ stored_of n o
      at none = refl
      at (some rs) = refl

  -- what follows it stands eight bytes on
  names-is : (second : Bool) → names_of second (records_of (saying e rest)) ≡ names_behind second (records_of rest)
  unfolding names_of names_behind also names_in stored_kind within
  names-is second = ap (names_of second) records_is ∙ at (records_of rest)
    where
      at : (o : Option (List Record)) → names_of second (also first o) ≡ names_behind second o
      at none = refl
      at (some rs) = refl

  filled_is : (w : Bool) → sound_edition (e ∷ 0 ∷ []) ≡ true → filled w (records_of (saying e rest)) ≡ sound_behind w (records_of rest)
  unfolding filled sound_behind also sound_records sound_body follows stored_kind within
  filled_is w h = ap (filled w) records_is ∙ at (records_of rest)
    where
      at : (o : Option (List Record)) → filled w (also first o) ≡ sound_behind w o
      at none = refl
      at (some rs) = rw h

said_two : (rest : List ℕ) → edition (saying 2 rest) ≡ 2
unfolding edition record_at placed record_of said_at said_by sound_edition number within
said_two rest = rw (front-is 2 rest)

said_three : (rest : List ℕ) → edition (saying 3 rest) ≡ 3
unfolding edition record_at placed record_of said_at said_by sound_edition number within
said_three rest = rw (front-is 3 rest)

sound_two : sound_edition (2 ∷ 0 ∷ []) ≡ true
unfolding sound_edition number within
sound_two = refl

sound_three : sound_edition (3 ∷ 0 ∷ []) ≡ true
unfolding sound_edition number within
sound_three = refl

-- words of ASCII are words of edition 3
sound_again : (rest : List ℕ) → sound (saying 2 rest) ≡ true → sound (saying 3 rest) ≡ true
unfolding sound stored wide sound_behind
sound_again rest h =
    let size = leb (length (saying 2 rest)) book_most in
    let two : Bool = filled false (records_of (saying 2 rest)) in
    let few = leb (length (stored_from 0 rest)) stored_most in
    let k : size && two && few ≡ true = rw (said_two rest, stored_is 2 rest 0) at h in
    let front = and_left (size && two) few k in
    let body = sym (filled_is 2 rest false sound_two) ∙ and_right size two front in
    rw (said_three rest, stored_is 3 rest 0)
    (and_both (size && filled true (records_of (saying 3 rest))) few
    (and_both size (filled true (records_of (saying 3 rest))) (and_left size two front) (filled_is 3 rest true sound_three ∙ at (records_of rest) body))
    (and_right (size && two) few k))
  where
    at : (o : Option (List Record)) → sound_behind false o ≡ true → sound_behind true o ≡ true
    at none k = k
    at (some rs) k = any-records true 6 [] rs k

-- ---- lent books, each of them
module _ (t : List ℕ) (p : ascii t ≡ true) where
  said_as : (rs : List (List ℕ)) → lines (edition_of (map (saying 3) rs)) t ≡ lines (edition_of (map (saying 2) rs)) t
  unfolding edition_of
  said_as [] = refl
  said_as (r ∷ rs) = rw (said_three r, said_two r) (same_lines t)

  all_again : (rs : List (List ℕ)) → all_sound (map (saying 2) rs) ≡ true → all_sound (map (saying 3) rs) ≡ true
  unfolding all_sound
  all_again [] h = refl
  all_again (r ∷ rs) h =
      let a = sound (saying 2 r) in
      let b = all_sound (map (saying 2) rs) in
      and_both (sound (saying 3 r)) (all_sound (map (saying 3) rs)) (sound_again r (and_left a b h)) (all_again rs (and_right a b h))

  texts_as : (n : ℕ) (rs : List (List ℕ)) → shelved n (map (saying 3) rs) ≡ shelved n (map (saying 2) rs)
  unfolding shelved
  texts_as n [] = refl
  texts_as n (r ∷ rs) = rw (stored_is 3 r n, stored_is 2 r n) (ap (λ (ss : List Stored). stored_from n r ++ ss) (texts_as (n + length (stored_from n r)) rs))

  parts_as : (second : Bool) (rs : List (List ℕ)) → name_parts second (map (saying 3) rs) ≡ name_parts second (map (saying 2) rs)
  unfolding name_parts
  parts_as second [] = refl
  parts_as second (r ∷ rs) = rw (names-is 3 r second, names-is 2 r second) (ap (λ (ps : List Named). names_behind second (records_of r) ++ ps) (parts_as true rs))

  two_all : (rs : List (List ℕ)) → all_of 2 (map (saying 2) rs) ≡ true
  unfolding all_of
  two_all [] = refl
  two_all (r ∷ rs) = rw (said_two r) (two_all rs)

  three_all : (rs : List (List ℕ)) → all_of 3 (map (saying 3) rs) ≡ true
  unfolding all_of
  three_all [] = refl
  three_all (r ∷ rs) = rw (said_three r) (three_all rs)

  apart_as : (rs : List (List ℕ)) → differ (map (saying 3) rs) ≡ differ (map (saying 2) rs)
  unfolding differ
  apart_as [] = refl
  apart_as (r ∷ rs) = rw (said_three r, said_two r, three_all rs, two_all rs)

  pub editions_alike : (rs : List (List ℕ)) → all_sound (map (saying 2) rs) ≡ true → Alike t (map (saying 2) rs) (map (saying 3) rs)
  editions_alike rs h =
      record {
        takes = ascii-taken (wide (edition_of (map (saying 3) rs))) t p ∙ sym (ascii-taken (wide (edition_of (map (saying 2) rs))) t p);
        reads = said_as rs;
        sounds = all_again rs h ∙ sym h;
        texts = texts_as 0 rs;
        names = parts_as false rs;
        apart = apart_as rs;
      }
