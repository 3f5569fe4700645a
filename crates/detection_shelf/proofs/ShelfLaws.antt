-- A row of two books: what stands in one of them is the row's.
--     text_known, stands-text      the text found is the definition's, in its book and over both
--     stands-part                  its name stands where the definition has it
--     stands-inside, stands-few    its number
--     before-both, after-stands    before the first text of all, and after any
--     lent-read, counted-sound     the lent books are read as these two; their texts are sound
-- Assumes nothing.
use mathlib.Core.Path.{◌≡◌, refl, sym, ap, ◌∙◌, subst}
use mathlib.Core.Bool.{Bool, true, false}
use mathlib.Core.List.{List, [], ◌∷◌, ◌++◌, append-nil}
use mathlib.Core.Option.{Option}
use Prim.Native.Nat.{ℕ, ◌+◌, ◌*◌, ◌≤◌, ◌<◌}
use native.Mathlib.Omega.{arith}
use lib.ListN.{length, get_or, get_or-append}
use lib.Seq.{get_or-append-add}
use Rattle.rules.specs.Sizes.{stored_most}
use Rattle.rules.specs.Search.{Stored, no_text}
use Rattle.rules.specs.declared.Named.{Named}
use Rattle.rules.specs.Told.{kind_number}
use Rattle.rules.specs.Book.{number, table_in, records_of, entries_of, stored, all_sound, no_part, names_of, name_parts, ReadAs}
use Rattle.rules.proofs.SoundLaws.{StoredSound, sound-most}
use Rattle.rules.proofs.ShelfLaws.{renumber, two_length, two_first, two_second, shelved-sound, names-length}
use Rattle.rules.proofs.DownLaws.{Each}
use Rattle.rules.proofs.NameLaws.{read_two, read_one}
use Rattle.detection_texts.specs.declared.texts.Text.{Text}
use Rattle.detection_shelf.specs.declared.Shelved.{Shelved}
use Rattle.detection_shelf.specs.declared.Spot.{Spot}
use Rattle.detection_shelf.specs.declared.Counts.{Counts}
use Rattle.lists.specs.Parts.{part}
use Rattle.detection_texts.specs.Texts.{name_at, Before, TextIs, Found}
use Rattle.detection_shelf.specs.Shelves.{Shelf, books_of, Lends, texts, book_in, ahead, CountsOf, BeforeOn, Stands, body_in, text_in, part_held, parts_of, first_spot, after_on}
use Rattle.detection_texts.proofs.TextLaws.{before-first, found_at}
use Rattle.detection_shelf.specs.Bodies.{table_of_body}

-- ---- the lent books, one or two
pub lent-read : (s : Shelf) (two : Bool) → Lends s two → ReadAs s.first s.second (books_of s two)
lent-read s true h = read_two s.first s.second
lent-read s false h = subst (λ (l : List ℕ). ReadAs s.first l (s.first ∷ [])) (sym (h refl)) (read_one s.first)

-- ---- the text found is the definition's
abbrev lone : List ℕ → Text → Stored
lone book t =
    record {
      number = t.number;
      name = part book t.name t.past;
      kind = kind_number t.kind;
      table = table_in (part book t.body t.end) (entries_of (part book t.body t.end));
    }

text_known : (book : List ℕ) (t : Stored) (r : Text) → TextIs book t r → lone book r ≡ t
unfolding table_in
text_known book t r h =
    let body = part book r.body r.end in
    ap (λ (o : Option (List _)). record { number = r.number; name = part book r.name r.past; kind = kind_number r.kind; table = table_in body o }) h.entries ∙ whole
  where
    whole : ◌≡◌ {A = Stored}
        (record { number = r.number; name = part book r.name r.past; kind = kind_number r.kind; table = record { total = number 4 (part book r.body r.end); entries = t.table.entries } })
        t
    whole = simp (h.numbered, h.name, h.kind, h.total)

pub stands-text : (s : Shelf) (t : Shelved) → Stands s t → get_or (texts s) t.number no_text ≡ text_in s t
unfolding text_in
stands-text s t h = at t.second refl h.found h.inside h.numbered
  where
    read : (b : Bool) → Stored
    read b =
        record {
          number = t.number;
          name = part (book_in s b) t.text.name t.text.past;
          kind = kind_number t.text.kind;
          table = table_in (part (book_in s b) t.text.body t.text.end) (entries_of (part (book_in s b) t.text.body t.text.end));
        }

    at : (b : Bool) → t.second ≡ b → Found (book_in s b) t.text.number t.text → t.text.number < length (stored (book_in s b)) →
        t.number ≡ ahead s b + t.text.number → get_or (texts s) t.number no_text ≡ read b
    at false q f i n =
        let e : t.number ≡ t.text.number = omega (arith, n) in
        let k = text_known s.first (get_or (stored s.first) t.text.number no_text) t.text f.is in
        ap (λ (k : ℕ). get_or (texts s) k no_text) e ∙ two_first s.first s.second t.text.number i ∙ sym k ∙
        ap (λ (k : ℕ). record { number = k; name = (read false).name; kind = kind_number t.text.kind; table = (read false).table }) (sym e)
    at true q f i n =
        let k = text_known s.second (get_or (stored s.second) t.text.number no_text) t.text f.is in
        ap (λ (k : ℕ). get_or (texts s) k no_text) n ∙ two_second s.first s.second t.text.number i ∙
        ap (renumber (length (stored s.first))) (sym k) ∙
        ap (λ (k : ℕ). record { number = k; name = (read true).name; kind = kind_number t.text.kind; table = (read true).table }) (sym n)

-- ---- where its name stands
pub stands-part : (s : Shelf) (t : Shelved) → Stands s t → get_or (parts_of s) t.number no_part ≡ part_held t
unfolding name_parts
stands-part s t h = at t.second (h.found.named t.second) h.inside h.numbered
  where
    ones : List Named
    ones = names_of false (records_of s.first)

    others : List Named
    others = names_of true (records_of s.second)

    at : (b : Bool) → get_or (names_of b (records_of (book_in s b))) t.text.number no_part ≡ name_at b t.text.name t.text.past →
        t.text.number < length (stored (book_in s b)) → t.number ≡ ahead s b + t.text.number →
        get_or (ones ++ (others ++ [])) t.number no_part ≡ name_at b t.text.name t.text.past
    at false f i n =
        let e : t.number ≡ t.text.number = omega (arith, n) in
        let l = names-length false s.first in
        ap (λ (k : ℕ). get_or (ones ++ (others ++ [])) k no_part) e ∙ get_or-append ones (others ++ []) no_part t.text.number (omega (arith, l, i)) ∙ f
    at true f i n =
        let e : t.number ≡ length ones + t.text.number = omega (arith, n, names-length false s.first) in
        ap (λ (k : ℕ). get_or (ones ++ (others ++ [])) k no_part) e ∙ get_or-append-add ones (others ++ []) t.text.number no_part ∙
        ap (λ (l : List Named). get_or l t.text.number no_part) (append-nil others) ∙ f

-- ---- its number
pub stands-inside : (s : Shelf) (t : Shelved) → Stands s t → t.number < length (texts s)
stands-inside s t h = at t.second h.inside h.numbered
  where
    at : (b : Bool) → t.text.number < length (stored (book_in s b)) → t.number ≡ ahead s b + t.text.number → t.number < length (texts s)
    at false i n = omega (arith, two_length s.first s.second)
    at true i n = omega (arith, two_length s.first s.second)

pub counted-most : (s : Shelf) (c : Counts) → CountsOf s c → length (texts s) ≤ 2 * stored_most
counted-most s c h = omega (arith, two_length s.first s.second, sound-most s.first h.sound-first, sound-most s.second h.sound-second)

pub counted-sound : (s : Shelf) (c : Counts) → CountsOf s c → Each StoredSound (texts s)
unfolding all_sound
counted-sound s c h = shelved-sound 0 (s.first ∷ s.second ∷ []) (rw (h.sound-first, h.sound-second))

pub counted-length : (s : Shelf) (c : Counts) → CountsOf s c → c.all ≡ c.first + length (stored s.second)
counted-length s c h = omega (arith, two_length s.first s.second, h.first, h.all)

-- ---- the walk
pub before-both : (s : Shelf) (c : Counts) → CountsOf s c → BeforeOn s first_spot
before-both s c h = record { before = before-first s.first h.sound-first; inside = omega arith; numbered = omega arith }

pub after-stands : (s : Shelf) (t : Shelved) → Stands s t → BeforeOn s (after_on t)
after-stands s t h = record { before = h.found.on; inside = omega (arith, h.inside); numbered = omega (arith, h.numbered) }

-- a spot by its book
pub spot_in : (s : Shelf) (p : Spot) (b : Bool) → BeforeOn s p → p.second ≡ b →
    Before (book_in s b) p.place × (p.place.number ≤ length (stored (book_in s b))) × (p.number ≡ ahead s b + p.place.number)
spot_in s p b h e = subst (λ (x : Bool). Before (book_in s x) p.place × (p.place.number ≤ length (stored (book_in s x))) × (p.number ≡ ahead s x + p.place.number)) e
    (h.before, h.inside, h.numbered)

-- text k of one book
pub stands_of : (s : Shelf) (b : Bool) (n k : ℕ) (t : Text) → Found (book_in s b) k t → k < length (stored (book_in s b)) → n ≡ ahead s b + k →
    Stands s (record { second = b; number = n; text = t })
stands_of s b n k t f i e =
    record { found = found_at (sym f.numbered) f; inside = omega (arith, f.numbered); numbered = omega (arith, f.numbered) }

-- its table's body lies in its book
pub body_fits : (s : Shelf) (t : Shelved) (b : Bool) → Stands s t → t.second ≡ b → (t.text.body ≤ t.text.end) × (t.text.end ≤ length (book_in s b))
body_fits s t b h e =
    let i = h.found.is in
    subst (λ (x : Bool). (t.text.body ≤ t.text.end) × (t.text.end ≤ length (book_in s x))) e (omega (arith, i.body-from), i.body-to)

pub stored-table : (books : Shelf) (t : Shelved) (k : ℕ) → Stands books t → t.number ≡ k → (get_or (texts books) k no_text).table ≡ table_of_body (body_in books t)
unfolding text_in table_of_body
stored-table books t k h e =
    ap (λ (n : ℕ). (get_or (texts books) n no_text).table) (sym e) ∙ ap (λ (x : Stored). x.table) (stands-text books t h)
