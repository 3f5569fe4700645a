-- A stored text as the code finds it in a sound book: the parts of the book that are its name and its table; and a place between two.
-- Assumes nothing.
use Rattle.std.specs.Prelude.{◌≡◌, ℕ, ◌+◌, ◌-◌, ◌≤◌, ◌<◌, Bool, true, false, ◌&&◌, cond, List, [], ◌∷◌, eqb, length, get_or, drop}
use Rattle.std.proofs.Math.Option.{Option, none, some}
use Rattle.lists.specs.Parts.{part}
use Rattle.rules.specs.Sizes.{stored_most}
use Rattle.rules.specs.Points.{wide}
use Rattle.rules.specs.Search.{Stored, no_text}
use Rattle.rules.specs.Book.{number, Record, records_of, entries_of, shaped, sound_body, edition, stored_in, stored, names_in, no_part, names_of}
use Rattle.rules.specs.declared.Named.{Named}
use Rattle.rules.specs.Told.{kind_number}
use Rattle.detection_texts.specs.declared.texts.Place.{Place}
use Rattle.detection_texts.specs.declared.texts.Text.{Text}

-- the stored texts of the records that are left, from number n on, under `name`
unfoldable pub stored_left : ℕ → List ℕ → Option (List Record) → List Stored
stored_left n name none = []
stored_left n name (some rs) = stored_in n name rs

-- the name book[from..to] of one of two books, and where the names of those texts stand, the next record at `place`
abbrev pub name_at : Bool → ℕ → ℕ → Named
name_at second from to = record { second = second; at = from; len = to - from }

unfoldable pub names_from : Bool → ℕ → Named → Option (List Record) → List Named
names_from second place p none = []
names_from second place p (some rs) = names_in second place p rs

-- each of them has a sound body, `w`: with words in UTF-8
unfoldable pub each_body_sound : Bool → List Record → Bool
each_body_sound w [] = true
each_body_sound w (r ∷ rs) = sound_body w r && each_body_sound w rs

unfoldable pub sound_bodies : Bool → Option (List Record) → Bool
sound_bodies w none = false
sound_bodies w (some rs) = each_body_sound w rs

-- p stands before stored text p.number: those that are left are those from there on
pub record Before (book : List ℕ) (p : Place) : Type 0 where
  pub at : p.at ≤ length book
  pub name : p.name ≤ p.past
  pub past : p.past ≤ length book
  pub few : length (stored book) ≤ stored_most
  pub bodies : sound_bodies (wide (edition book)) (records_of (drop p.at book)) ≡ true
  pub texts : stored_left p.number (part book p.name p.past) (records_of (drop p.at book)) ≡ drop p.number (stored book)
  pub names : (second : Bool) → names_from second p.at (name_at second p.name p.past) (records_of (drop p.at book)) ≡ drop p.number (names_of second (records_of book))

-- r is the stored text t: its table's body, which is in shape, lent as a part gives t's table
pub record TextIs (book : List ℕ) (t : Stored) (r : Text) : Type 0 where
  pub name-from : r.name ≤ r.past
  pub name-to : r.past ≤ length book
  pub name : part book r.name r.past ≡ t.name
  pub kind : kind_number r.kind ≡ t.kind
  pub numbered : r.number ≡ t.number
  pub body-from : r.body + 8 ≤ r.end
  pub body-to : r.end ≤ length book
  pub total : number 4 (part book r.body r.end) ≡ t.table.total
  pub entries : entries_of (part book r.body r.end) ≡ some t.table.entries
  pub sound : shaped (part book r.body r.end) (entries_of (part book r.body r.end)) ≡ true

abbrev pub first_place : Place
first_place = record { number = 0; at = 0; name = 0; past = 0 }

abbrev pub after_text : Text → Place
after_text t = record { number = t.number + 1; at = t.end; name = t.name; past = t.past }

unfoldable pub passed_by : Place → ℕ → ℕ → ℕ → Place
passed_by p kind start end =
    cond (eqb kind 1) (record { number = p.number; at = end; name = start; past = end })
    (record { number = p.number; at = end; name = p.name; past = p.past })

-- r is stored text k, its name stands where the definition has it, and the walk goes on after it
pub record Found (book : List ℕ) (k : ℕ) (r : Text) : Type 0 where
  pub is : TextIs book (get_or (stored book) k no_text) r
  pub numbered : r.number ≡ k
  pub below : k < stored_most
  pub named : (second : Bool) → get_or (names_of second (records_of book)) k no_part ≡ name_at second r.name r.past
  pub on : Before book (after_text r)
