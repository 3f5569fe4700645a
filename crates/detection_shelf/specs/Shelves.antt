-- Two lent books read as one row of stored texts, which count on from the first into the second: a text of theirs, and a place between two.
-- Assumes nothing.
use Rattle.std.specs.Prelude.{◌≡◌, ℕ, ◌+◌, ◌≤◌, ◌<◌, Bool, true, false, cond, List, [], ◌∷◌, length}
use Rattle.rules.specs.declared.Named.{Named}
use Rattle.rules.specs.Told.{kind_number}
use Rattle.rules.specs.Search.{Stored}
use Rattle.rules.specs.Book.{entries_of, table_in, stored, sound, shelved, name_parts}
use Rattle.detection_shelf.specs.declared.Counts.{Counts}
use Rattle.detection_shelf.specs.declared.Shelved.{Shelved}
use Rattle.detection_shelf.specs.declared.Spot.{Spot}
use Rattle.lists.specs.Parts.{part}
use Rattle.detection_texts.specs.Texts.{name_at, Before, Found, first_place, after_text}

pub record Shelf : Type 0 where
  pub first : List ℕ
  pub second : List ℕ

abbrev pub shelf : List ℕ → List ℕ → Shelf
shelf a b = record { first = a; second = b }

-- the lent books, as the definitions take them: `two` says whether the second is lent, and one that is not has no bytes
abbrev pub books_of : Shelf → Bool → List (List ℕ)
books_of s two = s.first ∷ cond two (s.second ∷ []) []

abbrev pub Lends : Shelf → Bool → Type 0
Lends s two = two ≡ false → s.second ≡ []

-- all stored texts
abbrev pub texts : Shelf → List Stored
texts s = shelved 0 (s.first ∷ s.second ∷ [])

-- one of the two books, and how many texts come before its own
abbrev pub book_in : Shelf → Bool → List ℕ
book_in s second = cond second s.second s.first

abbrev pub ahead : Shelf → Bool → ℕ
ahead s second = cond second (length (stored s.first)) 0

-- both are sound, and so many texts are theirs
pub record CountsOf (s : Shelf) (c : Counts) : Type 0 where
  pub sound-first : sound s.first ≡ true
  pub sound-second : sound s.second ≡ true
  pub first : c.first ≡ length (stored s.first)
  pub all : c.all ≡ length (texts s)

-- p stands before stored text p.number
pub record BeforeOn (s : Shelf) (p : Spot) : Type 0 where
  pub before : Before (book_in s p.second) p.place
  pub inside : p.place.number ≤ length (stored (book_in s p.second))
  pub numbered : p.number ≡ ahead s p.second + p.place.number

-- t is stored text t.number
pub record Stands (s : Shelf) (t : Shelved) : Type 0 where
  pub found : Found (book_in s t.second) t.text.number t.text
  pub inside : t.text.number < length (stored (book_in s t.second))
  pub numbered : t.number ≡ ahead s t.second + t.text.number

-- its table's body, and what the definition has of it
abbrev pub body_in : Shelf → Shelved → List ℕ
body_in s t = part (book_in s t.second) t.text.body t.text.end

unfoldable pub text_in : Shelf → Shelved → Stored
text_in s t =
    record {
      number = t.number;
      name = part (book_in s t.second) t.text.name t.text.past;
      kind = kind_number t.text.kind;
      table = table_in (body_in s t) (entries_of (body_in s t));
    }

-- where its name stands, and where the definition has the names of all
abbrev pub part_held : Shelved → Named
part_held t = name_at t.second t.text.name t.text.past

abbrev pub parts_of : Shelf → List Named
parts_of s = name_parts false (s.first ∷ s.second ∷ [])

abbrev pub first_spot : Spot
first_spot = record { second = false; number = 0; place = first_place }

abbrev pub after_on : Shelved → Spot
after_on t = record { second = t.second; number = t.number + 1; place = after_text t.text }
