-- The books that are lent: the first, and the second where there is one; and both as one shelf, on which a second that is not lent has no bytes.
-- Assumes nothing.
use Rattle.std.specs.Prelude.{ℕ, List, [], ◌∷◌, Option, option_to_list, unwrap_or}
use Rattle.detection_shelf.specs.Shelves.{Shelf, shelf}

abbrev pub books_lent : List ℕ → Option (List ℕ) → List (List ℕ)
books_lent book second = book ∷ option_to_list second

abbrev pub shelf_lent : List ℕ → Option (List ℕ) → Shelf
shelf_lent book second = shelf book (unwrap_or second [])
