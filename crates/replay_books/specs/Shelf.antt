-- A book with one record more behind its end, or as it was where the record does not fit or its text is refused.
-- Assumes nothing.
use Rattle.std.specs.Prelude.{cond, List, [], ◌++◌, ℕ, ◌%◌, eqb, ltb, length, take}
use Rattle.lists.specs.Wrote.{InFront}
use Rattle.rules.specs.Book.{written}

-- the head of a record whose body has so many bytes
abbrev pub head_out : ℕ → ℕ → List ℕ
head_out len kind = written 4 len ++ written 2 kind

-- b₀ is the book's array before, `at` its end then, r its end in b
pub data Grown (at kind : ℕ) (body b₀ : List ℕ) (r : ℕ) (b : List ℕ) : Type 0 where
  stays : InFront (take at b₀) r b → Grown at kind body b₀ r b
  grows : InFront ((take at b₀ ++ head_out (length body) kind) ++ body) r b → Grown at kind body b₀ r b

-- what a book of edition e begins with, where there is so much room: the record that says the edition, which a book of the first has not
unfoldable pub opening : ℕ → ℕ → List ℕ
opening e room = cond (eqb e 1) [] (cond (ltb room 8) [] (head_out 2 6 ++ written 2 (e % 65536)))
