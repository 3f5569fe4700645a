-- A name's part of one of two lent books, and the place of a part.
-- Assumes nothing.
use Rattle.std.specs.Prelude.{ℕ, ◌+◌, Bool, cond, List, leb, length}
use Rattle.rules.specs.declared.Named.{Named}
use Rattle.rules.specs.Book.{no_part}

-- a name's part: one that does not lie in its book is the empty one at the first's start
abbrev pub lies : List ℕ → List ℕ → Named → Bool
lies a b p = leb (p.at + p.len) (length (cond p.second b a))

abbrev pub fitting : List ℕ → List ℕ → Named → Named
fitting a b p = cond (lies a b p) p no_part

-- the place of the byte at start, from the place of the first: a block and an offset in it
abbrev pub place_in : ℕ × ℕ → ℕ → ℕ × ℕ
place_in p start = (p.0, start + p.1)
