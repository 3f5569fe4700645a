-- A code point's class by a lent table, and the tables of the rules' classes, one for each edition.
-- Assumes nothing.
use Rattle.std.specs.Prelude.{◌≡◌, ℕ, Bool, ◌||◌, List, get_or}
use Rattle.lists.specs.Tables.{tab}
use Rattle.rules.specs.Bytes.{within}
use Rattle.rules.specs.Class.{class_of}

-- the class that table t gives x is from lo to hi
unfoldable pub in_class : List ℕ → ℕ → ℕ → ℕ → Bool
in_class t lo hi x = within lo hi (get_or t x 0)

-- it is from lo to hi, or from low to high
unfoldable pub in_either : List ℕ → ℕ → ℕ → ℕ → ℕ → ℕ → Bool
in_either t lo hi low high x = in_class t lo hi x || in_class t low high x

-- the ranges that the passes ask for, by a table that is lent
abbrev pub dropped_in : List ℕ → ℕ → Bool
dropped_in t = in_class t 1 2

-- pass 4's set
abbrev pub gap_in : List ℕ → ℕ → Bool
gap_in t = in_class t 2 5

abbrev pub kept_in : List ℕ → ℕ → Bool
kept_in t = in_class t 4 12

abbrev pub space_in : List ℕ → ℕ → Bool
space_in t = in_class t 5 8

abbrev pub vertical_in : List ℕ → ℕ → Bool
vertical_in t = in_class t 6 7

abbrev pub upper_in : List ℕ → ℕ → Bool
upper_in t = in_class t 11 11

-- the digit 4 where it has a class of its own, or one of the others
abbrev pub digit_in : List ℕ → ℕ → Bool
digit_in t = in_either t 4 4 9 9

-- the 256 classes of edition e
unfoldable pub class_table : ℕ → List ℕ
class_table e = tab 256 (class_of e)

-- a table of some edition: all that a pass asks of it that is the same in every edition
pub record Classes (t : List ℕ) : Type 0 where
  pub edition : ℕ
  pub table : t ≡ class_table edition
