-- The line table: entry i is where line i starts and ends in the byte area, at 2i and 2i + 1.
-- Assumes nothing.
use Rattle.std.specs.Prelude.{◌≡◌, List, [], ◌∷◌, ℕ, zero, suc, ◌+◌, ◌*◌, ◌≤◌, ◌<◌, get_or, set}
use Rattle.std.proofs.Math.Seq.{slice}
use Rattle.rules.specs.Search.{blank}

-- where the line table of a text of n bytes ends in the words, and where a view begins in its byte area, behind all lines
abbrev pub table_end : ℕ → ℕ
table_end n = 2 * n + 2

abbrev pub view_start : ℕ → ℕ
view_start n = 4 * n

abbrev pub start_at : List ℕ → ℕ → ℕ
start_at table i = get_or table (2 * i) 0

abbrev pub end_at : List ℕ → ℕ → ℕ
end_at table i = get_or table (2 * i + 1) 0

-- line i, and n lines from line i on
unfoldable pub line_at : List ℕ → List ℕ → ℕ → List ℕ
line_at area table i = slice (start_at table i) (end_at table i) area

unfoldable pub lines_from : List ℕ → List ℕ → ℕ → ℕ → List (List ℕ)
lines_from area table i zero = []
lines_from area table i (suc n) = line_at area table i ∷ lines_from area table (suc i) n

-- the first n lines
unfoldable pub lines_at : List ℕ → List ℕ → ℕ → List (List ℕ)
lines_at area table n = lines_from area table 0 n

-- entry i set, and entry i emptied
abbrev pub entry_set : List ℕ → ℕ → ℕ → ℕ → List ℕ
entry_set table i start end = set (set table (2 * i) start) (2 * i + 1) end

abbrev pub blanked : List ℕ → ℕ → List ℕ
blanked table i = set table (2 * i + 1) (start_at table i)

-- the first n entries lie in order from `first` to `last`, each one byte or more behind the one before
pub record Apart (first last : ℕ) (table : List ℕ) (n : ℕ) : Type 0 where
  pub low : (i : ℕ) → i < n → first ≤ start_at table i
  pub order : (i : ℕ) → i < n → start_at table i ≤ end_at table i
  pub high : (i : ℕ) → i < n → end_at table i ≤ last
  pub apart : (i j : ℕ) → i < j → j < n → end_at table i + 1 ≤ start_at table j

-- the lines from a up to e are blank, over any byte area, and the entries lie as they did
pub record Blanked (a e : ℕ) (table₀ table : List ℕ) : Type 0 where
  pub lines : (area : List ℕ) (n : ℕ) → lines_at area table n ≡ blank a e (lines_at area table₀ n)
  pub kept : (first last n : ℕ) → Apart first last table₀ n → Apart first last table n
