-- A text's lines in the byte area, by the line table; `set` is what pass 4 takes.
-- Assumes nothing.
use Rattle.std.specs.Prelude.{◌≡◌, Bool, List, ℕ, length}
use Rattle.rules.specs.Lines.{lines_by, line_count}
use Rattle.preproc_table.specs.Entries.{view_start, lines_at, Apart}

-- all lines are there, in A = [n, 4n), one byte or more apart
pub record Normalised (set : ℕ → Bool) (text area table : List ℕ) (r : ℕ) : Type 0 where
  pub count : r ≡ line_count text
  pub lines : lines_at area table r ≡ lines_by set text
  pub apart : Apart (length text) (view_start (length text)) table r
