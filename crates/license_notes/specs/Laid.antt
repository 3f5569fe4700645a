-- A note's lines in the lent areas, and that they are still the same.
-- Assumes nothing.
use Rattle.std.specs.Prelude.{◌≡◌, true, List, ℕ, ◌+◌, ◌*◌, ◌≤◌, length}
use Rattle.rules.specs.Sizes.{text_most, byte_area, word_area}
use Rattle.preproc_table.specs.Entries.{view_start, lines_at, Apart}
use Rattle.rules.specs.Lines.{size}
use Rattle.prefix_list.specs.Listing.{plain_lines}

-- the lines of a note of n bytes stand in the areas, as `normalise` leaves them
pub record Laid (n lines : ℕ) (area words : List ℕ) : Type 0 where
  pub apart : Apart n (view_start n) words lines
  pub few : lines ≤ n + 1
  pub small : n ≤ text_most
  pub area_room : byte_area n ≤ length area
  pub words-room : word_area n ≤ length words
  pub plain : plain_lines (lines_at area words lines) ≡ true
  pub bytes : size (lines_at area words lines) ≤ 3 * n + 3

-- the areas still hold the same lines
pub record Held (n lines : ℕ) (area₀ words₀ area words : List ℕ) : Type 0 where
  pub laid : Laid n lines area words
  pub area_long : length area ≡ length area₀
  pub words_long : length words ≡ length words₀
  pub same : lines_at area words lines ≡ lines_at area₀ words₀ lines
