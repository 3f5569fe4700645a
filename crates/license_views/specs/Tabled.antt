-- A view's processed text and its table in the lent areas.
-- Assumes nothing.
use Rattle.std.specs.Prelude.{◌≡◌, List, ℕ, ◌+◌, ◌*◌, ◌≤◌, length, drop}
use Rattle.std.proofs.Math.Seq.{slice}
use Rattle.rules.specs.declared.View.{View}
use Rattle.rules.specs.Points.{encoded}
use Rattle.rules.specs.Search.{viewed}
use Rattle.rules.specs.Table.{Table, bigrams, table_of}
use Rattle.rules.specs.Sizes.{text_most, total_most}
use Rattle.preproc_table.specs.Entries.{table_end, lines_at}
use Rattle.ngram_table.specs.Tables.{table_at}
use Rattle.rules.specs.Passes.{aggressive}
use Rattle.license_views.specs.declared.Viewed.{Viewed}
use Rattle.slices.specs.declared.ends.ByteSpan.{ByteSpan}
use Rattle.license_notes.specs.Laid.{Held}

-- the processed text of a view is area[start..end] as UTF-8, above the lines; the areas still hold the lines
pub record Processed (n lines : ℕ) (v : View) (area₀ words₀ : List ℕ) (r : ByteSpan) (area words : List ℕ) : Type 0 where
  pub order : r.start ≤ r.end
  pub high : r.end ≤ length area
  pub bytes : slice r.start r.end area ≡ encoded (aggressive (viewed (lines_at area₀ words₀ lines) v))
  pub held : Held n lines area₀ words₀ area words

-- the processed text of a view is area[start..end], and its table stands over it in the words behind the line table
pub record Tabled (n : ℕ) (area words : List ℕ) (t : Viewed) : Type 0 where
  pub order : t.start ≤ t.end
  pub high : t.end ≤ length area
  pub short : length (slice t.start t.end area) ≤ 3 * text_most + 3
  pub few : t.distinct ≤ t.total
  pub room : table_end n + (t.total + t.total) ≤ length words
  pub most : t.total ≤ total_most
  pub stands : table_at (slice t.start t.end area) (drop (table_end n) words) t.total t.distinct ≡ table_of (bigrams (slice t.start t.end area))

-- the table itself
unfoldable pub table_over : List ℕ → Viewed → Table
table_over area t = table_of (bigrams (slice t.start t.end area))
