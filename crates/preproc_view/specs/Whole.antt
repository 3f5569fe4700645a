-- The whole of the aggressive passes on a view of the line table.
-- Assumes nothing.
use Rattle.std.specs.Prelude.{◌≡◌, Option, None, Some, List, map, ℕ, ◌+◌, ◌-◌, ◌*◌, ◌≤◌, length, take}
use Rattle.rules.specs.declared.View.{View}
use Rattle.rules.specs.Sizes.{byte_area}
use Rattle.rules.specs.Points.{encoded}
use Rattle.rules.specs.Lines.{size}
use Rattle.rules.specs.Prefix.{strip, without_prefix}
use Rattle.rules.specs.Passes.{aggressive}
use Rattle.std.proofs.Math.Seq.{slice}
use Rattle.slices.specs.declared.ends.ByteSpan.{ByteSpan}
use Rattle.slices.specs.Classes.{Classes}
use Rattle.preproc_table.specs.Entries.{view_start, lines_from, Apart}
use Rattle.preproc_view.specs.Rows.{StandsAt}

-- the lines of the view
abbrev pub view_at : List ℕ → List ℕ → View → List (List ℕ)
view_at area table v = lines_from area table v.start (v.end - v.start)

-- the lines of a text of n bytes lie in [n, 4n) of an area of its size, and the view, which is one of them, is no longer as UTF-8 than has room behind them
pub record Ready (class area table : List ℕ) (n : ℕ) (v : View) : Type 0 where
  pub classes : Classes class
  pub room : byte_area n ≤ length area
  pub entries : 2 * v.end ≤ length table
  pub apart : Apart n (view_start n) table v.end
  pub order : v.start ≤ v.end
  pub bytes : size (view_at area table v) ≤ 3 * n + 3

-- what pass 1 strips: nothing, or the bytes of a span that lies among the lines
abbrev pub StripsAs : List ℕ → ℕ → List (List ℕ) → Option ByteSpan → Type 0
StripsAs area n ls None = without_prefix ls ≡ ls
StripsAs area n ls (Some p) = (p.start ≤ p.end) × (p.end ≤ view_start n) × (without_prefix ls ≡ map (strip (slice p.start p.end area)) ls)

-- the processed text stands in r as UTF-8, behind the lines, and what stands below 4n is as it was
pub record ViewProcessed (ls : List (List ℕ)) (n : ℕ) (d₀ : List ℕ) (r : ByteSpan) (d : List ℕ) : Type 0 where
  pub stands : StandsAt (encoded (aggressive ls)) d r
  pub behind : view_start n ≤ r.start
  pub below : take (view_start n) d ≡ take (view_start n) d₀
