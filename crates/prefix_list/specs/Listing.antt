-- The list of common prefixes as it stands in the areas, and where in the lines a prefix was taken from.
-- Assumes nothing.
use Rattle.std.specs.Prelude.{◌≡◌, true, Bool, not, ◌&&◌, List, [], ◌∷◌, ◌++◌, ℕ, ◌+◌, ◌*◌, ◌≤◌, length, take}
use Rattle.std.proofs.Math.Seq.{slice}
use Rattle.slices.specs.declared.ends.ByteSpan.{ByteSpan}
use Rattle.rules.specs.Bytes.{newline, every, trim}
use Rattle.rules.specs.Prefix.{common}
use Rattle.preproc_table.specs.Entries.{table_end, view_start, start_at, end_at, line_at}
use Rattle.prefix_list.specs.declared.Listed.{Listed}

-- the span r, in the lines' region, holds the bytes w
pub record Home (n : ℕ) (area w : List ℕ) (r : ByteSpan) : Type 0 where
  pub low : n ≤ r.start
  pub order : r.start ≤ r.end
  pub high : r.end ≤ view_start n
  pub bytes : slice r.start r.end area ≡ w

-- a line holds no newline
unfoldable pub plain : List ℕ → Bool
plain l = every (λ x. not (newline x)) l

unfoldable pub plain_lines : List (List ℕ) → Bool
plain_lines [] = true
plain_lines (l ∷ ls) = let more = plain_lines ls in plain l && more

-- the list as bytes, and where its entries start from a on
unfoldable pub listed : List (List ℕ) → List ℕ
listed [] = []
listed (q ∷ qs) = q ++ 10 ∷ listed qs

unfoldable pub starts_from : ℕ → List (List ℕ) → List ℕ
starts_from a [] = []
starts_from a (q ∷ qs) = a ∷ starts_from (a + length q + 1) qs

-- the entries of lines i and i + 1 lie in the area
pub record PairLies (area table : List ℕ) (i : ℕ) : Type 0 where
  pub order : start_at table i ≤ end_at table i
  pub high : end_at table i ≤ length area
  pub next-order : start_at table (i + 1) ≤ end_at table (i + 1)
  pub next-high : end_at table (i + 1) ≤ length area

-- the span r, inside line i, holds what lines i and i + 1 have in common, trimmed
pub record Shared (area table : List ℕ) (i : ℕ) (r : ByteSpan) : Type 0 where
  pub low : start_at table i ≤ r.start
  pub order : r.start ≤ r.end
  pub high : r.end ≤ end_at table i
  pub bytes : slice r.start r.end area ≡ trim (common (line_at area table i) (line_at area table (i + 1)))

-- the list qs stands in the areas of a text of n bytes, and what is below it is as it was
pub record ListStands (n : ℕ) (qs : List (List ℕ)) (area₀ table₀ : List ℕ) (r : Listed) (area table : List ℕ) : Type 0 where
  pub low : view_start n ≤ r.end
  pub high : r.end ≤ 7 * n
  pub few : r.k ≤ n + 1
  pub bytes : slice (view_start n) r.end area ≡ listed qs
  pub starts : slice (table_end n) (table_end n + r.k) table ≡ starts_from (view_start n) qs
  pub area_low : take (view_start n) area ≡ take (view_start n) area₀
  pub table-low : take (table_end n) table ≡ take (table_end n) table₀
