-- What is chosen among the common prefixes, and what pass 1 strips.
-- Assumes nothing.
use Rattle.std.specs.Prelude.{◌≡◌, List, map, ℕ, ◌+◌, ◌≤◌, ◌<◌, length, get_or, Option, None, Some}
use Rattle.std.proofs.Math.Seq.{slice}
use Rattle.rules.specs.Prefix.{prefixes, strip, without_prefix}
use Rattle.rules.specs.Table.{occurs}
use Rattle.preproc_table.specs.Entries.{view_start}
use Rattle.sort_spread.specs.Sort.{part_later, msorted}
use Rattle.sort_tally.specs.Group.{groups, Grouped, parts_at}
use Rattle.sort_tally.specs.Group.{Climbing}
use Rattle.slices.specs.declared.ends.ByteSpan.{ByteSpan}

-- of the groups in p, counts from k on, w counts no less than j, and if as much then it starts no later
pub record Beaten (p : List ℕ) (k j w : ℕ) : Type 0 where
  pub most : get_or p (k + j) 0 ≤ get_or p (k + w) 0
  pub first : get_or p (k + j) 0 ≡ get_or p (k + w) 0 → get_or p w 0 ≤ get_or p j 0

-- the list of prefixes of the lines ls stands in `text`, and its entries start at xs
pub record ListsAt (text xs : List ℕ) (ls : List (List ℕ)) : Type 0 where
  pub climbing : Climbing xs
  pub parts : parts_at 10 1 text xs ≡ prefixes ls

-- and p has its groups
pub record Grouping (text p : List ℕ) (k d : ℕ) (ls : List (List ℕ)) (xs : List ℕ) : Type 0 where
  pub listed : ListsAt text xs ls
  pub long : length xs ≡ k
  pub grouped : Grouped (groups (part_later 10 1 text) (msorted (part_later 10 1 text) k xs)) k d p

-- nothing is stripped, or the bytes of the span, which are one of the prefixes
abbrev pub Decided : List (List ℕ) → List ℕ → Option ByteSpan → Type 0
Decided ls text None = without_prefix ls ≡ ls
Decided ls text (Some r) =
    (r.start ≤ r.end) × (r.end ≤ length text) × (without_prefix ls ≡ map (strip (slice r.start r.end text)) ls) × (0 < occurs (slice r.start r.end text) (prefixes ls))

-- what pass 1 strips from the lines ls, by bytes of the lines' region [n, 4n)
abbrev pub Strips : ℕ → List (List ℕ) → List ℕ → Option ByteSpan → Type 0
Strips n ls area None = without_prefix ls ≡ ls
Strips n ls area (Some r) = (without_prefix ls ≡ map (strip (slice r.start r.end area)) ls) × (n ≤ r.start) × (r.start ≤ r.end) × (r.end ≤ view_start n)
