-- Lines of a view with a prefix stripped or not, what is left of one, and the view joined behind all lines.
-- Assumes nothing.
use Rattle.std.specs.Prelude.{◌≡◌, Option, None, Some, cond, List, [], ◌∷◌, map, ◌++◌, ℕ, ◌+◌, ◌-◌, ◌*◌, ◌≤◌, ◌<◌, length, take, drop}
use Rattle.std.proofs.Math.Seq.{slice}
use Rattle.lists.specs.Wrote.{InFront}
use Rattle.rules.specs.Bytes.{starts}
use Rattle.rules.specs.Prefix.{strip}
use Rattle.slices.specs.declared.ends.ByteSpan.{ByteSpan}
use Rattle.slices.specs.Classes.{Classes}
use Rattle.preproc_table.specs.Entries.{start_at, end_at, line_at, lines_from}

-- a span's bytes
abbrev pub bytes_of : List ℕ → ByteSpan → List ℕ
bytes_of area p = slice p.start p.end area

-- the line from a up to e goes on at k, behind the bytes of p if it starts with them
pub record Past (area : List ℕ) (a e : ℕ) (p : ByteSpan) (k : ℕ) : Type 0 where
  pub low : a ≤ k
  pub high : k ≤ e
  pub rest :
      let l = slice a e area in
      let q = bytes_of area p in
      slice k e area ≡ cond (starts q l) (drop (length q) l) l

-- a prefix, if there is one, lies below `to`
abbrev pub LiesBelow : Option ByteSpan → ℕ → Type 0
LiesBelow None to = Unit {0}
LiesBelow (Some p) to = (p.start ≤ p.end) × (p.end ≤ to)

-- what is left of a line
unfoldable pub left : List ℕ → Option ByteSpan → List ℕ → List ℕ
left area None l = l
left area (Some p) l = strip (bytes_of area p) l

-- it stands in r, within the line
pub record Left (area table : List ℕ) (i : ℕ) (p : Option ByteSpan) (r : ByteSpan) : Type 0 where
  pub low : start_at table i ≤ r.start
  pub order : r.start ≤ r.end
  pub high : r.end ≤ end_at table i
  pub bytes : slice r.start r.end area ≡ left area p (line_at area table i)

-- some bytes added from `to` on, up to r
pub record Added (out d₀ : List ℕ) (to r : ℕ) (d : List ℕ) : Type 0 where
  pub count : r ≡ to + length out
  pub bytes : d ≡ take to d₀ ++ out ++ drop r d₀

-- what copying it asks
pub record Puts (class area table : List ℕ) (i : ℕ) (p : Option ByteSpan) (to : ℕ) : Type 0 where
  pub classes : Classes class
  pub entry : 2 * i + 1 < length table
  pub order : start_at table i ≤ end_at table i
  pub below : end_at table i ≤ to
  pub prefix : LiesBelow p to
  pub room : to + length (left area p (line_at area table i)) ≤ length area

abbrev pub Put : List ℕ → List ℕ → ℕ → Option ByteSpan → ℕ → ℕ → List ℕ → Type 0
Put area table i p to r d = Added (left area p (line_at area table i)) area to r d

-- the lines of the view from first up to end, with what is left of each, joined from `to` on; what stands below is as it was
unfoldable pub view_lines : List ℕ → List ℕ → ℕ → ℕ → Option ByteSpan → List (List ℕ)
view_lines area table first end p = map (left area p) (lines_from area table first (end - first))

-- each line behind a newline
unfoldable pub tails : List (List ℕ) → List ℕ
tails [] = []
tails (l ∷ ls) = 10 ∷ (l ++ tails ls)

-- what joining them asks: the lines and the prefix lie below `to`
pub record Below (class table : List ℕ) (end : ℕ) (p : Option ByteSpan) (to : ℕ) : Type 0 where
  pub classes : Classes class
  pub entries : 2 * end ≤ length table
  pub order : (i : ℕ) → i < end → start_at table i ≤ end_at table i
  pub below : (i : ℕ) → i < end → end_at table i ≤ to
  pub prefix : LiesBelow p to

pub record Joined (out d₀ : List ℕ) (to r : ℕ) (d : List ℕ) : Type 0 where
  pub there : InFront out r (drop to d)
  pub below : take to d ≡ take to d₀
