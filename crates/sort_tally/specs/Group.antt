-- Equal neighbours of a sorted list become one, with how many they are; and the counted parts read back from the starts and the counts.
-- Assumes nothing.
use Rattle.std.specs.Prelude.{◌≡◌, Bool, cond, List, [], ◌∷◌, map, ℕ, ◌+◌, ◌<◌, leb, eqb, length, take, drop}
use Rattle.rules.specs.Prefix.{Counted}
use Rattle.sort_spread.specs.Sort.{part_of, count_of, InOrder}

-- the first of some equal ones, and how many they are
pub record Group : Type 0 where
  pub start : ℕ
  pub count : ℕ

-- of the group that `start` opened n are seen; each next joins it, or opens another where it comes after it
unfoldable pub groups_from : (ℕ → ℕ → Bool) → ℕ → ℕ → List ℕ → List Group
groups_from later start n [] = record { start = start; count = n } ∷ []
groups_from later start n (x ∷ xs) =
    let this : Group = record { start = start; count = n } in
    let opened = this ∷ groups_from later x 1 xs in
    let joined = groups_from later start (n + 1) xs in
    cond (later x start) opened joined

unfoldable pub groups : (ℕ → ℕ → Bool) → List ℕ → List Group
groups later [] = []
groups later (x ∷ xs) = groups_from later x 1 xs

abbrev pub group_starts : List Group → List ℕ
group_starts gs = map (λ (g : Group). g.start) gs

abbrev pub counts : List Group → List ℕ
counts gs = map (λ (g : Group). g.count) gs

-- the d groups stand in p, their starts from 0 on and their counts from k on
pub record Grouped (gs : List Group) (k d : ℕ) (p : List ℕ) : Type 0 where
  pub many : d ≡ length gs
  pub first : take d p ≡ group_starts gs
  pub second : take d (drop k p) ≡ counts gs

-- what stands there, read as parts of the text s with their counts
unfoldable pub entries_from : ℕ → ℕ → List ℕ → List ℕ → List ℕ → List Counted
entries_from m c s [] ns = []
entries_from m c s (a ∷ rest) [] = []
entries_from m c s (a ∷ rest) (n ∷ ns) = record { bytes = part_of m c (drop a s); count = n } ∷ entries_from m c s rest ns

unfoldable pub entries_at : ℕ → ℕ → List ℕ → List ℕ → ℕ → ℕ → List Counted
entries_at m c s p k d = entries_from m c s (take d p) (take d (drop k p))

-- the parts that start at some places
abbrev pub parts_at : ℕ → ℕ → List ℕ → List ℕ → List (List ℕ)
parts_at m c s xs = map (λ (a : ℕ). part_of m c (drop a s)) xs

-- what a list holds
abbrev pub Has : ℕ → List ℕ → Type 0
Has a xs = 0 < count_of (eqb a) xs

-- a list that rises strictly
abbrev pub Climbing : List ℕ → Type 0
Climbing xs = InOrder (λ a b. leb b a) xs
