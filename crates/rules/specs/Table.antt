-- Bigrams, tables of them, the score, and how far it lies from the fraction.
-- Assumes nothing.
use Prim.Native.Nat.{Ordering}
use Rattle.std.specs.Prelude.{ℕ, ◌+◌, ◌*◌, ◌/◌, ◌^◌, ◌≤◌, min, false, ◌||◌, cond, List, [], ◌∷◌, ◌++◌, eqb, length, pos, Float}
use Rattle.std.specs.Float.{nan, inf, fin, binary32}
use Rattle.std.specs.Float.Ieee.{up, down, div, of_int}
use Rattle.std.specs.Float.Ieee.Exact.{HasValue}
pub use Rattle.rules.specs.declared.Value.{Value}
use Rattle.rules.specs.Bytes.{order, same, split}
use Rattle.rules.specs.Points.{encoded}
use Rattle.rules.specs.Prefix.{Counted}
use Rattle.rules.specs.Passes.{aggressive}

-- ---- bigrams: adjacent words with one space between
unfoldable pub pairs : List (List ℕ) → List (List ℕ)
pairs [] = []
pairs (a ∷ []) = []
pairs (a ∷ b ∷ ws) = (a ++ 32 ∷ b) ∷ pairs (b ∷ ws)

unfoldable pub bigrams : List ℕ → List (List ℕ)
bigrams s = pairs (split 32 s)

-- ---- tables: the bigrams with their counts, strictly rising by bytes, and the total
pub record Table : Type 0 where
  pub total : ℕ
  pub entries : List Counted

-- one more g
unfoldable pub tally : List ℕ → List Counted → List Counted
tally g [] = record { bytes = g; count = 1 } ∷ []
tally g (e ∷ es) =
    let later = e ∷ tally g es in
    elim (order g e.bytes) [
      | Ordering.lt ↦ record { bytes = g; count = 1 } ∷ e ∷ es
      | Ordering.eq ↦ record { bytes = g; count = e.count + 1 } ∷ es
      | Ordering.gt ↦ later
    ]

unfoldable pub tallied : List (List ℕ) → List Counted
tallied [] = []
tallied (g ∷ gs) = tally g (tallied gs)

-- how often g stands in gs
unfoldable pub occurs : List ℕ → List (List ℕ) → ℕ
occurs g [] = 0
occurs g (h ∷ gs) = cond (same h g) 1 0 + occurs g gs

unfoldable pub table_of : List (List ℕ) → Table
table_of gs = record { total = length gs; entries = tallied gs }

-- the table of a view's lines: its processed text as UTF-8
unfoldable pub view_table : List (List ℕ) → Table
view_table ls = table_of (bigrams (encoded (aggressive ls)))

-- ---- score
unfoldable pub count_in : List Counted → List ℕ → ℕ
count_in [] g = 0
count_in (e ∷ es) g = cond (same e.bytes g) e.count 0 + count_in es g

-- m: the sum of the smaller counts of shared bigrams
unfoldable pub meet : List Counted → List Counted → ℕ
meet [] fs = 0
meet (e ∷ es) fs = min e.count (count_in fs e.bytes) + meet es fs

-- 0.0 and 1.0
abbrev pub nought : Float
nought = fin false 0 (pos 0)

abbrev pub one : Float
one = fin false 1 (pos 0)

unfoldable pub float : ℕ → Float
float n = of_int binary32 (pos n)

-- with a table empty 0.0; otherwise 2m/t, one division in binary32 of two whole numbers. a and b are the totals.
unfoldable pub score : ℕ → ℕ → ℕ → Float
score m a b = cond (eqb a 0 || eqb b 0) nought (div binary32 (float (2 * m)) (float (a + b)))

-- what a scoring yields: the score, m and t
unfoldable pub value_of : Table → Table → Value
value_of a b =
    let shared = meet a.entries b.entries in
    record { score = score shared a.total b.total; m = shared; t = a.total + b.total }

-- where nothing is scored
abbrev pub no_value : Value
no_value = record { score = nought; m = 0; t = 0 }

-- ---- how far a score may lie from the fraction
-- the size of x times 2 ^ k, rounded down
abbrev pub times : ℕ → Float → ℕ
times k nan = 0
times k (inf s) = 0
times k (fin s m e) = m * up e * 2 ^ k / down e

-- S is r times 2 ^ 46 with nothing cut off, and |S t - 2 m 2 ^ 46| is at most t 2 ^ 21
pub record Close (m t : ℕ) (r : Float) : Type 0 where
  pub exact : HasValue r false (times 46 r) (2 ^ 46)
  pub at_most : times 46 r * t ≤ 2 * m * 2 ^ 46 + t * 2 ^ 21
  pub at_least : 2 * m * 2 ^ 46 ≤ times 46 r * t + t * 2 ^ 21
