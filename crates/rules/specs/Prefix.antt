-- Aggressive pass 1: the common prefix of a view's lines.
-- Assumes nothing.
use Rattle.std.specs.Prelude.{ℕ, ◌+◌, ◌*◌, ◌/◌, cond, List, [], ◌∷◌, ◌++◌, map, ltb, eqb, length, drop}
use Rattle.rules.specs.Bytes.{same, starts, trim}
use Rattle.rules.specs.Points.{encoded}

-- a byte string and its count
pub record Counted : Type 0 where
  pub bytes : List ℕ
  pub count : ℕ

unfoldable pub common : List ℕ → List ℕ → List ℕ
common [] ys = []
common (x ∷ xs) [] = []
common (x ∷ xs) (y ∷ ys) = let more = x ∷ common xs ys in cond (eqb x y) more []

-- of adjacent lines the common prefix, trimmed, where it is longer than 3 bytes as UTF-8; of code points, it ends where a character does
unfoldable pub prefixes : List (List ℕ) → List (List ℕ)
prefixes [] = []
prefixes (a ∷ []) = []
prefixes (a ∷ b ∷ ls) = let p = trim (common a b) in cond (ltb 3 (length (encoded p))) (p ∷ []) [] ++ prefixes (b ∷ ls)

-- one more sight of p: its first counts 2, each later one adds 1
unfoldable pub see : List Counted → List ℕ → List Counted
see [] p = record { bytes = p; count = 2 } ∷ []
see (e ∷ es) p =
    let again : List Counted = record { bytes = p; count = e.count + 1 } ∷ es in
    let later = e ∷ see es p in
    cond (same e.bytes p) again later

unfoldable pub see_all : List Counted → List (List ℕ) → List Counted
see_all es [] = es
see_all es (p ∷ ps) = see_all (see es p) ps

-- highest count wins; ties to the first seen
unfoldable pub winner : Counted → List Counted → Counted
winner e [] = e
winner e (f ∷ fs) = winner (cond (ltb e.count f.count) f e) fs

-- the counts of all stored prefixes that start with p
unfoldable pub reach : List ℕ → List Counted → ℕ
reach p [] = 0
reach p (e ∷ es) = cond (starts p e.bytes) e.count 0 + reach p es

-- the same, read from how often each stands among them, for the first sight counts 2: `reach-tallied` of proofs/PrefixLaws.antt
unfoldable pub reached : List ℕ → List Counted → ℕ
reached p [] = 0
reached p (e ∷ es) = cond (starts p e.bytes) (e.count + 1) 0 + reached p es

-- 0.8f32 times the line count, truncated: `four_fifths_lem` of proofs/Fifths.antt has the equality
unfoldable pub four_fifths : ℕ → ℕ
four_fifths n = 4 * n / 5

unfoldable pub strip : List ℕ → List ℕ → List ℕ
strip p l = trim (cond (starts p l) (drop (length p) l) l)

-- with none stored nothing changes
unfoldable pub strip_winner : List Counted → List (List ℕ) → List (List ℕ)
strip_winner [] ls = ls
strip_winner (e ∷ es) ls =
    let p = (winner e es).bytes in
    let stripped = map (strip p) ls in
    cond (ltb (reach p (e ∷ es)) (four_fifths (length ls))) ls stripped

unfoldable pub without_prefix : List (List ℕ) → List (List ℕ)
without_prefix ls = strip_winner (see_all [] (prefixes ls)) ls
