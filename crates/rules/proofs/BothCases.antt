-- Lent books, two and one: what the definitions compute. Answers from a model written apart.
-- Assumes nothing.
use Prim.Native.Nat.{ℕ}
use Prim.Native.String.{String}
use mathlib.Core.Path.{◌≡◌, refl}
use mathlib.Core.Bool.{Bool, false, cond}
use mathlib.Core.List.{List, [], ◌∷◌, ◌++◌}
use lib.ListN.{length, take, replicate}
use lib.Ieee.{to_bits, of_bits, binary32}
use Rattle.rules.specs.declared.Areas.{Areas}
use Rattle.rules.specs.declared.Limits.{Limits}
use Rattle.rules.specs.declared.Mode.TheVariants.{Elimination, TopDown}
use Rattle.rules.specs.Bytes.{text}
use Rattle.rules.specs.Search.{view}
use Rattle.rules.specs.Book.{written, compiled}
use Rattle.rules.specs.Jobs.{scan, score_job, bounds_job, results_after}
use Rattle.rules.proofs.Opened.{opened}

rec : ℕ → List ℕ → List ℕ
rec kind body = written 4 (length body) ++ written 2 kind ++ body

licence : String → String → List ℕ
licence n s = rec 1 (text n) ++ rec 2 (compiled 1 (text s))

a1 : List ℕ
a1 = licence "A" "a b"

-- an empty original, and `a b` as a header
h1 : List ℕ
h1 = rec 1 (text "H") ++ rec 2 (compiled 1 []) ++ rec 4 (compiled 1 (text "a b"))

b1 : List ℕ
b1 = licence "B" "c d"

note : List ℕ
note = text "a b"

room : Areas
room = record { bytes = 100_000; words = 100_000 }

bit : Bool → ℕ
bit b = cond b 1 0

limits : ℕ → Limits
limits threshold = record { threshold = of_bits binary32 threshold; shallow = of_bits binary32 0x3f000000 }

-- refusal, count, score bits, m and t, kind, the name's length; second, at, len of the name's part
above : ℕ → List ℕ → List (List ℕ) → ℕ → List ℕ
above threshold t bs budget =
    let r = scan t bs (limits threshold) (Elimination false 0) budget room 0 in
    let n = r.part in
    r.refusal ∷ r.count ∷ to_bits binary32 r.score ∷ r.m ∷ r.t ∷ r.kind ∷ r.len ∷ bit n.second ∷ n.at ∷ n.len ∷ []

shown : List ℕ → List (List ℕ) → ℕ → List ℕ
shown t bs budget = above 0x3f000000 t bs budget

-- top-down with its record: refusal, count, the six numbers, then the part
down : List ℕ → List (List ℕ) → List ℕ
down t bs =
    let r = scan t bs (limits 0x3f000000) (TopDown 1) 99 room 6 in
    r.refusal ∷ r.count ∷ results_after t bs (limits 0x3f000000) (TopDown 1) 99 room (replicate 6 7) ++ bit r.part.second ∷ r.part.at ∷ r.part.len ∷ []

-- the bounds of stored text k in the whole note of one line: refusal, first line, line after last, score bits, m and t, count
found : List (List ℕ) → ℕ → List ℕ
found bs k =
    let r = bounds_job note bs (view 0 1) k room in
    r.refusal ∷ r.first ∷ r.after ∷ to_bits binary32 r.score ∷ r.m ∷ r.t ∷ r.count ∷ []

-- the score of the whole note against stored text k: refusal, score bits, m and t
whole : List (List ℕ) → ℕ → List ℕ
whole bs k =
    let r = score_job note bs (view 0 1) k room in
    r.refusal ∷ to_bits binary32 r.score ∷ r.m ∷ r.t ∷ []

pub got : List (List ℕ)
got =
    shown note (a1 ∷ b1 ∷ []) 9 ∷
    shown note (b1 ∷ a1 ∷ []) 9 ∷
    shown note (a1 ∷ a1 ∷ []) 9 ∷
    shown note (h1 ∷ a1 ∷ []) 9 ∷
    shown note (h1 ∷ h1 ∷ []) 9 ∷
    shown note ((b1 ++ licence "C" "a b") ∷ a1 ∷ []) 9 ∷
    shown note (b1 ∷ (a1 ++ licence "C" "a b") ∷ []) 9 ∷
    shown note ([] ∷ a1 ∷ []) 9 ∷
    shown note (a1 ∷ [] ∷ []) 9 ∷
    shown note ([] ∷ [] ∷ []) 9 ∷
    shown note (a1 ∷ take 31 a1 ∷ []) 9 ∷
    shown note ([] ∷ take 31 a1 ∷ []) 9 ∷
    shown (text "x y") (b1 ∷ a1 ∷ []) 9 ∷
    shown note (b1 ∷ a1 ∷ []) 1 ∷
    shown note (b1 ∷ a1 ∷ []) 2 ∷
    above 0xbf800000 note (a1 ∷ b1 ∷ []) 9 ∷
    whole (b1 ∷ a1 ∷ []) 0 ∷
    whole (b1 ∷ a1 ∷ []) 1 ∷
    whole (b1 ∷ a1 ∷ []) 2 ∷
    found (b1 ∷ a1 ∷ []) 0 ∷
    found (b1 ∷ a1 ∷ []) 1 ∷
    found (b1 ∷ a1 ∷ []) 2 ∷
    down note (b1 ∷ a1 ∷ []) ∷
    shown note (licence "A" "c d" ∷ a1 ∷ []) 9 ∷
    shown note (take 31 a1 ∷ a1 ∷ []) 9 ∷
    shown note (a1 ∷ []) 9 ∷
    shown note ((b1 ++ licence "C" "a b") ∷ []) 9 ∷
    shown note ([] ∷ []) 9 ∷
    shown note (take 31 a1 ∷ []) 9 ∷
    []

pub both_hold :
    got ≡
    (0 ∷ 2 ∷ 0x3f800000 ∷ 1 ∷ 2 ∷ 2 ∷ 1 ∷ 0 ∷ 6 ∷ 1 ∷ []) ∷
    (0 ∷ 2 ∷ 0x3f800000 ∷ 1 ∷ 2 ∷ 2 ∷ 1 ∷ 1 ∷ 6 ∷ 1 ∷ []) ∷
    (0 ∷ 2 ∷ 0x3f800000 ∷ 1 ∷ 2 ∷ 2 ∷ 1 ∷ 0 ∷ 6 ∷ 1 ∷ []) ∷
    (0 ∷ 3 ∷ 0x3f800000 ∷ 1 ∷ 2 ∷ 2 ∷ 1 ∷ 1 ∷ 6 ∷ 1 ∷ []) ∷
    (0 ∷ 4 ∷ 0x3f800000 ∷ 1 ∷ 2 ∷ 4 ∷ 1 ∷ 0 ∷ 6 ∷ 1 ∷ []) ∷
    (0 ∷ 3 ∷ 0x3f800000 ∷ 1 ∷ 2 ∷ 2 ∷ 1 ∷ 0 ∷ 38 ∷ 1 ∷ []) ∷
    (0 ∷ 3 ∷ 0x3f800000 ∷ 1 ∷ 2 ∷ 2 ∷ 1 ∷ 1 ∷ 6 ∷ 1 ∷ []) ∷
    (0 ∷ 1 ∷ 0x3f800000 ∷ 1 ∷ 2 ∷ 2 ∷ 1 ∷ 1 ∷ 6 ∷ 1 ∷ []) ∷
    (0 ∷ 1 ∷ 0x3f800000 ∷ 1 ∷ 2 ∷ 2 ∷ 1 ∷ 0 ∷ 6 ∷ 1 ∷ []) ∷
    (5 ∷ 0 ∷ 0 ∷ 0 ∷ 0 ∷ 0 ∷ 0 ∷ 0 ∷ 0 ∷ 0 ∷ []) ∷
    (4 ∷ 0 ∷ 0 ∷ 0 ∷ 0 ∷ 0 ∷ 0 ∷ 0 ∷ 0 ∷ 0 ∷ []) ∷
    (4 ∷ 0 ∷ 0 ∷ 0 ∷ 0 ∷ 0 ∷ 0 ∷ 0 ∷ 0 ∷ 0 ∷ []) ∷
    (0 ∷ 2 ∷ 0 ∷ 0 ∷ 2 ∷ 0 ∷ 0 ∷ 0 ∷ 0 ∷ 0 ∷ []) ∷
    (12 ∷ 1 ∷ 0 ∷ 0 ∷ 0 ∷ 0 ∷ 0 ∷ 0 ∷ 0 ∷ 0 ∷ []) ∷
    (0 ∷ 2 ∷ 0x3f800000 ∷ 1 ∷ 2 ∷ 2 ∷ 1 ∷ 1 ∷ 6 ∷ 1 ∷ []) ∷
    (6 ∷ 0 ∷ 0 ∷ 0 ∷ 0 ∷ 0 ∷ 0 ∷ 0 ∷ 0 ∷ 0 ∷ []) ∷
    (0 ∷ 0 ∷ 0 ∷ 2 ∷ []) ∷
    (0 ∷ 0x3f800000 ∷ 1 ∷ 2 ∷ []) ∷
    (9 ∷ 0 ∷ 0 ∷ 0 ∷ []) ∷
    (0 ∷ 1 ∷ 1 ∷ 0 ∷ 0 ∷ 1 ∷ 4 ∷ []) ∷
    (0 ∷ 0 ∷ 1 ∷ 0x3f800000 ∷ 1 ∷ 2 ∷ 4 ∷ []) ∷
    (9 ∷ 0 ∷ 0 ∷ 0 ∷ 0 ∷ 0 ∷ 0 ∷ []) ∷
    (0 ∷ 8 ∷ 1 ∷ 0 ∷ 1 ∷ 0x3f800000 ∷ 0 ∷ 3 ∷ 0 ∷ 0 ∷ 0 ∷ []) ∷
    (0 ∷ 2 ∷ 0x3f800000 ∷ 1 ∷ 2 ∷ 2 ∷ 1 ∷ 1 ∷ 6 ∷ 1 ∷ []) ∷
    (4 ∷ 0 ∷ 0 ∷ 0 ∷ 0 ∷ 0 ∷ 0 ∷ 0 ∷ 0 ∷ 0 ∷ []) ∷
    (0 ∷ 1 ∷ 0x3f800000 ∷ 1 ∷ 2 ∷ 2 ∷ 1 ∷ 0 ∷ 6 ∷ 1 ∷ []) ∷
    (0 ∷ 2 ∷ 0x3f800000 ∷ 1 ∷ 2 ∷ 2 ∷ 1 ∷ 0 ∷ 38 ∷ 1 ∷ []) ∷
    (5 ∷ 0 ∷ 0 ∷ 0 ∷ 0 ∷ 0 ∷ 0 ∷ 0 ∷ 0 ∷ 0 ∷ []) ∷
    (4 ∷ 0 ∷ 0 ∷ 0 ∷ 0 ∷ 0 ∷ 0 ∷ 0 ∷ 0 ∷ 0 ∷ []) ∷
    []
unfolding got shown above down whole found limits bit note room a1 h1 b1 licence rec opened
both_hold = refl
