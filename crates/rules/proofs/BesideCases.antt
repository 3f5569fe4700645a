-- Top-down's ranges side by side, and the results area that they need: what the definitions compute. Answers from a model written apart.
-- Assumes nothing.
use Prim.Native.Nat.{ℕ, ◌+◌}
use mathlib.Core.Path.{◌≡◌, refl}
use mathlib.Core.Bool.{true, false}
use mathlib.Core.List.{List, [], ◌∷◌, ◌++◌, map}
use native.Mathlib.Omega.{arith}
use lib.ListN.{replicate}
use Rattle.rules.specs.declared.Mode.TheVariants.{Elimination, TopDown}
use Rattle.rules.specs.Bytes.{text}
use Rattle.rules.specs.Table.{no_value}
use Rattle.rules.specs.Search.{no_text}
use Rattle.rules.specs.Scan.{Recorded}
use Rattle.rules.specs.Beside.{Beside}
use Rattle.rules.specs.Refusal.{records_most}
use Rattle.rules.specs.Jobs.{scan, results_after}
use Rattle.rules.proofs.Opened.{opened}
use Rattle.rules.proofs.Cases.{body_a, book_a, room, limits}

-- ---- ranges that lie side by side, and such as do not
abbrev lines : ℕ → ℕ → Recorded
lines first after = record { text = no_text; range = record { first = first; after = after; value = no_value } }

pub in_turns : Beside 0 5 (lines 0 1 ∷ lines 2 3 ∷ lines 4 5 ∷ [])
unfolding Beside
in_turns = (omega arith, omega arith, omega arith, (omega arith, omega arith, omega arith, (omega arith, omega arith, omega arith, tt)))

pub without_a_line : Beside 0 2 (lines 2 2 ∷ []) → ⊥
unfolding Beside
without_a_line h = omega (arith, h.1)

pub touching : Beside 0 2 (lines 0 1 ∷ lines 1 2 ∷ []) → ⊥
unfolding Beside
touching h = omega (arith, h.3.0)

pub falling : Beside 0 3 (lines 2 3 ∷ lines 0 1 ∷ []) → ⊥
unfolding Beside
falling h = omega (arith, h.3.0)

pub behind_the_last : Beside 0 1 (lines 0 2 ∷ []) → ⊥
unfolding Beside
behind_the_last h = omega (arith, h.2)

-- ---- thresholds, by their bits
eight_tenths : ℕ
eight_tenths = 0x3f4ccccd

smallest : ℕ
smallest = 1

minus_zero : ℕ
minus_zero = 0x80000000

-- ---- the most records, of 0.8 and of others
most : ℕ → ℕ → ℕ → ℕ
most threshold shallow l = records_most l (limits threshold shallow) (TopDown 1)

pub lines_of : List ℕ
lines_of = 1 ∷ 2 ∷ 3 ∷ 4 ∷ 5 ∷ 65_535 ∷ 65_536 ∷ []

pub most_got : List (List ℕ)
most_got =
    map (most eight_tenths 0) lines_of ∷
    map (most smallest 0) lines_of ∷
    -- the shallow limit plays no part
    map (most 0 eight_tenths) lines_of ∷
    map (most minus_zero eight_tenths) lines_of ∷
    -- nor do lines in elimination
    map (λ l. records_most l (limits eight_tenths 0) (Elimination true 65_535)) (1 ∷ 65_536 ∷ []) ∷
    map (λ l. records_most l (limits 0 0) (Elimination false 65_535)) (1 ∷ 65_536 ∷ []) ∷
    []

pub most_hold :
    most_got ≡
    (1 ∷ 1 ∷ 2 ∷ 2 ∷ 3 ∷ 32_768 ∷ 32_768 ∷ []) ∷
    (1 ∷ 1 ∷ 2 ∷ 2 ∷ 3 ∷ 32_768 ∷ 32_768 ∷ []) ∷
    lines_of ∷
    lines_of ∷
    (65_535 ∷ 65_535 ∷ []) ∷
    (0 ∷ 0 ∷ []) ∷
    []
unfolding most_got most lines_of eight_tenths smallest minus_zero limits opened
most_hold = refl

-- ---- scans of `My First License` and `x` in turns, shallow limit 1.0, step 1
one : List ℕ
one = text "My First License"

two : List ℕ
two = text "My First License\nx"

three : List ℕ
three = text "My First License\nx\nMy First License"

five : List ℕ
five = text "My First License\nx\nMy First License\nx\nMy First License"

-- the refusal and the count, then results of so many u32, 7 at entry
scanned : List ℕ → ℕ → ℕ → List ℕ
scanned t threshold results =
    let lim = limits threshold 0x3f800000 in
    let a = scan t (book_a ∷ []) lim (TopDown 1) 99 room results in
    a.refusal ∷ a.count ∷ results_after t (book_a ∷ []) lim (TopDown 1) 99 room (replicate results 7)

-- the record of a range of `My First License`
pub range : ℕ → ℕ → List ℕ
range first start = 0 ∷ first ∷ (first + 1) ∷ 0x3f800000 ∷ start ∷ (start + 16) ∷ []

pub above_got : List (List ℕ)
above_got =
    scanned one eight_tenths 6 ∷
    scanned two eight_tenths 6 ∷
    scanned three eight_tenths 12 ∷
    scanned five eight_tenths 18 ∷
    []

pub above_hold :
    above_got ≡
    (0 ∷ 6 ∷ range 0 0) ∷
    (0 ∷ 9 ∷ range 0 0) ∷
    (0 ∷ 15 ∷ range 0 0 ++ range 2 19) ∷
    (0 ∷ 24 ∷ range 0 0 ++ range 2 19 ++ range 4 38) ∷
    []
unfolding above_got scanned range one two three five eight_tenths book_a body_a room limits opened
above_hold = refl

pub lowest_got : List (List ℕ)
lowest_got =
    scanned five smallest 18 ∷
    scanned two 0 12 ∷
    scanned two minus_zero 12 ∷
    []

pub lowest_hold :
    lowest_got ≡
    (0 ∷ 31 ∷ range 0 0 ++ range 2 19 ++ range 4 38) ∷
    (0 ∷ 9 ∷ 0 ∷ 2 ∷ 2 ∷ 0 ∷ 18 ∷ 18 ∷ replicate 6 7) ∷
    (0 ∷ 9 ∷ 0 ∷ 2 ∷ 2 ∷ 0 ∷ 18 ∷ 18 ∷ replicate 6 7) ∷
    []
unfolding lowest_got scanned range two five smallest minus_zero book_a body_a room limits opened
lowest_hold = refl

pub nought_got : List (List ℕ)
nought_got =
    scanned five 0 30 ∷
    scanned five minus_zero 30 ∷
    []

pub nought_hold :
    nought_got ≡
    (0 ∷ 24 ∷ range 4 38 ++ replicate 24 7) ∷
    (0 ∷ 24 ∷ range 4 38 ++ replicate 24 7) ∷
    []
unfolding nought_got scanned range five minus_zero book_a body_a room limits opened
nought_hold = refl

-- ---- one u32 less
pub short_got : List (List ℕ)
short_got =
    scanned one eight_tenths 5 ∷
    scanned two eight_tenths 5 ∷
    scanned three eight_tenths 11 ∷
    scanned five eight_tenths 17 ∷
    scanned five smallest 17 ∷
    scanned two 0 11 ∷
    scanned two minus_zero 11 ∷
    scanned five 0 29 ∷
    scanned five minus_zero 29 ∷
    scanned five 0 18 ∷
    scanned five minus_zero 18 ∷
    []

pub short_hold : short_got ≡ map (λ n. 10 ∷ 0 ∷ replicate n 7) (5 ∷ 5 ∷ 11 ∷ 17 ∷ 17 ∷ 11 ∷ 11 ∷ 29 ∷ 29 ∷ 18 ∷ 18 ∷ [])
unfolding short_got scanned one two three five eight_tenths smallest minus_zero book_a body_a room limits opened
short_hold = refl
