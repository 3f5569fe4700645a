-- Where records stand in the note, in bytes: what the definitions compute. Answers from a model written apart.
-- Assumes nothing.
use Prim.Native.Nat.{ℕ}
use mathlib.Core.Path.{◌≡◌, refl}
use mathlib.Core.Bool.{true}
use mathlib.Core.List.{List, [], ◌∷◌, ◌++◌, map}
use lib.ListN.{replicate}
use Rattle.rules.specs.declared.Mode.{Mode}
use Rattle.rules.specs.declared.Mode.TheVariants.{Elimination, TopDown}
use Rattle.rules.specs.Bytes.{text}
use Rattle.rules.specs.Points.{encoded}
use Rattle.rules.specs.Lines.{line_start, line_end, range_end}
use Rattle.rules.specs.Book.{written}
use Rattle.rules.specs.Jobs.{scan, results_after}
use Rattle.rules.proofs.Opened.{opened}
use Rattle.rules.proofs.Cases.{body_a, book_a, note, rec, body, entry, with, slim, room, limits}

-- ---- the lines of a text: three of bytes, one of them with a carriage return, and an empty one behind the last newline
mixed : List ℕ
mixed = text "ab\nc\r\n\n"

up_to : List ℕ
up_to = 0 ∷ 1 ∷ 2 ∷ 3 ∷ 4 ∷ 5 ∷ []

pub lines_got : List (List ℕ)
lines_got =
    map (λ k. line_start k mixed) up_to ∷
    map (λ k. line_end k mixed) up_to ∷
    map (λ k. range_end 1 k mixed) (1 ∷ 2 ∷ 3 ∷ 4 ∷ []) ∷
    map (λ k. range_end k k mixed) up_to ∷
    map (λ k. line_start k []) up_to ∷
    []

pub lines_hold :
    lines_got ≡
    (0 ∷ 3 ∷ 6 ∷ 7 ∷ 7 ∷ 7 ∷ []) ∷
    (2 ∷ 5 ∷ 6 ∷ 7 ∷ 7 ∷ 7 ∷ []) ∷
    (3 ∷ 5 ∷ 6 ∷ 7 ∷ []) ∷
    (0 ∷ 3 ∷ 6 ∷ 7 ∷ 7 ∷ 7 ∷ []) ∷
    (0 ∷ 0 ∷ 0 ∷ 0 ∷ 0 ∷ 0 ∷ []) ∷
    []
unfolding lines_got mixed up_to opened
lines_hold = refl

-- ---- scans, over the books of Cases: `My First License`, and `a b`, which is cheap to score often
-- the first of edition 3
wide_a : List ℕ
wide_a = rec 6 (written 2 3) ++ book_a

-- the refusal, then results of so many u32, 7 at entry; the shallow limit is 1.0
scanned : List ℕ → List (List ℕ) → ℕ → Mode → ℕ → List ℕ
scanned t bs threshold mode results =
    let lim = limits threshold 0x3f800000 in
    (scan t bs lim mode 99 room results).refusal ∷ results_after t bs lim mode 99 room (replicate results 7)

-- elimination, one pass, at a threshold of 0.6, and at 0.0
once : List ℕ → List ℕ
once t = scanned t (book_a ∷ []) 0x3f19999a (Elimination true 1) 6

lowest : List ℕ → List ℕ
lowest t = scanned t (book_a ∷ []) 0 (Elimination true 1) 6

pub ranges_got : List (List ℕ)
ranges_got =
    once (text "copyright 20xx me irl\r\n// My First License\r\nfn hello() {\r\n ...") ∷
    -- a newline at the end is no byte of the last line, but one of the range over both
    once (text "My First License\n") ∷
    once (text "\nMy First License") ∷
    once (text "x\nMy First License\ny") ∷
    -- in edition 3 bytes, not code points
    scanned (encoded (text "é\nMy First License")) (wide_a ∷ []) 0x3f19999a (Elimination true 1) 6 ∷
    -- in the second of two books
    scanned (text "x\na b") (book_a ∷ slim ∷ []) 0x3f19999a (Elimination true 1) 6 ∷
    -- a second range over a line that is blanked, whose bytes still count
    scanned (text "a\na b\nb") (slim ∷ []) 0x3f000000 (Elimination true 2) 12 ∷
    -- top-down: the line between two ranges belongs to neither
    scanned (text "a b\nx\na b\n\na b") (slim ∷ []) 0x3f666666 (TopDown 1) 30 ∷
    []

pub ranges_hold :
    ranges_got ≡
    (0 ∷ 0 ∷ 1 ∷ 2 ∷ 0x3f800000 ∷ 23 ∷ 43 ∷ []) ∷
    (0 ∷ 0 ∷ 0 ∷ 2 ∷ 0x3f800000 ∷ 0 ∷ 17 ∷ []) ∷
    (0 ∷ 0 ∷ 1 ∷ 2 ∷ 0x3f800000 ∷ 1 ∷ 17 ∷ []) ∷
    (0 ∷ 0 ∷ 1 ∷ 2 ∷ 0x3f800000 ∷ 2 ∷ 18 ∷ []) ∷
    (0 ∷ 0 ∷ 1 ∷ 2 ∷ 0x3f800000 ∷ 3 ∷ 19 ∷ []) ∷
    (0 ∷ 1 ∷ 1 ∷ 2 ∷ 0x3f800000 ∷ 2 ∷ 5 ∷ []) ∷
    (0 ∷ 0 ∷ 1 ∷ 2 ∷ 0x3f800000 ∷ 2 ∷ 5 ∷ 0 ∷ 0 ∷ 3 ∷ 0x3f800000 ∷ 0 ∷ 7 ∷ []) ∷
    (0 ∷ (0 ∷ 0 ∷ 1 ∷ 0x3f800000 ∷ 0 ∷ 3 ∷ 0 ∷ 2 ∷ 4 ∷ 0x3f800000 ∷ 6 ∷ 10 ∷ []) ++ replicate 18 7) ∷
    []
unfolding ranges_got wide_a scanned once lowest slim with body entry rec note book_a body_a room limits opened
ranges_hold = refl

pub empty_got : List (List ℕ)
empty_got =
    -- the empty range at L, where the note ends
    lowest [] ∷
    scanned [] (book_a ∷ []) 0 (TopDown 1) 6 ∷
    lowest (text "x\ny") ∷
    lowest (text "x\ny\n") ∷
    -- and before L, where line 6 starts, not where line 5 ends
    scanned (text "my first\n\n\n\nMy First License\n\nmy first") (book_a ∷ []) 0 (Elimination true 2) 12 ∷
    -- results of 6 for each pass
    scanned note (book_a ∷ []) 0x3f19999a (Elimination true 1) 5 ∷
    []

pub empty_hold :
    empty_got ≡
    (0 ∷ 0 ∷ 1 ∷ 1 ∷ 0 ∷ 0 ∷ 0 ∷ []) ∷
    (0 ∷ 0 ∷ 1 ∷ 1 ∷ 0 ∷ 0 ∷ 0 ∷ []) ∷
    (0 ∷ 0 ∷ 2 ∷ 2 ∷ 0 ∷ 3 ∷ 3 ∷ []) ∷
    (0 ∷ 0 ∷ 3 ∷ 3 ∷ 0 ∷ 4 ∷ 4 ∷ []) ∷
    (0 ∷ 0 ∷ 4 ∷ 6 ∷ 0x3f800000 ∷ 12 ∷ 29 ∷ 0 ∷ 6 ∷ 6 ∷ 0 ∷ 30 ∷ 30 ∷ []) ∷
    (10 ∷ replicate 5 7) ∷
    []
unfolding empty_got wide_a scanned once lowest slim with body entry rec note book_a body_a room limits opened
empty_hold = refl
