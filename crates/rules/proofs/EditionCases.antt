-- Editions 1 and 2: what the definitions compute of lines, books, compile and lent books. Answers from a model written apart.
-- Assumes nothing.
use Prim.Native.Nat.{ℕ}
use Prim.Native.String.{String}
use mathlib.Core.Path.{◌≡◌, refl}
use mathlib.Core.Bool.{false}
use mathlib.Core.List.{List, [], ◌∷◌, ◌++◌}
use lib.ListN.{length, take, replicate}
use lib.Ieee.{to_bits, of_bits, binary32}
use Rattle.rules.specs.declared.Areas.{Areas}
use Rattle.rules.specs.declared.Limits.{Limits}
use Rattle.rules.specs.declared.Mode.TheVariants.{Elimination, TopDown}
use Rattle.rules.specs.Bytes.{text}
use Rattle.rules.specs.Lines.{line}
use Rattle.rules.specs.Search.{view}
use Rattle.rules.specs.Book.{written, compiled, edition}
use Rattle.rules.specs.Jobs.{area_after, check, compile, output_after, score_job, bounds_job, scan, name_job}
use Rattle.rules.proofs.Opened.{opened}

rec : ℕ → List ℕ → List ℕ
rec kind body = written 4 (length body) ++ written 2 kind ++ body

says : ℕ → List ℕ
says e = rec 6 (written 2 e)

licence : ℕ → String → String → List ℕ
licence e n s = rec 1 (text n) ++ rec 2 (compiled e (text s))

-- two licences that only the 4 tells apart
four : ℕ → List ℕ
four e = licence e "G4" "version 4 now" ++ licence e "G5" "version now"

two : List ℕ
two = says 2 ++ four 2

room : Areas
room = record { bytes = 100_000; words = 100_000 }

none : Areas
none = record { bytes = 0; words = 0 }

-- ---- the line passes
pub lines_got : List (List ℕ)
lines_got = line 1 (text "GPL 4x") ∷ line 2 (text "GPL 4x") ∷ line 1 (text "4/4|4") ∷ line 2 (text "4/4|4") ∷ line 2 (text "a \t\\/ 44") ∷ []

pub lines_hold : lines_got ≡ text "GPL x" ∷ text "GPL 4x" ∷ [] ∷ text "4 44" ∷ text "a 44" ∷ []
unfolding lines_got opened
lines_hold = refl

-- ---- books: refusal, N, and the edition that its bytes say
checked : List ℕ → List ℕ
checked b = (check b).refusal ∷ (check b).texts ∷ edition b ∷ []

pub books_got : List (List ℕ)
books_got =
    checked [] ∷
    checked (says 2) ∷
    checked two ∷
    checked (four 1) ∷
    -- tables of the other edition
    checked (says 2 ++ four 1) ∷
    -- another number
    checked (says 1 ++ four 1) ∷
    checked (says 0 ++ four 1) ∷
    checked (says 4 ++ four 1) ∷
    checked (says 512 ++ four 1) ∷
    -- another length
    checked (rec 6 [] ++ four 2) ∷
    checked (rec 6 (2 ∷ []) ++ four 2) ∷
    checked (rec 6 (2 ∷ 0 ∷ 0 ∷ []) ++ four 2) ∷
    checked (rec 6 (2 ∷ 0 ∷ 0 ∷ 0 ∷ []) ++ four 2) ∷
    -- twice, after a name, after a text, last, broken off
    checked (says 2 ++ two) ∷
    checked (rec 1 (text "A") ++ says 2 ++ rec 2 (compiled 2 [])) ∷
    checked (rec 1 (text "A") ++ rec 2 (compiled 2 []) ++ says 2 ++ rec 3 (compiled 2 [])) ∷
    checked (four 2 ++ says 2) ∷
    checked (take 7 (says 2)) ∷
    -- behind it a text, an alias, a name alone
    checked (says 2 ++ rec 2 (compiled 2 [])) ∷
    checked (says 2 ++ rec 5 (text "A")) ∷
    checked (says 2 ++ rec 1 (text "A")) ∷
    -- the first record says 2, and all behind it is broken
    checked (says 2 ++ 1 ∷ []) ∷
    []

pub books_hold :
    books_got ≡
    (0 ∷ 0 ∷ 1 ∷ []) ∷
    (0 ∷ 0 ∷ 2 ∷ []) ∷
    (0 ∷ 2 ∷ 2 ∷ []) ∷
    (0 ∷ 2 ∷ 1 ∷ []) ∷
    (0 ∷ 2 ∷ 2 ∷ []) ∷
    (4 ∷ 0 ∷ 1 ∷ []) ∷
    (4 ∷ 0 ∷ 1 ∷ []) ∷
    (4 ∷ 0 ∷ 1 ∷ []) ∷
    (4 ∷ 0 ∷ 1 ∷ []) ∷
    (4 ∷ 0 ∷ 1 ∷ []) ∷
    (4 ∷ 0 ∷ 1 ∷ []) ∷
    (4 ∷ 0 ∷ 1 ∷ []) ∷
    (4 ∷ 0 ∷ 1 ∷ []) ∷
    (4 ∷ 0 ∷ 2 ∷ []) ∷
    (4 ∷ 0 ∷ 1 ∷ []) ∷
    (4 ∷ 0 ∷ 1 ∷ []) ∷
    (4 ∷ 0 ∷ 1 ∷ []) ∷
    (4 ∷ 0 ∷ 1 ∷ []) ∷
    (4 ∷ 0 ∷ 2 ∷ []) ∷
    (4 ∷ 0 ∷ 2 ∷ []) ∷
    (4 ∷ 0 ∷ 2 ∷ []) ∷
    (4 ∷ 0 ∷ 2 ∷ []) ∷
    []
unfolding books_got checked two four licence says rec opened
books_hold = refl

-- ---- compile: refusal and length, then the front of the output and a work area, both of 9 at entry
compiling : ℕ → List ℕ → Areas → ℕ → List ℕ
compiling e t a out =
    let r = compile e t a out in
    r.refusal ∷ r.len ∷ take 2 (output_after e t a (replicate out 9)) ++ area_after r.refusal (9 ∷ [])

pub compile_got : List (List ℕ)
compile_got =
    compiling 1 (text "a 4") room 99 ∷
    compiling 2 (text "a 4") room 99 ∷
    compiling 2 (text "a 4") room 18 ∷
    -- the edition after the text and before the areas and the output
    compiling 0 (text "a 4") room 99 ∷
    compiling 4 (text "a 4") room 99 ∷
    compiling 65_538 (text "a 4") room 99 ∷
    compiling 4_294_967_295 (text "a 4") room 99 ∷
    compiling 0 (128 ∷ []) room 99 ∷
    compiling 4 [] none 0 ∷
    compiling 9 (text "a 4") room 0 ∷
    []

pub compile_hold :
    compile_got ≡
    (0 ∷ 8 ∷ 0 ∷ 0 ∷ 0 ∷ []) ∷
    (0 ∷ 19 ∷ 1 ∷ 0 ∷ 0 ∷ []) ∷
    (11 ∷ 0 ∷ 9 ∷ 9 ∷ 0 ∷ []) ∷
    (4 ∷ 0 ∷ 9 ∷ 9 ∷ 9 ∷ []) ∷
    (4 ∷ 0 ∷ 9 ∷ 9 ∷ 9 ∷ []) ∷
    (4 ∷ 0 ∷ 9 ∷ 9 ∷ 9 ∷ []) ∷
    (4 ∷ 0 ∷ 9 ∷ 9 ∷ 9 ∷ []) ∷
    (2 ∷ 0 ∷ 9 ∷ 9 ∷ 9 ∷ []) ∷
    (4 ∷ 0 ∷ 9 ∷ []) ∷
    (4 ∷ 0 ∷ 9 ∷ []) ∷
    []
unfolding compile_got compiling room none opened
compile_hold = refl

-- ---- lent books
-- refusal, count, score bits, the name
above : ℕ → String → List (List ℕ) → List ℕ
above threshold s bs =
    let lim : Limits = record { threshold = of_bits binary32 threshold; shallow = of_bits binary32 0x3f000000 } in
    let r = scan (text s) bs lim (Elimination false 0) 9 room 0 in
    r.refusal ∷ r.count ∷ to_bits binary32 r.score ∷ take r.len r.name

scanned : String → List (List ℕ) → List ℕ
scanned s bs = above 0x3f000000 s bs

-- the numbers alone, where all else is refused behind it: no limit, no view, no number, no area
refused : List (List ℕ) → List ℕ
refused bs =
    let lim : Limits = record { threshold = of_bits binary32 0x7fc00000; shallow = of_bits binary32 0x7fc00000 } in
    (scan [] bs lim (TopDown 0) 9 none 0).refusal ∷ (score_job [] bs (view 1 0) 9 none).refusal ∷ (bounds_job [] bs (view 1 0) 9 none).refusal ∷ (name_job bs 9).refusal ∷ []

pub lent_got : List (List ℕ)
lent_got =
    scanned "version now" (four 1 ∷ []) ∷
    scanned "version now" (two ∷ []) ∷
    scanned "version 4 now" (four 1 ∷ []) ∷
    scanned "version 4 now" (two ∷ []) ∷
    scanned "version now" (two ∷ two ∷ []) ∷
    scanned "version now" (two ∷ says 2 ∷ []) ∷
    scanned "version now" (says 2 ∷ two ∷ []) ∷
    scanned "a" (four 1 ∷ two ∷ []) ∷
    scanned "a" (two ∷ four 1 ∷ []) ∷
    scanned "a" (two ∷ [] ∷ []) ∷
    scanned "a" ([] ∷ two ∷ []) ∷
    refused (four 1 ∷ two ∷ []) ∷
    refused (two ∷ [] ∷ []) ∷
    refused (two ∷ []) ∷
    -- 5 before it, and 4 before both
    refused (says 2 ∷ [] ∷ []) ∷
    refused ([] ∷ says 2 ∷ []) ∷
    refused (says 2 ∷ []) ∷
    refused (two ∷ says 1 ∷ []) ∷
    []

pub lent_hold :
    lent_got ≡
    (0 ∷ 2 ∷ 0x3f800000 ∷ text "G4") ∷
    (0 ∷ 2 ∷ 0x3f800000 ∷ text "G5") ∷
    (0 ∷ 2 ∷ 0x3f800000 ∷ text "G4") ∷
    (0 ∷ 2 ∷ 0x3f800000 ∷ text "G4") ∷
    (0 ∷ 4 ∷ 0x3f800000 ∷ text "G5") ∷
    (0 ∷ 2 ∷ 0x3f800000 ∷ text "G5") ∷
    (0 ∷ 2 ∷ 0x3f800000 ∷ text "G5") ∷
    (15 ∷ 0 ∷ 0 ∷ []) ∷
    (15 ∷ 0 ∷ 0 ∷ []) ∷
    (15 ∷ 0 ∷ 0 ∷ []) ∷
    (15 ∷ 0 ∷ 0 ∷ []) ∷
    (15 ∷ 15 ∷ 15 ∷ 15 ∷ []) ∷
    (15 ∷ 15 ∷ 15 ∷ 15 ∷ []) ∷
    (6 ∷ 8 ∷ 8 ∷ 9 ∷ []) ∷
    (5 ∷ 5 ∷ 5 ∷ 5 ∷ []) ∷
    (5 ∷ 5 ∷ 5 ∷ 5 ∷ []) ∷
    (5 ∷ 5 ∷ 5 ∷ 5 ∷ []) ∷
    (4 ∷ 4 ∷ 4 ∷ 4 ∷ []) ∷
    []
unfolding lent_got scanned above refused two four licence says rec room none opened
lent_hold = refl
