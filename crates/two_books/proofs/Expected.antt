-- The lines that this program must write, as antt computes them from the definitions `scan`, `score_job` and `bounds_job` alone: `lines_hold` and then
-- `editions_hold` have the program's calls on their left, and the text of the file `stdout` on their right.
-- Assumes nothing.
use mathlib.Core.Path.{◌≡◌, refl}
use mathlib.Core.Bool.{false, cond}
use mathlib.Core.List.{List, [], ◌∷◌, ◌++◌}
use Prim.Native.Nat.{ℕ}
use Prim.Native.String.{String}
use lib.Ieee.{Float, to_bits, of_bits, binary32}
use lib.ListN.{length, take}
use Rattle.rules.specs.declared.Areas.{Areas}
use Rattle.rules.specs.declared.Limits.{Limits}
use Rattle.rules.specs.declared.Mode.TheVariants.{Elimination}
use Rattle.rules.specs.Bytes.{text}
use Rattle.rules.specs.Search.{view}
use Rattle.rules.specs.Book.{part_in, written, compiled}
use Rattle.rules.specs.Jobs.{scan, score_job, bounds_job}
use Rattle.rules.proofs.Opened.{opened}
use Rattle.questions.specs.Hex.{hex_glyph, hex_pairs}
use Rattle.questions.specs.Numbers.{digits, decimal, four_bytes}

rec : ℕ → List ℕ → List ℕ
rec kind body = written 4 (length body) ++ written 2 kind ++ body

under : ℕ → String → String → List ℕ
under e n s = rec 1 (text n) ++ rec 2 (compiled e (text s))

licence : String → String → List ℕ
licence n s = under 1 n s

pub a : List ℕ
a = licence "A" "My First License"

pub b : List ℕ
b = licence "B" "another text of some words"

pub c : List ℕ
c = licence "C" "My First License"

-- an edition 2 book of two licences that only the 4 tells apart
pub f : List ℕ
f = rec 6 (written 2 2) ++ under 2 "G4" "version 4 now" ++ under 2 "G5" "version now"

areas : Areas
areas = record { bytes = 320; words = 448 }

half : Float
half = of_bits binary32 0x3f000000

spaced : List ℕ → List ℕ
spaced s = s ++ text " "

bits : Float → List ℕ
bits x = hex_pairs (four_bytes (to_bits binary32 x))

-- the scan of these lent books, whose names stand in the first or the second
pub line : List ℕ → List (List ℕ) → List ℕ → List ℕ → ℕ → List ℕ
line t bs first second budget =
    let lim : Limits = record { threshold = half; shallow = half } in
    let r = scan t bs lim (Elimination false 0) budget areas 0 in
    spaced (decimal r.refusal) ++ spaced (decimal r.count) ++ spaced (decimal r.kind) ++ spaced (decimal (cond r.part.second 1 0)) ++
    spaced (decimal r.part.at) ++ spaced (decimal r.part.len) ++ part_in first second r.part ++ 10 ∷ []

note : List ℕ
note = text "My First License"

pub both : List ℕ → List ℕ → ℕ → List ℕ
both first second budget = line note (first ∷ second ∷ []) first second budget

abbrev single : List ℕ → List ℕ → List ℕ
single t book = line t (book ∷ []) book [] 9

pub alone : List ℕ → List ℕ
alone book = single note book

pub double : List ℕ → List ℕ → List ℕ
double first second = line (text "version now") (first ∷ second ∷ []) first second 9

pub viewed : ℕ → List ℕ
viewed k =
    let bs = b ∷ a ∷ [] in
    let s = score_job note bs (view 0 1) k areas in
    let f = bounds_job note bs (view 0 1) k areas in
    spaced (decimal s.refusal) ++ spaced (bits s.score) ++ spaced (decimal f.refusal) ++ spaced (decimal f.first) ++ spaced (decimal f.after) ++
    spaced (bits f.score) ++ decimal f.count ++ 10 ∷ []

pub lines_hold :
    both a b 9 ++ both b a 9 ++ both a a 9 ++ both (b ++ c) a 9 ++ both b (a ++ c) 9 ++ both [] a 9 ++ both a [] 9 ++ both [] [] 9 ++
    both a (take 57 a) 9 ++ both [] (take 57 a) 9 ++ both b a 1 ++ line (text "none of it") (b ∷ a ∷ []) b a 9 ++
    alone a ++ alone (b ++ c) ++ alone [] ++ alone (take 57 a) ++ viewed 0 ++ viewed 1 ++ viewed 2 ≡
    text "0 2 2 0 6 1 A\n0 2 2 1 6 1 A\n0 2 2 0 6 1 A\n0 3 2 0 95 1 C\n0 3 2 1 6 1 A\n0 1 2 1 6 1 A\n0 1 2 0 6 1 A\n5 0 0 0 0 0 \n4 0 0 0 0 0 \n4 0 0 0 0 0 \n12 1 0 0 0 0 \n0 2 0 0 0 0 \n0 1 2 0 6 1 A\n0 2 2 0 95 1 C\n5 0 0 0 0 0 \n4 0 0 0 0 0 \n0 00000000 0 1 1 00000000 4\n0 3f800000 0 0 1 3f800000 4\n9 00000000 9 0 0 00000000 0\n"
unfolding both alone viewed line under bits spaced half areas note a b c licence rec digits decimal four_bytes hex_pairs hex_glyph opened
lines_hold = refl

pub editions_hold :
    single (text "version now") f ++ single (text "version 4 now") f ++ double f f ++ double f (take 8 f) ++ double f a ++ double a f ++ double f [] ++ double (take 8 f) [] ≡
    text "0 2 2 0 66 2 G5\n0 2 2 0 14 2 G4\n0 4 2 0 66 2 G5\n0 2 2 0 66 2 G5\n15 0 0 0 0 0 \n15 0 0 0 0 0 \n15 0 0 0 0 0 \n5 0 0 0 0 0 \n"
unfolding double line under spaced half areas a f licence rec digits decimal opened
editions_hold = refl
