-- The lines that this program must write, as antt computes them from the definitions `scan` and `results_after` alone: `lines_hold` has the
-- program's calls on its left, and the text of the file `stdout` on its right.
-- Assumes nothing.
use mathlib.Core.Path.{◌≡◌, refl}
use mathlib.Core.Bool.{true}
use mathlib.Core.List.{List, [], ◌∷◌, ◌++◌}
use Prim.Native.Nat.{ℕ, zero, suc, ◌*◌}
use lib.Ieee.{of_bits, binary32}
use lib.ListN.{drop, get_or, replicate}
use Rattle.rules.specs.declared.Areas.{Areas}
use Rattle.rules.specs.declared.Limits.{Limits}
use Rattle.rules.specs.declared.Mode.{Mode}
use Rattle.rules.specs.declared.Mode.TheVariants.{Elimination, TopDown}
use Rattle.rules.specs.Sizes.{record_width}
use Rattle.rules.specs.Bytes.{text}
use Rattle.rules.specs.Book.{written, compiled}
use Rattle.rules.specs.Jobs.{scan, results_after}
use Rattle.rules.proofs.Opened.{opened}
use Rattle.questions.specs.Hex.{hex_glyph, hex_pairs}
use Rattle.questions.specs.Numbers.{digits, decimal, four_bytes}

-- the marked book
book : List ℕ
book = written 4 1 ++ written 2 1 ++ text "A" ++ written 4 45 ++ written 2 2 ++ compiled 1 (text "My First License")

areas : Areas
areas = record { bytes = 1088; words = 1600 }

limits : ℕ → ℕ → Limits
limits threshold shallow = record { threshold = of_bits binary32 threshold; shallow = of_bits binary32 shallow }

-- so many records of the results
records_of : ℕ → List ℕ → List ℕ
records_of zero r = []
records_of (suc n) r =
    text " ; " ++ decimal (get_or r 0 0) ++ text " " ++ decimal (get_or r 1 0) ++ text " " ++ decimal (get_or r 2 0) ++ text " " ++
    hex_pairs (four_bytes (get_or r 3 0)) ++ text " " ++ decimal (get_or r 4 0) ++ text " " ++ decimal (get_or r 5 0) ++ records_of n (drop record_width r)

line : List ℕ → Limits → Mode → ℕ → List ℕ
line t lim mode budget =
    let a = scan t (book ∷ []) lim mode budget areas (20 * record_width) in
    decimal a.refusal ++ text " " ++ decimal a.count ++ text " " ++ decimal a.records ++
    records_of a.records (results_after t (book ∷ []) lim mode budget areas (replicate (20 * record_width) 0)) ++ 10 ∷ []

pub second : ℕ → List ℕ
second budget =
    line (text "copyright 20xx me irl\n// My First License\nfn hello() {\n ...") (limits 0x3f666666 0x3f7d70a4) (Elimination true 10) budget

pub copies : ℕ → ℕ → List ℕ
copies step budget =
    line (text "My First License\nx y\nMy First License\nx y\nMy First License") (limits 0x3f666666 0x3f800000) (TopDown step) budget

pub lines_hold :
    second 0 ++ second 1 ++ second 8 ++ second 9 ++ second 19 ++ second 20 ++ second 18446744073709551615 ++
    copies 1 18446744073709551615 ++ copies 1 19 ++ copies 18446744073709551615 18446744073709551615 ≡
    text "12 0 0\n12 1 0\n12 8 0\n12 9 1 ; 0 1 2 3f800000 22 41\n12 19 1 ; 0 1 2 3f800000 22 41\n0 20 1 ; 0 1 2 3f800000 22 41\n0 20 1 ; 0 1 2 3f800000 22 41\n0 20 3 ; 0 0 1 3f800000 0 16 ; 0 2 3 3f800000 21 37 ; 0 4 5 3f800000 42 58\n12 19 2 ; 0 0 1 3f800000 0 16 ; 0 2 3 3f800000 21 37\n0 1 0\n"
unfolding second copies line records_of limits areas book digits decimal four_bytes hex_pairs hex_glyph opened
lines_hold = refl
