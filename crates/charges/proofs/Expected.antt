-- The lines that this program must write, as antt computes them from the definitions `allowed`, `allowed_results` and `charged` alone: `charges_hold` has the
-- program's calls on its left, and the text of the file `stdout` on its right.
-- Assumes nothing.
use mathlib.Core.Path.{◌≡◌, refl}
use mathlib.Core.Bool.{true}
use mathlib.Core.List.{List, [], ◌∷◌, ◌++◌}
use Prim.Native.Nat.{ℕ, zero, suc, ◌*◌}
use lib.Ieee.{of_bits, binary32}
use lib.ListN.{drop, get_or, replicate}
use Rattle.rules.specs.declared.Areas.{Areas}
use Rattle.rules.specs.declared.Limits.{Limits}
use Rattle.rules.specs.declared.Mode.TheVariants.{Elimination}
use Rattle.rules.specs.declared.Scanned.{Scanned}
use Rattle.rules.specs.Sizes.{record_width}
use Rattle.rules.specs.Bytes.{text}
use Rattle.rules.specs.Book.{written, compiled}
use Rattle.rules.proofs.Opened.{opened}
use Rattle.allowance.specs.declared.Allowance.{Allowance}
use Rattle.allowance.specs.Allowed.{of_allowed, allowed, allowed_results, charged}
use Rattle.questions.specs.Hex.{hex_glyph, hex_pairs}
use Rattle.questions.specs.Numbers.{digits, decimal, four_bytes}

-- the marked book
book : List ℕ
book = written 4 1 ++ written 2 1 ++ text "A" ++ written 4 45 ++ written 2 2 ++ compiled 1 (text "My First License")

areas : Areas
areas = record { bytes = 1088; words = 1600 }

limits : ℕ → ℕ → Limits
limits threshold shallow = record { threshold = of_bits binary32 threshold; shallow = of_bits binary32 shallow }

-- so many records of the results
records_of : ℕ → List ℕ → List ℕ
records_of zero r = []
records_of (suc n) r =
    text " ; " ++ decimal (get_or r 0 0) ++ text " " ++ decimal (get_or r 1 0) ++ text " " ++ decimal (get_or r 2 0) ++ text " " ++
    hex_pairs (four_bytes (get_or r 3 0)) ++ text " " ++ decimal (get_or r 4 0) ++ text " " ++ decimal (get_or r 5 0) ++ records_of n (drop record_width r)

-- an answer and the results, without the end of its line
told : Scanned → List ℕ → List ℕ
told a r = decimal a.refusal ++ text " " ++ decimal a.count ++ text " " ++ decimal a.records ++ records_of a.records r

no_results : List ℕ
no_results = replicate (20 * record_width) 0

text_two : List ℕ
text_two = text "copyright 20xx me irl\n// My First License\nfn hello() {\n ..."

-- a scan of text 2 that is charged to an allowance
pub within : ℕ → ℕ → List ℕ
within cap used =
    let x : Allowance = record { cap = cap; used = used } in
    let lim = limits 0x3f666666 0x3f7d70a4 in
    let a = allowed text_two (book ∷ []) lim (Elimination true 10) x areas (20 * record_width) in
    told a (allowed_results text_two (book ∷ []) lim (Elimination true 10) x areas no_results) ++ text " used " ++ decimal (charged x a).used ++ 10 ∷ []

pub charges_hold :
    within 50 0 ++ within 50 20 ++ within 50 40 ++ within 5 5 ++ within 5 6 ≡
    text "0 20 1 ; 0 1 2 3f800000 22 41 used 20\n0 20 1 ; 0 1 2 3f800000 22 41 used 40\n12 10 1 ; 0 1 2 3f800000 22 41 used 50\n12 0 0 used 5\n17 0 0 used 6\n"
unfolding within told no_results text_two records_of limits areas book of_allowed allowed allowed_results charged digits decimal four_bytes hex_pairs hex_glyph opened
charges_hold = refl
