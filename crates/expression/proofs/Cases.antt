-- What the definitions compute on the marked texts. The answers are the annex's, read by hand, and a chart parser's that was written apart.
-- Assumes nothing.
use Prim.Native.Nat.{ℕ}
use Prim.Native.String.{String}
use mathlib.Core.Path.{◌≡◌, refl}
use mathlib.Core.Bool.{Bool, true, false}
use mathlib.Core.List.{List, [], ◌∷◌, ◌++◌}
use lib.ListN.{replicate}
use Rattle.rules.specs.Bytes.{text, same, order, split, on_first, within, starts}
use Rattle.expression.specs.Reading as reading
use Rattle.expression.specs.Writing as writing
use Rattle.expression.specs.Reading.{Verdict, accepted, refused, verdict, and_word, or_word, with_word, license_ref, document_ref}
use Rattle.expression.specs.Writing.{spell, satisfied, neat}

words : (and_word ≡ text "AND") × (or_word ≡ text "OR") × (with_word ≡ text "WITH") × (license_ref ≡ text "LicenseRef-") × (document_ref ≡ text "DocumentRef-")
unfolding text
words = (refl, refl, refl, refl, refl)

-- a verdict: what would be written, or the refusal and its place
unfoldable tell : Verdict → List ℕ
tell (accepted t) = spell t
tell (refused k p) = k ∷ p ∷ []

unfoldable told : String → List ℕ
told s = tell (verdict (text s))

bad_got : List (List ℕ)
bad_got =
    told "" ∷ told "   " ∷ told "MIT MIT" ∷ told "MIT ANX" ∷ told "MIT AND" ∷ told "MIT AN" ∷
    told "AND OR" ∷ told "AND" ∷ told "MIT AND AND x" ∷ told "MIT WITH AND" ∷ told "(MIT)ANDISC" ∷
    told "(MIT) WITH x" ∷ told "MIT WITH x WITH y" ∷ told "GPL-2.0 +" ∷ told "MIT+AND x" ∷
    told "LicenseRef-x+" ∷ told "LicenseRef-" ∷ told "DocumentRef-a" ∷ told "DocumentRef-a:MIT" ∷ told "MIT and x" ∷ told "MIT\tOR x" ∷ []

bad : bad_got ≡
    (13 ∷ 0 ∷ []) ∷ (13 ∷ 3 ∷ []) ∷ (13 ∷ 4 ∷ []) ∷ (13 ∷ 6 ∷ []) ∷ (13 ∷ 7 ∷ []) ∷ (13 ∷ 6 ∷ []) ∷
    (13 ∷ 3 ∷ []) ∷ (13 ∷ 3 ∷ []) ∷ (13 ∷ 11 ∷ []) ∷ (13 ∷ 12 ∷ []) ∷ (13 ∷ 8 ∷ []) ∷
    (13 ∷ 6 ∷ []) ∷ (13 ∷ 11 ∷ []) ∷ (13 ∷ 8 ∷ []) ∷ (13 ∷ 4 ∷ []) ∷
    (13 ∷ 12 ∷ []) ∷ (13 ∷ 11 ∷ []) ∷ (13 ∷ 13 ∷ []) ∷ (13 ∷ 14 ∷ []) ∷ (13 ∷ 4 ∷ []) ∷ (13 ∷ 3 ∷ []) ∷ []
unfolding reading.opened writing.opened tell told bad_got text same order within starts
bad = refl

-- ---- 32 parentheses may be open at once, wherever they stand
unfoldable times : ℕ → List ℕ → List ℕ
times n s = repeated (replicate n s) where
  repeated : List (List ℕ) → List ℕ
  repeated [] = []
  repeated (x ∷ xs) = x ++ repeated xs

deep_got : List (List ℕ)
deep_got =
    tell (verdict (replicate 32 40 ++ text "a" ++ replicate 32 41)) ∷
    tell (verdict (replicate 33 40)) ∷
    tell (verdict (replicate 32 40 ++ text "a(")) ∷
    tell (verdict (replicate 32 40 ++ text "a OR (")) ∷
    tell (verdict (times 40 (text "(a)AND") ++ text "(b)")) ∷ []

deep : deep_got ≡
    text "a" ∷ (14 ∷ 32 ∷ []) ∷ (13 ∷ 33 ∷ []) ∷ (14 ∷ 37 ∷ []) ∷ (times 40 (text "a AND ") ++ text "b") ∷ []
unfolding reading.opened writing.opened tell deep_got times text same order within starts
deep = refl

-- ---- writing, and whether it changes anything
written_got : List (List ℕ)
written_got =
    told "MIT OR (Apache-2.0 AND BSD-3-Clause)" ∷ told "(a OR b)AND(c OR d)" ∷ told "a AND ((b OR c))" ∷
    told "((a OR b) AND (c)) AND d" ∷ told "( a )OR(b AND(c))" ∷ told "  GPL-2.0+   WITH   x-exception  " ∷
    told "DocumentRef-a:LicenseRef-b.c WITH d" ∷ told "and AND or" ∷ told "a OR b AND c OR d" ∷ told "licenseref-a+ OR LicenseRef" ∷ []

written : written_got ≡
    text "MIT OR Apache-2.0 AND BSD-3-Clause" ∷ text "(a OR b) AND (c OR d)" ∷ text "a AND (b OR c)" ∷
    text "(a OR b) AND c AND d" ∷ text "a OR b AND c" ∷ text "GPL-2.0+ WITH x-exception" ∷
    text "DocumentRef-a:LicenseRef-b.c WITH d" ∷ text "and AND or" ∷ text "a OR b AND c OR d" ∷ text "licenseref-a+ OR LicenseRef" ∷ []
unfolding reading.opened writing.opened tell told written_got text same order within starts
written = refl

neat_got : List Bool
neat_got =
    neat (text "a AND (b OR c)") ∷ neat (text "a AND (b)") ∷ neat (text "(a OR b)AND  c") ∷ neat (text "a ") ∷ neat (text "a  OR b") ∷
    neat (text "(a OR b)") ∷ neat (text "a WITH  b") ∷ neat (text "") ∷ neat (text "a AND b OR c+ WITH d") ∷ []

neatly : neat_got ≡ true ∷ false ∷ false ∷ false ∷ false ∷ false ∷ false ∷ false ∷ true ∷ []
unfolding reading.opened writing.opened neat_got text same order within starts
neatly = refl

-- ---- satisfaction
unfoldable holding : List ℕ → Verdict → Bool
holding list (accepted t) = satisfied list t
holding list (refused k p) = false

unfoldable asked : String → String → Bool
asked list s = holding (text list) (verdict (text s))

satisfied_got : List Bool
satisfied_got =
    asked "mit" "MIT OR (Apache-2.0 AND BSD-3-Clause)" ∷ asked "apache-2.0\nBSD-3-CLAUSE" "MIT OR (Apache-2.0 AND BSD-3-Clause)" ∷
    asked "Apache-2.0" "MIT OR (Apache-2.0 AND BSD-3-Clause)" ∷ asked "GPL-2.0" "GPL-2.0+" ∷ asked "GPL-2.0+" "GPL-2.0" ∷
    asked "b" "a OR b AND c" ∷ asked "a" "(a OR b) AND c" ∷ asked "x\n\nGPL-2.0+ WITH E\n" "gpl-2.0+   WITH e" ∷ asked "a WITH b" "a" ∷
    asked "a" "a WITH b" ∷ asked "" "a" ∷ []

satisfies : satisfied_got ≡
    true ∷ true ∷ false ∷ false ∷ false ∷ false ∷ false ∷ true ∷ false ∷ false ∷ false ∷ []
unfolding reading.opened writing.opened holding asked satisfied_got text same order split on_first within starts
satisfies = refl

-- a line that is no part, or is not as it would be written, accepts nothing
lines_got : List Bool
lines_got =
    asked "AND" "and" ∷ asked "And" "and" ∷ asked "LicenseRef-a+" "licenseref-a+" ∷ asked "LicenseRef-a" "licenseref-a" ∷ asked " a" "a" ∷
    asked "a " "a" ∷ asked "a\r" "a" ∷ asked "(a)" "a" ∷ asked "a OR b" "a" ∷ asked "a  WITH b" "a WITH b" ∷ asked "a with b" "a WITH b" ∷
    asked "DocumentRef-A:LicenseRef-B" "DocumentRef-a:LicenseRef-b" ∷ asked "documentref-a:LicenseRef-b" "DocumentRef-a:LicenseRef-b" ∷ []

lines : lines_got ≡
    false ∷ true ∷ false ∷ true ∷ false ∷ false ∷ false ∷ false ∷ false ∷ false ∷ false ∷ true ∷ false ∷ []
unfolding reading.opened writing.opened holding asked lines_got text same order split on_first within starts
lines = refl
