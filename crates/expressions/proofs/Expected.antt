-- The lines that this program must write, as antt computes them from the definitions `satisfy`, `neat`, `spelled_as` and `written_as` alone: `lines_hold`
-- has the program's calls on its left, and the lines of the file `stdout` on its right.
-- Assumes nothing.
use Prim.Native.Nat.{ℕ, zero, suc, ◌-◌}
use Prim.Native.String.{String}
use mathlib.Core.Path.{◌≡◌, refl}
use mathlib.Core.Bool.{Bool, cond}
use mathlib.Core.List.{List, [], ◌∷◌, ◌++◌, map}
use lib.ListN.{replicate, take}
use Rattle.rules.specs.Bytes.{text}
use Rattle.rules.proofs.Opened as rules
use Rattle.questions.specs.Numbers.{digits, decimal}
use Rattle.expression.specs.Reading.{verdict}
use Rattle.expression.specs.Writing.{neat}
use Rattle.expression.specs.Jobs.{satisfy, spelled_as, written_as}
use Rattle.expression.specs.Reading as reading
use Rattle.expression.specs.Writing as writing
use Rattle.expression.specs.Jobs as jobs

-- a number, and a blank
number : ℕ → List ℕ
number x = decimal x ++ 32 ∷ []

flag : Bool → List ℕ
flag b = number (cond b 1 0)

-- the numbers of a line, with an output of so many bytes
numbers : List ℕ → List ℕ → ℕ → List ℕ
numbers list s room =
    let a = satisfy s list in
    let w = spelled_as (verdict s) room in
    number a.refusal ++ number a.place ++ flag a.satisfied ++ flag (neat s) ++ number w.refusal ++ number w.place ++ number w.len

line : List ℕ → List ℕ → List ℕ
line list s = numbers list s 256 ++ take (spelled_as (verdict s) 256).len (written_as (verdict s) (replicate 256 35))

ask : String → String → List ℕ
ask list s = line (text list) (text s)

marked : List ℕ
marked = text "MIT\nx\na"

refuse : String → List ℕ
refuse s = line marked (text s)

write : String → List ℕ
write s = ask "a" s

nested : ℕ → List ℕ
nested depth = line (text "a") (replicate depth 40 ++ 97 ∷ replicate depth 41)

times : ℕ → List ℕ → List ℕ
times zero s = []
times (suc n) s = s ++ times n s

-- so much room of 40 bytes, all of which are shown
fit : String → ℕ → List ℕ
fit s room = numbers (text "a") (text s) room ++ written_as (verdict (text s)) (replicate room 35) ++ replicate (40 - room) 35

pub got : List (List ℕ)
got =
    refuse "" ∷ refuse "   " ∷ refuse "MIT MIT" ∷ refuse "MIT ANX" ∷ refuse "MIT AND" ∷ refuse "MIT AN" ∷ refuse "AND OR" ∷ refuse "AND" ∷
    refuse "MIT AND AND x" ∷ refuse "(MIT)ANDISC" ∷ refuse "MIT and x" ∷ refuse "MIT\tOR x" ∷
    line marked (text "MIT" ++ 255 ∷ []) ∷
    refuse "MIT WITH AND" ∷ refuse "(MIT) WITH x" ∷ refuse "MIT WITH x WITH y" ∷ refuse "GPL-2.0 +" ∷ refuse "MIT+AND x" ∷
    refuse "LicenseRef-x+" ∷ refuse "LicenseRef-" ∷ refuse "DocumentRef-a" ∷ refuse "DocumentRef-a:MIT" ∷
    nested 31 ∷ nested 32 ∷ nested 33 ∷
    line marked (replicate 33 40) ∷ line marked (replicate 32 40 ++ text "a(") ∷ line marked (replicate 32 40 ++ text "a OR (") ∷
    line (text "a") (times 40 (text "(a)AND") ++ text "(b)") ∷
    write "MIT OR (Apache-2.0 AND BSD-3-Clause)" ∷ write "(a OR b)AND(c OR d)" ∷ write "a AND ((b OR c))" ∷
    write "((a OR b) AND (c)) AND d" ∷ write "( a )OR(b AND(c))" ∷ write "  GPL-2.0+   WITH   x-exception  " ∷
    write "DocumentRef-a:LicenseRef-b.c WITH d" ∷ write "and AND or" ∷ write "a OR b AND c OR d" ∷ write "licenseref-a+ OR LicenseRef" ∷
    write "a AND (b OR c)" ∷ write "a AND (b)" ∷ write "(a OR b)AND  c" ∷ write "a " ∷ write "a  OR b" ∷ write "(a OR b)" ∷
    write "a WITH  b" ∷ write "a AND b OR c+ WITH d" ∷
    ask "mit" "MIT OR (Apache-2.0 AND BSD-3-Clause)" ∷ ask "apache-2.0\nBSD-3-CLAUSE" "MIT OR (Apache-2.0 AND BSD-3-Clause)" ∷
    ask "Apache-2.0" "MIT OR (Apache-2.0 AND BSD-3-Clause)" ∷ ask "GPL-2.0" "GPL-2.0+" ∷ ask "GPL-2.0+" "GPL-2.0" ∷ ask "b" "a OR b AND c" ∷
    ask "a" "(a OR b) AND c" ∷ ask "x\n\nGPL-2.0+ WITH E\n" "gpl-2.0+   WITH e" ∷ ask "a WITH b" "a" ∷ ask "a" "a WITH b" ∷ ask "" "a" ∷
    ask "AND" "and" ∷ ask "And" "and" ∷ ask "LicenseRef-a+" "licenseref-a+" ∷ ask "LicenseRef-a" "licenseref-a" ∷ ask " a" "a" ∷
    ask "a " "a" ∷ ask "a\r" "a" ∷ ask "(a)" "a" ∷ ask "a OR b" "a" ∷ ask "a  WITH b" "a WITH b" ∷ ask "a with b" "a WITH b" ∷
    ask "DocumentRef-A:LicenseRef-B" "DocumentRef-a:LicenseRef-b" ∷ ask "documentref-a:LicenseRef-b" "DocumentRef-a:LicenseRef-b" ∷
    fit "(a OR b)AND(c OR d)" 22 ∷ fit "(a OR b)AND(c OR d)" 21 ∷ fit "(a OR b)AND(c OR d)" 20 ∷ fit "(a OR b)AND(c OR d)" 0 ∷
    fit "MIT OR (Apache-2.0 AND BSD-3-Clause)" 34 ∷ fit "MIT OR (Apache-2.0 AND BSD-3-Clause)" 33 ∷ fit "( a )" 1 ∷ fit "( a )" 0 ∷
    fit "MIT MIT" 40 ∷ []

pub lines_hold : got ≡ map text (
    "13 0 0 0 13 0 0 " ∷
    "13 3 0 0 13 3 0 " ∷
    "13 4 0 0 13 4 0 " ∷
    "13 6 0 0 13 6 0 " ∷
    "13 7 0 0 13 7 0 " ∷
    "13 6 0 0 13 6 0 " ∷
    "13 3 0 0 13 3 0 " ∷
    "13 3 0 0 13 3 0 " ∷
    "13 11 0 0 13 11 0 " ∷
    "13 8 0 0 13 8 0 " ∷
    "13 4 0 0 13 4 0 " ∷
    "13 3 0 0 13 3 0 " ∷
    "13 3 0 0 13 3 0 " ∷
    "13 12 0 0 13 12 0 " ∷
    "13 6 0 0 13 6 0 " ∷
    "13 11 0 0 13 11 0 " ∷
    "13 8 0 0 13 8 0 " ∷
    "13 4 0 0 13 4 0 " ∷
    "13 12 0 0 13 12 0 " ∷
    "13 11 0 0 13 11 0 " ∷
    "13 13 0 0 13 13 0 " ∷
    "13 14 0 0 13 14 0 " ∷
    "0 0 1 0 0 0 1 a" ∷
    "0 0 1 0 0 0 1 a" ∷
    "14 32 0 0 14 32 0 " ∷
    "14 32 0 0 14 32 0 " ∷
    "13 33 0 0 13 33 0 " ∷
    "14 37 0 0 14 37 0 " ∷
    "0 0 0 0 0 0 241 a AND a AND a AND a AND a AND a AND a AND a AND a AND a AND a AND a AND a AND a AND a AND a AND a AND a AND a AND a AND a AND a AND a AND a AND a AND a AND a AND a AND a AND a AND a AND a AND a AND a AND a AND a AND a AND a AND a AND a AND b" ∷
    "0 0 0 0 0 0 34 MIT OR Apache-2.0 AND BSD-3-Clause" ∷
    "0 0 0 0 0 0 21 (a OR b) AND (c OR d)" ∷
    "0 0 0 0 0 0 14 a AND (b OR c)" ∷
    "0 0 0 0 0 0 20 (a OR b) AND c AND d" ∷
    "0 0 1 0 0 0 12 a OR b AND c" ∷
    "0 0 0 0 0 0 25 GPL-2.0+ WITH x-exception" ∷
    "0 0 0 1 0 0 35 DocumentRef-a:LicenseRef-b.c WITH d" ∷
    "0 0 0 1 0 0 10 and AND or" ∷
    "0 0 1 1 0 0 17 a OR b AND c OR d" ∷
    "0 0 0 1 0 0 27 licenseref-a+ OR LicenseRef" ∷
    "0 0 0 1 0 0 14 a AND (b OR c)" ∷
    "0 0 0 0 0 0 7 a AND b" ∷
    "0 0 0 0 0 0 14 (a OR b) AND c" ∷
    "0 0 1 0 0 0 1 a" ∷
    "0 0 1 0 0 0 6 a OR b" ∷
    "0 0 1 0 0 0 6 a OR b" ∷
    "0 0 0 0 0 0 8 a WITH b" ∷
    "0 0 0 1 0 0 20 a AND b OR c+ WITH d" ∷
    "0 0 1 0 0 0 34 MIT OR Apache-2.0 AND BSD-3-Clause" ∷
    "0 0 1 0 0 0 34 MIT OR Apache-2.0 AND BSD-3-Clause" ∷
    "0 0 0 0 0 0 34 MIT OR Apache-2.0 AND BSD-3-Clause" ∷
    "0 0 0 1 0 0 8 GPL-2.0+" ∷
    "0 0 0 1 0 0 7 GPL-2.0" ∷
    "0 0 0 1 0 0 12 a OR b AND c" ∷
    "0 0 0 1 0 0 14 (a OR b) AND c" ∷
    "0 0 1 0 0 0 15 gpl-2.0+ WITH e" ∷
    "0 0 0 1 0 0 1 a" ∷
    "0 0 0 1 0 0 8 a WITH b" ∷
    "0 0 0 1 0 0 1 a" ∷
    "0 0 0 1 0 0 3 and" ∷
    "0 0 1 1 0 0 3 and" ∷
    "0 0 0 1 0 0 13 licenseref-a+" ∷
    "0 0 1 1 0 0 12 licenseref-a" ∷
    "0 0 0 1 0 0 1 a" ∷
    "0 0 0 1 0 0 1 a" ∷
    "0 0 0 1 0 0 1 a" ∷
    "0 0 0 1 0 0 1 a" ∷
    "0 0 0 1 0 0 1 a" ∷
    "0 0 0 1 0 0 8 a WITH b" ∷
    "0 0 0 1 0 0 8 a WITH b" ∷
    "0 0 1 1 0 0 26 DocumentRef-a:LicenseRef-b" ∷
    "0 0 0 1 0 0 26 DocumentRef-a:LicenseRef-b" ∷
    "0 0 0 0 0 0 21 (a OR b) AND (c OR d)###################" ∷
    "0 0 0 0 0 0 21 (a OR b) AND (c OR d)###################" ∷
    "0 0 0 0 11 0 0 ########################################" ∷
    "0 0 0 0 11 0 0 ########################################" ∷
    "0 0 0 0 0 0 34 MIT OR Apache-2.0 AND BSD-3-Clause######" ∷
    "0 0 0 0 11 0 0 ########################################" ∷
    "0 0 1 0 0 0 1 a#######################################" ∷
    "0 0 1 0 11 0 0 ########################################" ∷
    "13 4 0 0 13 4 0 ########################################" ∷ [])
unfolding rules.opened reading.opened writing.opened jobs.opened digits decimal number flag numbers line ask marked refuse write nested times fit got
lines_hold = refl
