-- Edition 3: what the definitions compute. The answers are the original's, with its one pattern mended, and a model's that was written apart.
-- Assumes nothing.
use Prim.Native.Nat.{ℕ}
use Prim.Native.String.{String}
use mathlib.Core.Path.{◌≡◌, refl}
use mathlib.Core.Bool.{false}
use mathlib.Core.List.{List, [], ◌∷◌, ◌++◌}
use lib.Ieee.{binary32, of_bits, to_bits}
use lib.ListN.{length, take, replicate}
use Rattle.rules.specs.declared.Areas.{Areas}
use Rattle.rules.specs.declared.Limits.{Limits}
use Rattle.rules.specs.declared.Mode.TheVariants.{Elimination}
use Rattle.rules.specs.Bytes.{text}
use Rattle.rules.specs.Points.{points, encoded}
use Rattle.rules.specs.Lines.{lines}
use Rattle.rules.specs.Passes.{aggressive}
use Rattle.rules.specs.Book.{written, compiled}
use Rattle.rules.specs.Refusal.{refusal, of_text}
use Rattle.rules.specs.Jobs.{area_after, check, compile, output_after, scan}
use Rattle.rules.proofs.Opened.{opened}

-- a line break and a space that no quoted text shows: U+0085 and U+00A0
pub next : List ℕ
next = 133 ∷ []

hard : List ℕ
hard = 160 ∷ []

-- the soft hyphen
soft : List ℕ
soft = 173 ∷ []

-- ---- the passes
-- the lines of a text, as code points
pub lines_got : List (List (List ℕ))
lines_got =
    lines 3 (encoded (text "É « a »" ++ hard ++ text "b")) ∷
    lines 3 (encoded (text "a" ++ next ++ text "\tb" ++ next)) ∷
    lines 3 (encoded (text "© 4 ² ½ ± × ÷ " ++ soft ++ text "a")) ∷
    lines 3 (encoded (text "¡a§b¶c·d¿")) ∷
    lines 3 (encoded (text "http://é" ++ next ++ text "x https://a" ++ hard ++ text "é")) ∷
    []

pub lines_hold :
    lines_got ≡
    (text "É ' a ' b" ∷ []) ∷
    ((text "a" ++ next ++ text " b") ∷ []) ∷
    (text "4 a" ∷ []) ∷
    (text "¡a§b¶c·d¿" ∷ []) ∷
    ((text "http: blackboxed url" ++ next ++ text "x http: blackboxed url é") ∷ []) ∷
    []
unfolding lines_got next hard soft opened
lines_hold = refl

-- all passes, from UTF-8 to UTF-8
view : List ℕ → List ℕ
view s = points (encoded (aggressive (lines 3 (encoded s))))

pub views_got : List (List ℕ)
views_got =
    view (text "Été à la PLAGE") ∷
    view (text "Straße ÀÖØÞ") ∷
    view (text "« a » b" ++ hard ++ text "c" ++ next ++ text "d") ∷
    view (text "© 2004 4 ² x") ∷
    view (text "http://é" ++ hard ++ text "x y") ∷
    view (text "ª º µ ÿ ÷ ×") ∷
    view (text "a" ++ next ++ next ++ next ++ text "b") ∷
    -- a common prefix of three bytes, of four, and of four that are cut to three
    view (text "éa x\néa y\néa z") ∷
    view (text "éé x\néé y\néé z") ∷
    view (text "ééa\nééb\nééc") ∷
    view (text "é x\né y\né z") ∷
    view (text "aéà\naéá\naéâ") ∷
    view (text "ab" ++ next ++ text "é x\nab" ++ next ++ text "é y") ∷
    -- copyright and title
    view (text "a\ncopyright" ++ next ++ text "c 1999\nb") ∷
    view (text "a\n\n" ++ next ++ text "copyright\n\nb") ∷
    view (text "a license version é\n\nb c") ∷
    view (text "a license version é" ++ next ++ text "x\n\nb c") ∷
    []

pub views_hold :
    views_got ≡
    text "été à la plage" ∷
    text "straße àöøþ" ∷
    text "a b c d" ∷
    text "2004 4 x" ∷
    text "http blackboxed url x y" ∷
    text "ª º µ ÿ" ∷
    text "a b" ∷
    text "éa x éa y éa z" ∷
    text "x y z" ∷
    text "a b c" ∷
    text "é x é y é z" ∷
    text "aéà aéá aéâ" ∷
    text "x y" ∷
    text "a b" ∷
    text "a b" ∷
    text "b c" ∷
    text "a license version é x b c" ∷
    []
unfolding views_got view next hard opened
views_hold = refl

-- ---- refusal 2, of editions 1, 2 and 3
by_each : List ℕ → List ℕ
by_each t = refusal (of_text 1 t) ∷ refusal (of_text 2 t) ∷ refusal (of_text 3 t) ∷ []

pub texts_got : List (List ℕ)
texts_got =
    by_each (97 ∷ []) ∷
    by_each (195 ∷ 169 ∷ []) ∷
    by_each (194 ∷ 128 ∷ []) ∷
    by_each (195 ∷ 191 ∷ []) ∷
    -- a half alone, cut off by the end, a newline, a letter, another lead; a second half too low, too high, or twice
    by_each (169 ∷ []) ∷
    by_each (195 ∷ []) ∷
    by_each (195 ∷ 10 ∷ 169 ∷ []) ∷
    by_each (195 ∷ 97 ∷ []) ∷
    by_each (195 ∷ 195 ∷ 169 ∷ []) ∷
    by_each (195 ∷ 127 ∷ []) ∷
    by_each (195 ∷ 192 ∷ []) ∷
    by_each (195 ∷ 169 ∷ 169 ∷ []) ∷
    -- overlong, beyond U+00FF, a byte order mark
    by_each (192 ∷ 128 ∷ []) ∷
    by_each (193 ∷ 191 ∷ []) ∷
    by_each (196 ∷ 128 ∷ []) ∷
    by_each (239 ∷ 187 ∷ 191 ∷ 97 ∷ []) ∷
    []

pub texts_hold :
    texts_got ≡
    (0 ∷ 0 ∷ 0 ∷ []) ∷
    (2 ∷ 2 ∷ 0 ∷ []) ∷
    (2 ∷ 2 ∷ 0 ∷ []) ∷
    (2 ∷ 2 ∷ 0 ∷ []) ∷
    (2 ∷ 2 ∷ 2 ∷ []) ∷
    (2 ∷ 2 ∷ 2 ∷ []) ∷
    (2 ∷ 2 ∷ 2 ∷ []) ∷
    (2 ∷ 2 ∷ 2 ∷ []) ∷
    (2 ∷ 2 ∷ 2 ∷ []) ∷
    (2 ∷ 2 ∷ 2 ∷ []) ∷
    (2 ∷ 2 ∷ 2 ∷ []) ∷
    (2 ∷ 2 ∷ 2 ∷ []) ∷
    (2 ∷ 2 ∷ 2 ∷ []) ∷
    (2 ∷ 2 ∷ 2 ∷ []) ∷
    (2 ∷ 2 ∷ 2 ∷ []) ∷
    (2 ∷ 2 ∷ 2 ∷ []) ∷
    []
unfolding texts_got by_each opened
texts_hold = refl

-- ---- books
rec : ℕ → List ℕ → List ℕ
rec kind body = written 4 (length body) ++ written 2 kind ++ body

says : ℕ → List ℕ
says e = rec 6 (written 2 e)

-- a table of the one entry g, in a book of edition e
worded : ℕ → List ℕ → ℕ
worded e g = (check (says e ++ rec 1 (text "A") ++ rec 2 (written 4 1 ++ written 4 1 ++ written 4 1 ++ written 4 (length g) ++ g))).refusal

words : List ℕ → List ℕ
words g = worded 2 g ∷ worded 3 g ∷ []

pub words_got : List (List ℕ)
words_got =
    words (text "a b") ∷
    words (encoded (text "é à")) ∷
    words (encoded (text "É à")) ∷
    words (encoded (text "ß ÿ")) ∷
    words (encoded (text "ª º")) ∷
    words (encoded (text "÷ a")) ∷
    words (encoded (text "a ²")) ∷
    words (encoded (text "a" ++ next ++ text " b")) ∷
    words (encoded (text "a" ++ hard ++ text "b c")) ∷
    words (text "é à") ∷
    words (97 ∷ 195 ∷ 32 ∷ 169 ∷ []) ∷
    words (195 ∷ 32 ∷ 97 ∷ []) ∷
    words (97 ∷ 32 ∷ 195 ∷ []) ∷
    words (97 ∷ 32 ∷ 196 ∷ 129 ∷ []) ∷
    -- a name stays ASCII
    ((check (says 3 ++ rec 1 (encoded (text "é")) ++ rec 2 (compiled 3 []))).refusal ∷ []) ∷
    []

pub words_hold :
    words_got ≡
    (0 ∷ 0 ∷ []) ∷
    (4 ∷ 0 ∷ []) ∷
    (4 ∷ 4 ∷ []) ∷
    (4 ∷ 0 ∷ []) ∷
    (4 ∷ 0 ∷ []) ∷
    (4 ∷ 4 ∷ []) ∷
    (4 ∷ 4 ∷ []) ∷
    (4 ∷ 4 ∷ []) ∷
    (4 ∷ 4 ∷ []) ∷
    (4 ∷ 4 ∷ []) ∷
    (4 ∷ 4 ∷ []) ∷
    (4 ∷ 4 ∷ []) ∷
    (4 ∷ 4 ∷ []) ∷
    (4 ∷ 4 ∷ []) ∷
    (4 ∷ []) ∷
    []
unfolding words_got words worded says rec next hard opened
words_hold = refl

-- ---- compile: refusal, length, then the output and a work area, both of 9 at entry
compiling : ℕ → List ℕ → ℕ → ℕ → ℕ → List ℕ
compiling e t bytes words out =
    let a : Areas = record { bytes = bytes; words = words } in
    let r = compile e t a out in
    r.refusal ∷ r.len ∷ output_after e t a (replicate out 9) ++ area_after r.refusal (9 ∷ [])

pub compile_got : List (List ℕ)
compile_got =
    compiling 3 (encoded (text "é é")) 104 124 21 ∷
    compiling 3 (encoded (text "é é")) 103 124 1 ∷
    compiling 3 (encoded (text "é é")) 104 123 1 ∷
    compiling 3 (encoded (text "é é")) 104 124 1 ∷
    compiling 2 (encoded (text "é é")) 104 124 1 ∷
    -- any other edition reads refusal 2 as edition 1 does
    compiling 4 (encoded (text "é é")) 104 124 1 ∷
    compiling 4 (text "e e") 104 124 1 ∷
    []

pub compile_hold :
    compile_got ≡
    (0 ∷ 21 ∷ 1 ∷ 0 ∷ 0 ∷ 0 ∷ 1 ∷ 0 ∷ 0 ∷ 0 ∷ 1 ∷ 0 ∷ 0 ∷ 0 ∷ 5 ∷ 0 ∷ 0 ∷ 0 ∷ 195 ∷ 169 ∷ 32 ∷ 195 ∷ 169 ∷ 0 ∷ []) ∷
    (10 ∷ 0 ∷ 9 ∷ 9 ∷ []) ∷
    (10 ∷ 0 ∷ 9 ∷ 9 ∷ []) ∷
    (11 ∷ 0 ∷ 9 ∷ 0 ∷ []) ∷
    (2 ∷ 0 ∷ 9 ∷ 9 ∷ []) ∷
    (2 ∷ 0 ∷ 9 ∷ 9 ∷ []) ∷
    (4 ∷ 0 ∷ 9 ∷ 9 ∷ []) ∷
    []
unfolding compile_got compiling opened
compile_hold = refl

-- ---- lent books
french : ℕ → List ℕ
french e = says e ++ rec 1 (text "Fr") ++ rec 2 (compiled 3 (encoded (text "là où été")))

room : Areas
room = record { bytes = 1_000; words = 1_000 }

-- refusal, count, score bits, the name
scanned : String → List (List ℕ) → List ℕ
scanned s bs =
    let lim : Limits = record { threshold = of_bits binary32 0x3f000000; shallow = of_bits binary32 0x3f000000 } in
    let r = scan (encoded (text s)) bs lim (Elimination false 0) 9 room 0 in
    r.refusal ∷ r.count ∷ to_bits binary32 r.score ∷ take r.len r.name

pub lent_got : List (List ℕ)
lent_got =
    scanned "Là où Été" (french 3 ∷ []) ∷
    scanned "la ou ete" (french 3 ∷ []) ∷
    -- its words are not those of edition 2, and the text is refused first
    scanned "Là où Été" (french 2 ∷ []) ∷
    scanned "la ou ete" (french 2 ∷ []) ∷
    -- the first book's edition decides, sound or not; none where its first record is broken, says 4, or is not there
    scanned "é" ((says 3 ++ 1 ∷ []) ∷ []) ∷
    scanned "é" (take 7 (says 3) ∷ []) ∷
    scanned "é" (says 4 ∷ []) ∷
    scanned "é" (rec 6 (3 ∷ []) ∷ []) ∷
    scanned "é" (rec 6 (3 ∷ 0 ∷ 0 ∷ []) ∷ []) ∷
    scanned "é" ([] ∷ french 3 ∷ []) ∷
    scanned "e" ([] ∷ french 3 ∷ []) ∷
    scanned "é" (french 3 ∷ [] ∷ []) ∷
    scanned "Là où Été" (says 3 ∷ french 3 ∷ []) ∷
    []

pub lent_hold :
    lent_got ≡
    (0 ∷ 1 ∷ 0x3f800000 ∷ text "Fr") ∷
    (0 ∷ 1 ∷ 0 ∷ []) ∷
    (2 ∷ 0 ∷ 0 ∷ []) ∷
    (4 ∷ 0 ∷ 0 ∷ []) ∷
    (4 ∷ 0 ∷ 0 ∷ []) ∷
    (2 ∷ 0 ∷ 0 ∷ []) ∷
    (2 ∷ 0 ∷ 0 ∷ []) ∷
    (2 ∷ 0 ∷ 0 ∷ []) ∷
    (2 ∷ 0 ∷ 0 ∷ []) ∷
    (2 ∷ 0 ∷ 0 ∷ []) ∷
    (15 ∷ 0 ∷ 0 ∷ []) ∷
    (15 ∷ 0 ∷ 0 ∷ []) ∷
    (0 ∷ 1 ∷ 0x3f800000 ∷ text "Fr") ∷
    []
unfolding lent_got scanned room french says rec opened
lent_hold = refl
