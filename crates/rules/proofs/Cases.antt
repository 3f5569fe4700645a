-- What antt computes of the definitions: the marked cases of the rules as one table and one statement, and a second table of the same
-- form: the errors that look right, the order of the refusals, stored texts by their numbers, damaged books, and what lies empty.
-- Assumes nothing.
use Prim.Native.Nat.{ℕ}
use Prim.Native.String.{String}
use mathlib.Core.Path.{◌≡◌, refl}
use mathlib.Core.Bool.{true, false, cond}
use mathlib.Core.List.{List, [], ◌∷◌, ◌++◌, map}
use lib.ListN.{length, take, replicate}
use lib.Ieee.{to_bits, of_bits, binary32}
use Rattle.rules.specs.declared.Areas.{Areas}
use Rattle.rules.specs.declared.Limits.{Limits}
use Rattle.rules.specs.declared.Mode.{Mode}
use Rattle.rules.specs.declared.Mode.TheVariants.{Elimination, TopDown}
use Rattle.rules.specs.Bytes.{text}
use Rattle.rules.specs.Lines.{line, lines, line_count}
use Rattle.rules.specs.Passes.{aggressive}
use Rattle.rules.specs.Table.{Table}
use Rattle.rules.specs.Search.{View, view, Stored, no_best, best_from}
use Rattle.rules.specs.Book.{written, compiled, record_at, next_place, At, end, whole, broken}
use Rattle.rules.specs.Jobs.{check, compile, output_after, area_after, score_job, bounds_job, scan, results_after, name_job}
use Rattle.rules.proofs.Opened.{opened}

pub record Case : Type 0 where
  pub got : List ℕ
  pub want : List ℕ

-- ---- the marked book, 58 bytes written out: licence A, whose text is `My First License`
unfoldable pub body_a : List ℕ
body_a =
    0x02 ∷ 0x00 ∷ 0x00 ∷ 0x00 ∷ 0x02 ∷ 0x00 ∷ 0x00 ∷ 0x00 ∷
    0x01 ∷ 0x00 ∷ 0x00 ∷ 0x00 ∷ 0x0D ∷ 0x00 ∷ 0x00 ∷ 0x00 ∷
    0x66 ∷ 0x69 ∷ 0x72 ∷ 0x73 ∷ 0x74 ∷ 0x20 ∷ 0x6C ∷ 0x69 ∷ 0x63 ∷ 0x65 ∷ 0x6E ∷ 0x73 ∷ 0x65 ∷
    0x01 ∷ 0x00 ∷ 0x00 ∷ 0x00 ∷ 0x08 ∷ 0x00 ∷ 0x00 ∷ 0x00 ∷
    0x6D ∷ 0x79 ∷ 0x20 ∷ 0x66 ∷ 0x69 ∷ 0x72 ∷ 0x73 ∷ 0x74 ∷ []

unfoldable pub book_a : List ℕ
book_a = 0x01 ∷ 0x00 ∷ 0x00 ∷ 0x00 ∷ 0x01 ∷ 0x00 ∷ 0x41 ∷ 0x2D ∷ 0x00 ∷ 0x00 ∷ 0x00 ∷ 0x02 ∷ 0x00 ∷ body_a

-- text 2 of the marked cases
unfoldable pub second : List ℕ
second = text "copyright 20xx me irl\n// My First License\nfn hello() {\n ..."

-- ---- what a row computes
unfoldable pub room : Areas
room = record { bytes = 100_000; words = 100_000 }

unfoldable pub limits : ℕ → ℕ → Limits
limits threshold shallow = record { threshold = of_bits binary32 threshold; shallow = of_bits binary32 shallow }

whole_view : List ℕ → View
whole_view t = view 0 (line_count t)

line_case : String → String → Case
line_case s w = record { got = line 1 (text s); want = text w }

view_case : String → String → Case
view_case s w = record { got = aggressive (lines 1 (text s)); want = text w }

bytes_case : List ℕ → List ℕ → Case
bytes_case g w = record { got = g; want = w }

-- refusal and N
book_case : List ℕ → List ℕ → Case
book_case b w = record { got = (check b).refusal ∷ (check b).texts ∷ []; want = w }

-- refusal and length, then the output and a work area, both of 9 at entry
compile_case : List ℕ → Areas → ℕ → List ℕ → Case
compile_case t a out w =
    let n = (compile 1 t a out).refusal in
    record { got = n ∷ (compile 1 t a out).len ∷ output_after 1 t a (replicate out 9) ++ area_after n (9 ∷ 9 ∷ []); want = w }

-- refusal, score bits, m and t
score_case : List ℕ → List ℕ → View → ℕ → Areas → List ℕ → Case
score_case t book v k a w =
    let r = score_job t (book ∷ []) v k a in
    record { got = r.refusal ∷ to_bits binary32 r.score ∷ r.m ∷ r.t ∷ []; want = w }

-- refusal, first line, line after last, score bits, m and t, count
bounds_case : List ℕ → List ℕ → View → List ℕ → Case
bounds_case t book v w =
    let r = bounds_job t (book ∷ []) v 0 room in
    record { got = r.refusal ∷ r.first ∷ r.after ∷ to_bits binary32 r.score ∷ r.m ∷ r.t ∷ r.count ∷ []; want = w }

-- refusal, count, overall score bits, m and t, kind, the name's length, records; then its 64 bytes and the results area, 7 at entry
scan_case : List ℕ → List ℕ → Limits → Mode → ℕ → Areas → ℕ → List ℕ → Case
scan_case t book lim mode b a results w =
    let r = scan t (book ∷ []) lim mode b a results in
    record {
      got =
          (r.refusal ∷ r.count ∷ to_bits binary32 r.score ∷ r.m ∷ r.t ∷ r.kind ∷ r.len ∷ r.records ∷ []) ++
          r.name ++ results_after t (book ∷ []) lim mode b a (replicate results 7);
      want = w;
    }

-- the answer's 64 bytes of name
name : List ℕ → ℕ → List ℕ
name s zeros = s ++ replicate zeros 0

no_name : List ℕ
no_name = replicate 64 0

-- ---- the marked cases
budget_case : ℕ → List ℕ → Case
budget_case b w = scan_case second book_a (limits 0x3f666666 0x3f7d70a4) (Elimination true 10) b room 60 w

pub marked : List Case
marked =
    score_case (text "copyright 20xx me irl\n\n //  my   first license") book_a (view 0 3) 0 room (0 ∷ 0x3f800000 ∷ 2 ∷ 4 ∷ []) ∷
    bounds_case second book_a (whole_view second) (0 ∷ 1 ∷ 2 ∷ 0x3f800000 ∷ 2 ∷ 4 ∷ 8 ∷ []) ∷
    line_case "see https://a.b/c now" "see http: blackboxed url now" ∷
    line_case "GPL 4x" "GPL x" ∷
    line_case "$5 + tax" "5 tax" ∷
    view_case "Foo License\n\nbody text" "body text" ∷
    view_case "Foo License\nbody text" "foo license body text" ∷
    view_case "dnl one\ndnl two\ndnl tri" "dnl one wo ri" ∷
    view_case "a b\ncopyright c\n1999 d\nkeep me" "a b keep me" ∷
    view_case "x\ncopyright holder" "x copyright holder" ∷
    budget_case 9 ((12 ∷ 9 ∷ 0x3f2aaaab ∷ 2 ∷ 6 ∷ 0 ∷ 0 ∷ 1 ∷ []) ++ no_name ++ (0 ∷ 1 ∷ 2 ∷ 0x3f800000 ∷ 22 ∷ 41 ∷ []) ++ replicate 54 7) ∷
    budget_case 8 ((12 ∷ 8 ∷ 0x3f2aaaab ∷ 2 ∷ 6 ∷ 0 ∷ 0 ∷ 0 ∷ []) ++ no_name ++ replicate 60 7) ∷
    budget_case 20 ((0 ∷ 20 ∷ 0x3f2aaaab ∷ 2 ∷ 6 ∷ 0 ∷ 0 ∷ 1 ∷ []) ++ no_name ++ (0 ∷ 1 ∷ 2 ∷ 0x3f800000 ∷ 22 ∷ 41 ∷ []) ++ replicate 54 7) ∷
    bytes_case (length book_a ∷ []) (58 ∷ []) ∷
    bytes_case (compiled 1 (text "My First License")) body_a ∷
    book_case book_a (0 ∷ 1 ∷ []) ∷
    []

pub marked_hold : map (λ c. c.got) marked ≡ map (λ c. c.want) marked
unfolding
    marked budget_case no_name scan_case bounds_case score_case book_case bytes_case view_case line_case whole_view limits room second book_a body_a opened
marked_hold = refl

-- ---- books by hand
-- one record
unfoldable pub rec : ℕ → List ℕ → List ℕ
rec kind body = written 4 (length body) ++ written 2 kind ++ body

unfoldable pub entry : ℕ → List ℕ → List ℕ
entry n b = written 4 n ++ written 4 (length b) ++ b

unfoldable pub body : ℕ → ℕ → List ℕ → List ℕ
body total distinct es = written 4 total ++ written 4 distinct ++ es

-- a licence whose original is an empty table, and one with this original
bare : String → List ℕ
bare n = rec 1 (text n) ++ rec 2 (body 0 0 [])

unfoldable pub with : List ℕ → List ℕ
with b = rec 1 (text "A") ++ rec 2 b

-- a book that is refused
unsound : List ℕ → Case
unsound b = book_case b (4 ∷ 0 ∷ [])

-- what a reader finds at a place, as numbers, and the place after it
shown : At → List ℕ
shown end = 0 ∷ []
shown (whole kind start len) = 1 ∷ kind ∷ start ∷ len ∷ []
shown broken = 2 ∷ []

read_case : ℕ → List ℕ → Case
read_case place w = record { got = shown (record_at book_a place) ++ next_place place (record_at book_a place) ∷ []; want = w }

-- ---- a stored text by its number: refusal, kind; second, at, len of its licence's name
name_case : List (List ℕ) → ℕ → List ℕ → Case
name_case bs k w =
    let r = name_job bs k in
    record { got = r.refusal ∷ r.kind ∷ cond r.part.second 1 0 ∷ r.part.at ∷ r.part.len ∷ []; want = w }

-- four texts under two names, an alias between; and two texts under the first of these names
several : List ℕ
several = bare "A" ++ rec 3 (body 0 0 []) ++ rec 4 (body 0 0 []) ++ rec 5 (text "AA") ++ bare "BC"

other : List ℕ
other = bare "A" ++ rec 4 (body 0 0 [])

-- ---- scans that are refused: the number, all else zero, results as they were
refused_case : List ℕ → List ℕ → Limits → Mode → Areas → ℕ → Case
refused_case t book lim mode a n = scan_case t book lim mode 0 a 3 ((n ∷ 0 ∷ 0 ∷ 0 ∷ 0 ∷ 0 ∷ 0 ∷ 0 ∷ []) ++ no_name ++ 7 ∷ 7 ∷ 7 ∷ [])

nan : ℕ
nan = 0x7fc00000

unity : ℕ
unity = 0x3f800000

half : ℕ
half = 0x3f000000

unfoldable pub note : List ℕ
note = text "My First License"

-- a book whose one text is `a b`, for the rows that score often: their scores are exact, and cheap to compute
unfoldable pub slim : List ℕ
slim = with (body 1 1 (entry 1 (text "a b")))

tiny : Areas
tiny = record { bytes = 0; words = 0 }

-- ---- the best of two texts of these kinds, with `a a` so often in their tables, for a view with it 4,096 times: number, score bits, m and t
often : ℕ → Table
often n = record { total = n; entries = record { bytes = text "a a"; count = n } ∷ [] }

stored_as : ℕ → ℕ → ℕ → Stored
stored_as number kind n = record { number = number; name = text "A"; kind = kind; table = often n }

tie_case : ℕ → ℕ → ℕ → ℕ → List ℕ → Case
tie_case kind x other y w =
    let b = (best_from (often 4_096) (view 0 1) (stored_as 0 kind x ∷ stored_as 1 other y ∷ []) no_best).value in
    record { got = b.text.number ∷ to_bits binary32 b.value.score ∷ b.value.m ∷ b.value.t ∷ []; want = w }

-- ---- licences that share the text `My First License`: as its original, or behind an empty one as an alternate or a header
full : String → List ℕ
full n = rec 1 (text n) ++ rec 2 body_a

sharing : String → ℕ → List ℕ
sharing n kind = bare n ++ rec kind body_a

-- A's header is text 1, B's original text 2
header_first : List ℕ
header_first = sharing "A" 4 ++ full "B"

-- behind `slim`: `c d` is B's header, text 2, and C's original, text 3
later_tie : List ℕ
later_tie = let cd = body 1 1 (entry 1 (text "c d")) in bare "B" ++ rec 4 cd ++ rec 1 (text "C") ++ rec 2 cd

-- the note is that text, so all that have it score 1.0: count, kind and name
shared_case : List ℕ → ℕ → ℕ → String → Case
shared_case book count kind s =
    scan_case note book (limits half half) (Elimination false 0) 100 room 0 ((0 ∷ count ∷ unity ∷ 2 ∷ 4 ∷ kind ∷ 1 ∷ 0 ∷ []) ++ name (text s) 63)

pub others : List Case
others =
    -- errors that look right: naming at equality, the first index, several lines by A, resuming at the range end
    scan_case note book_a (limits unity unity) (Elimination false 0) 100 room 0 ((0 ∷ 1 ∷ unity ∷ 2 ∷ 4 ∷ 0 ∷ 0 ∷ 0 ∷ []) ++ no_name) ∷
    scan_case note book_a (limits 0x3f7fffff unity) (Elimination false 0) 100 room 0 ((0 ∷ 1 ∷ unity ∷ 2 ∷ 4 ∷ 2 ∷ 1 ∷ 0 ∷ []) ++ name (text "A") 63) ∷
    bounds_case (text "my first license\n\n") book_a (view 0 3) (0 ∷ 0 ∷ 2 ∷ unity ∷ 2 ∷ 4 ∷ 7 ∷ []) ∷
    view_case "x\n\ncopyright a\ncopyright b\n\ny" "x copyright a copyright b y" ∷
    view_case "x\n\ncopyright a\n\ncopyright b\n\ny" "x copyright b y" ∷
    scan_case (text "a b\na b\na b") slim (limits 0x3f666666 unity) (TopDown 1) 100 room 18
    ((0 ∷ 13 ∷ 0 ∷ 0 ∷ 0 ∷ 0 ∷ 0 ∷ 2 ∷ []) ++ no_name ++ (0 ∷ 0 ∷ 1 ∷ unity ∷ 0 ∷ 3 ∷ 0 ∷ 2 ∷ 3 ∷ unity ∷ 8 ∷ 11 ∷ []) ++ replicate 6 7) ∷
    -- the passes
    view_case "abcd xabcd\nabcd e\nx\nabcd e\nabcd e" "xabcd e x e e" ∷
    view_case "\ncopyright x\n\nb c" "b c" ∷
    -- the title with its tail: were it none, B would take it, and not the line after it
    view_case "a license copyright me\n\nfoo copyright bar\nb c" "b c" ∷
    view_case "a license version 2 copyright me\n\nfoo copyright bar\nb c" "b c" ∷
    bytes_case (aggressive (lines 1 (text "foo license" ++ 11 ∷ 13 ∷ text "body text"))) (text "body text") ∷
    view_case "abc x\nabc y\nabc z" "abc x abc y abc z" ∷
    view_case "copyright company\nb c" "b c" ∷
    view_case "" "" ∷
    line_case "a\t\\/|b--c__d[({e)]}'\"f" "a b-c_d(e)'f" ∷
    -- on equal scores an original beats an alternate, an alternate a header; only then the earliest; what scores lower beats nothing
    shared_case header_first 3 2 "B" ∷
    shared_case (sharing "A" 4 ++ sharing "B" 3) 4 3 "B" ∷
    shared_case (sharing "A" 3 ++ full "B") 3 2 "B" ∷
    shared_case (sharing "A" 4 ++ sharing "B" 3 ++ full "C") 5 2 "C" ∷
    shared_case (full "A" ++ full "B") 2 2 "A" ∷
    shared_case (sharing "A" 3 ++ sharing "B" 3) 4 3 "A" ∷
    shared_case (sharing "A" 4 ++ sharing "B" 4) 4 4 "A" ∷
    shared_case (full "A" ++ sharing "B" 3 ++ sharing "C" 4) 5 2 "A" ∷
    shared_case (sharing "A" 4 ++ bare "B") 3 4 "A" ∷
    -- so it goes for the text of each pass, the second too, and for top-down's; a tie at 0.0 stays with text 0
    scan_case second header_first (limits 0x3f666666 0x3f7d70a4) (Elimination true 10) 100 room 60
    ((0 ∷ 24 ∷ 0x3f2aaaab ∷ 2 ∷ 6 ∷ 0 ∷ 0 ∷ 1 ∷ []) ++ no_name ++ (2 ∷ 1 ∷ 2 ∷ unity ∷ 22 ∷ 41 ∷ []) ++ replicate 54 7) ∷
    scan_case (text "a b\nc d") (slim ++ later_tie) (limits half unity) (Elimination true 2) 100 room 12
    ((0 ∷ 23 ∷ half ∷ 1 ∷ 4 ∷ 0 ∷ 0 ∷ 2 ∷ []) ++ no_name ++ 0 ∷ 0 ∷ 1 ∷ unity ∷ 0 ∷ 3 ∷ 3 ∷ 1 ∷ 2 ∷ unity ∷ 4 ∷ 7 ∷ []) ∷
    scan_case second header_first (limits 0x3f666666 unity) (TopDown 1) 100 room 24
    ((0 ∷ 24 ∷ 0 ∷ 0 ∷ 0 ∷ 0 ∷ 0 ∷ 1 ∷ []) ++ no_name ++ (2 ∷ 1 ∷ 2 ∷ unity ∷ 22 ∷ 41 ∷ []) ++ replicate 18 7) ∷
    scan_case (text "x y") header_first (limits 0 half) (Elimination true 1) 100 room 6 ((0 ∷ 10 ∷ 0 ∷ 0 ∷ 1 ∷ 0 ∷ 0 ∷ 1 ∷ []) ++ no_name ++ 0 ∷ 1 ∷ 1 ∷ 0 ∷ 3 ∷ 3 ∷ []) ∷
    -- a text of kind 3 and of kind 4 named
    scan_case note (bare "A" ++ bare "B-1" ++ rec 3 body_a) (limits half half) (Elimination false 0) 100 room 0
    ((0 ∷ 3 ∷ unity ∷ 2 ∷ 4 ∷ 3 ∷ 3 ∷ 0 ∷ []) ++ name (text "B-1") 61) ∷
    scan_case note (bare "A" ++ rec 4 body_a) (limits half half) (Elimination false 0) 100 room 0
    ((0 ∷ 2 ∷ unity ∷ 2 ∷ 4 ∷ 4 ∷ 1 ∷ 0 ∷ []) ++ name (text "A") 63) ∷
    -- the shallow limit at equality goes on; after the last pass the best is taken again
    scan_case note book_a (limits half unity) (Elimination true 1) 100 room 6
    ((0 ∷ 6 ∷ unity ∷ 2 ∷ 4 ∷ 2 ∷ 1 ∷ 1 ∷ []) ++ name (text "A") 63 ++ 0 ∷ 0 ∷ 1 ∷ unity ∷ 0 ∷ 16 ∷ []) ∷
    scan_case note book_a (limits half unity) (Elimination true 1) 5 room 6
    ((12 ∷ 5 ∷ unity ∷ 2 ∷ 4 ∷ 2 ∷ 1 ∷ 1 ∷ []) ++ name (text "A") 63 ++ 0 ∷ 0 ∷ 1 ∷ unity ∷ 0 ∷ 16 ∷ []) ∷
    scan_case note book_a (limits half 0x3f7fffff) (Elimination true 1) 100 room 6 ((0 ∷ 1 ∷ unity ∷ 2 ∷ 4 ∷ 2 ∷ 1 ∷ 0 ∷ []) ++ name (text "A") 63 ++ replicate 6 7) ∷
    -- above the shallow limit alone goes on; no line but the range is blanked; of the pairs the latest, whose bounds take a scoring more
    scan_case (text "a b\nx y") slim (limits 0x3f666666 0) (Elimination true 1) 100 room 6
    ((0 ∷ 7 ∷ half ∷ 1 ∷ 4 ∷ 0 ∷ 0 ∷ 1 ∷ []) ++ no_name ++ 0 ∷ 0 ∷ 1 ∷ unity ∷ 0 ∷ 3 ∷ []) ∷
    scan_case (text "a b\na b") slim (limits half unity) (Elimination true 2) 100 room 12
    ((0 ∷ 14 ∷ half ∷ 1 ∷ 4 ∷ 0 ∷ 0 ∷ 2 ∷ []) ++ no_name ++ 0 ∷ 0 ∷ 1 ∷ unity ∷ 0 ∷ 3 ∷ 0 ∷ 1 ∷ 2 ∷ unity ∷ 4 ∷ 7 ∷ []) ∷
    scan_case (text "a b\nx y") slim (limits half unity) (TopDown 1) 100 room 12
    ((0 ∷ 9 ∷ 0 ∷ 0 ∷ 0 ∷ 0 ∷ 0 ∷ 1 ∷ []) ++ no_name ++ (0 ∷ 0 ∷ 1 ∷ unity ∷ 0 ∷ 3 ∷ []) ++ replicate 6 7) ∷
    -- no results without optimize; a budget of none; the largest step; -0.0 is from 0.0
    scan_case note book_a (limits half half) (Elimination false 2) 100 room 0 ((0 ∷ 1 ∷ unity ∷ 2 ∷ 4 ∷ 2 ∷ 1 ∷ 0 ∷ []) ++ name (text "A") 63) ∷
    scan_case note book_a (limits half half) (Elimination false 2) 0 room 0 ((12 ∷ 0 ∷ 0 ∷ 0 ∷ 0 ∷ 0 ∷ 0 ∷ 0 ∷ []) ++ no_name) ∷
    scan_case (text "my first license\nx") book_a (limits 0x80000000 0) (TopDown 0xFFFFFFFFFFFFFFFF) 100 room 12
    ((0 ∷ 6 ∷ 0 ∷ 0 ∷ 0 ∷ 0 ∷ 0 ∷ 2 ∷ []) ++ no_name ++ 0 ∷ 0 ∷ 0 ∷ 0 ∷ 0 ∷ 0 ∷ 0 ∷ 1 ∷ 1 ∷ 0 ∷ 17 ∷ 17 ∷ []) ∷
    -- m and t: of all lines, of an empty table, of two, of none shared; with 8 nothing of the range; with 12 none before all are scored
    score_case note book_a (view 0 1) 0 room (0 ∷ unity ∷ 2 ∷ 4 ∷ []) ∷
    score_case second book_a (view 0 4) 0 room (0 ∷ 0x3f2aaaab ∷ 2 ∷ 6 ∷ []) ∷
    score_case [] book_a (view 0 1) 0 room (0 ∷ 0 ∷ 0 ∷ 2 ∷ []) ∷
    score_case [] (bare "A") (view 0 1) 0 room (0 ∷ 0 ∷ 0 ∷ 0 ∷ []) ∷
    score_case (text "x y") book_a (view 0 1) 0 room (0 ∷ 0 ∷ 0 ∷ 3 ∷ []) ∷
    bounds_case second book_a (view 0 5) (8 ∷ 0 ∷ 0 ∷ 0 ∷ 0 ∷ 0 ∷ 0 ∷ []) ∷
    budget_case 0 ((12 ∷ 0 ∷ 0 ∷ 0 ∷ 0 ∷ 0 ∷ 0 ∷ 0 ∷ []) ++ no_name ++ replicate 60 7) ∷
    budget_case 1 ((12 ∷ 1 ∷ 0x3f2aaaab ∷ 2 ∷ 6 ∷ 0 ∷ 0 ∷ 0 ∷ []) ++ no_name ++ replicate 60 7) ∷
    scan_case (text "x y") book_a (limits half half) (Elimination false 0) 1 room 0 ((0 ∷ 1 ∷ 0 ∷ 0 ∷ 3 ∷ 0 ∷ 0 ∷ 0 ∷ []) ++ no_name) ∷
    scan_case second book_a (limits 0x3f666666 unity) (TopDown 1) 100 room 24
    ((0 ∷ 12 ∷ 0 ∷ 0 ∷ 0 ∷ 0 ∷ 0 ∷ 1 ∷ []) ++ no_name ++ (0 ∷ 1 ∷ 2 ∷ unity ∷ 22 ∷ 41 ∷ []) ++ replicate 18 7) ∷
    -- two fractions that are one float: the earlier text, unless the later one's kind goes before; its own m and t, whichever is the larger
    tie_case 2 4_095 2 4_097 (0 ∷ 0x3f7ff800 ∷ 4_095 ∷ 8_191 ∷ []) ∷
    tie_case 2 4_097 2 4_095 (0 ∷ 0x3f7ff800 ∷ 4_096 ∷ 8_193 ∷ []) ∷
    tie_case 4 4_095 2 4_097 (1 ∷ 0x3f7ff800 ∷ 4_096 ∷ 8_193 ∷ []) ∷
    tie_case 4 4_097 3 4_095 (1 ∷ 0x3f7ff800 ∷ 4_095 ∷ 8_191 ∷ []) ∷
    tie_case 4 4_096 2 4_095 (0 ∷ unity ∷ 4_096 ∷ 8_192 ∷ []) ∷
    -- the order of the refusals: to each row two neighbours apply
    refused_case (128 ∷ []) (1 ∷ []) (limits nan nan) (TopDown 0) tiny 2 ∷
    refused_case note (1 ∷ []) (limits nan nan) (TopDown 0) tiny 4 ∷
    refused_case note [] (limits nan nan) (TopDown 0) tiny 5 ∷
    refused_case note book_a (limits nan half) (TopDown 0) tiny 6 ∷
    refused_case note book_a (limits half 0x3f800001) (TopDown 0) tiny 6 ∷
    refused_case note book_a (limits half half) (TopDown 0) tiny 7 ∷
    refused_case note book_a (limits half half) (TopDown 1) tiny 10 ∷
    refused_case note book_a (limits half half) (TopDown 1) room 10 ∷
    refused_case note book_a (limits half half) (Elimination true 1) (record { bytes = 192; words = 256 }) 10 ∷
    scan_case note book_a (limits half half) (Elimination false 1) 1 (record { bytes = 192; words = 256 }) 0 ((0 ∷ 1 ∷ unity ∷ 2 ∷ 4 ∷ 2 ∷ 1 ∷ 0 ∷ []) ++ name (text "A") 63) ∷
    scan_case note book_a (limits half half) (Elimination false 1) 0 (record { bytes = 191; words = 256 }) 0 ((10 ∷ 0 ∷ 0 ∷ 0 ∷ 0 ∷ 0 ∷ 0 ∷ 0 ∷ []) ++ no_name) ∷
    score_case note (1 ∷ []) (view 1 0) 9 tiny (4 ∷ 0 ∷ 0 ∷ 0 ∷ []) ∷
    score_case note [] (view 1 0) 9 tiny (5 ∷ 0 ∷ 0 ∷ 0 ∷ []) ∷
    score_case note book_a (view 1 0) 9 tiny (8 ∷ 0 ∷ 0 ∷ 0 ∷ []) ∷
    score_case note book_a (view 0 2) 0 room (8 ∷ 0 ∷ 0 ∷ 0 ∷ []) ∷
    score_case note book_a (view 0 1) 1 tiny (9 ∷ 0 ∷ 0 ∷ 0 ∷ []) ∷
    score_case note book_a (view 0 1) 0 (record { bytes = 192; words = 255 }) (10 ∷ 0 ∷ 0 ∷ 0 ∷ []) ∷
    score_case note book_a (view 1 1) 0 (record { bytes = 192; words = 256 }) (0 ∷ 0 ∷ 0 ∷ 2 ∷ []) ∷
    compile_case (128 ∷ []) tiny 0 (2 ∷ 0 ∷ 9 ∷ 9 ∷ []) ∷
    compile_case note tiny 3 (10 ∷ 0 ∷ 9 ∷ 9 ∷ 9 ∷ 9 ∷ 9 ∷ []) ∷
    compile_case note room 44 ((11 ∷ 0 ∷ []) ++ replicate 44 9 ++ 0 ∷ 0 ∷ []) ∷
    compile_case note room 46 ((0 ∷ 45 ∷ []) ++ body_a ++ 9 ∷ 0 ∷ 0 ∷ []) ∷
    compile_case [] (record { bytes = 64; words = 64 }) 8 ((0 ∷ 8 ∷ []) ++ replicate 10 0) ∷
    -- the name is the licence's, not the record's; numbers count on into the second book, where an equal name stands elsewhere; N is none
    name_case (several ∷ []) 0 (0 ∷ 2 ∷ 0 ∷ 6 ∷ 1 ∷ []) ∷
    name_case (several ∷ []) 1 (0 ∷ 3 ∷ 0 ∷ 6 ∷ 1 ∷ []) ∷
    name_case (several ∷ []) 2 (0 ∷ 4 ∷ 0 ∷ 6 ∷ 1 ∷ []) ∷
    name_case (several ∷ []) 3 (0 ∷ 2 ∷ 0 ∷ 63 ∷ 2 ∷ []) ∷
    name_case (several ∷ []) 4 (9 ∷ 0 ∷ 0 ∷ 0 ∷ 0 ∷ []) ∷
    name_case (several ∷ other ∷ []) 3 (0 ∷ 2 ∷ 0 ∷ 63 ∷ 2 ∷ []) ∷
    name_case (several ∷ other ∷ []) 4 (0 ∷ 2 ∷ 1 ∷ 6 ∷ 1 ∷ []) ∷
    name_case (several ∷ other ∷ []) 5 (0 ∷ 4 ∷ 1 ∷ 6 ∷ 1 ∷ []) ∷
    name_case (several ∷ other ∷ []) 6 (9 ∷ 0 ∷ 0 ∷ 0 ∷ 0 ∷ []) ∷
    name_case (other ∷ other ∷ []) 1 (0 ∷ 4 ∷ 0 ∷ 6 ∷ 1 ∷ []) ∷
    name_case (other ∷ other ∷ []) 2 (0 ∷ 2 ∷ 1 ∷ 6 ∷ 1 ∷ []) ∷
    name_case ([] ∷ several ∷ []) 3 (0 ∷ 2 ∷ 1 ∷ 63 ∷ 2 ∷ []) ∷
    name_case (several ∷ [] ∷ []) 3 (0 ∷ 2 ∷ 0 ∷ 63 ∷ 2 ∷ []) ∷
    name_case (several ∷ [] ∷ []) 0xFFFFFFFF (9 ∷ 0 ∷ 0 ∷ 0 ∷ 0 ∷ []) ∷
    -- 4 before 5, 5 before 9
    name_case ((1 ∷ []) ∷ []) 0 (4 ∷ 0 ∷ 0 ∷ 0 ∷ 0 ∷ []) ∷
    name_case ((1 ∷ []) ∷ other ∷ []) 0 (4 ∷ 0 ∷ 0 ∷ 0 ∷ 0 ∷ []) ∷
    name_case (other ∷ (1 ∷ []) ∷ []) 0 (4 ∷ 0 ∷ 0 ∷ 0 ∷ 0 ∷ []) ∷
    name_case ([] ∷ (1 ∷ []) ∷ []) 9 (4 ∷ 0 ∷ 0 ∷ 0 ∷ 0 ∷ []) ∷
    name_case ([] ∷ []) 0 (5 ∷ 0 ∷ 0 ∷ 0 ∷ 0 ∷ []) ∷
    name_case ([] ∷ [] ∷ []) 9 (5 ∷ 0 ∷ 0 ∷ 0 ∷ 0 ∷ []) ∷
    -- books: empty; an empty table; every kind in its place; names that rise
    book_case [] (0 ∷ 0 ∷ []) ∷
    book_case (bare "A") (0 ∷ 1 ∷ []) ∷
    score_case note (bare "A") (view 0 1) 0 room (0 ∷ 0 ∷ 0 ∷ 2 ∷ []) ∷
    book_case (bare "A" ++ rec 3 body_a ++ rec 3 body_a ++ rec 4 body_a ++ rec 5 (text "A") ++ rec 5 (text "A") ++ bare "A-1" ++ rec 4 body_a) (0 ∷ 6 ∷ []) ∷
    book_case (rec 1 (replicate 64 126) ++ rec 2 body_a) (0 ∷ 1 ∷ []) ∷
    -- unsound: a length that is 2^32 with its 6 bytes, a body past the end, a byte too many
    unsound (0xFA ∷ 0xFF ∷ 0xFF ∷ 0xFF ∷ 0x01 ∷ 0x00 ∷ []) ∷
    unsound (take 57 book_a) ∷
    unsound (take 6 book_a) ∷
    unsound (book_a ++ 0 ∷ []) ∷
    -- kinds out of order
    unsound (rec 1 (text "A")) ∷
    unsound (rec 2 body_a) ∷
    unsound (bare "A" ++ rec 2 body_a) ∷
    unsound (rec 1 (text "A") ++ rec 3 body_a) ∷
    unsound (bare "A" ++ rec 4 body_a ++ rec 3 body_a) ∷
    unsound (bare "A" ++ rec 5 (text "B") ++ rec 4 body_a) ∷
    unsound (bare "A" ++ rec 6 (text "B")) ∷
    unsound (bare "A" ++ rec 0 (text "B")) ∷
    -- names
    unsound (book_a ++ book_a) ∷
    unsound (bare "B" ++ bare "A") ∷
    unsound (bare "A-1" ++ bare "A") ∷
    unsound (bare "") ∷
    unsound (bare "A B") ∷
    unsound (rec 1 (127 ∷ []) ++ rec 2 body_a) ∷
    unsound (rec 1 (replicate 65 126) ++ rec 2 body_a) ∷
    unsound (bare "A" ++ rec 5 []) ∷
    -- table bodies: counts, order, sums, words
    book_case (with (body 8_388_608 1 (entry 8_388_608 (text "a b")))) (0 ∷ 1 ∷ []) ∷
    unsound (with (body 8_388_609 1 (entry 8_388_609 (text "a b")))) ∷
    unsound (with (body 2 2 (entry 1 (text "a b") ++ entry 1 (text "a b")))) ∷
    unsound (with (body 2 2 (entry 1 (text "a c") ++ entry 1 (text "a b")))) ∷
    unsound (with (body 2 1 (entry 1 (text "a b")))) ∷
    unsound (with (body 1 2 (entry 1 (text "a b")))) ∷
    unsound (with (body 1 2 (entry 0 (text "a a") ++ entry 1 (text "a b")))) ∷
    unsound (with (body 1 1 (entry 1 (text "ab")))) ∷
    unsound (with (body 1 1 (entry 1 (text "a ")))) ∷
    unsound (with (body 1 1 (entry 1 (text "a  b")))) ∷
    unsound (with (body 1 1 (entry 1 (text "a b c")))) ∷
    unsound (with (body 1 1 (entry 1 (text "A b")))) ∷
    unsound (with (body 1 1 (entry 1 (text "a b") ++ 0 ∷ []))) ∷
    unsound (with (replicate 7 0)) ∷
    -- the reader, at each record, at the end, inside, and past all
    read_case 0 (1 ∷ 1 ∷ 6 ∷ 1 ∷ 7 ∷ []) ∷
    read_case 7 (1 ∷ 2 ∷ 13 ∷ 45 ∷ 58 ∷ []) ∷
    read_case 58 (0 ∷ 58 ∷ []) ∷
    read_case 57 (2 ∷ 57 ∷ []) ∷
    read_case 0xFFFFFFFFFFFFFFFF (0 ∷ 0xFFFFFFFFFFFFFFFF ∷ []) ∷
    []

pub others_hold : map (λ c. c.got) others ≡ map (λ c. c.want) others
unfolding
    others read_case shown name_case several other unsound with bare body entry rec refused_case shared_case later_tie header_first sharing full tie_case stored_as often tiny slim note half unity nan budget_case name no_name scan_case
    bounds_case score_case compile_case book_case bytes_case view_case line_case limits room second book_a body_a opened
others_hold = refl
