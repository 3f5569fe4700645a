-- The book: its records, when it is sound, its stored texts; and the table body that compile writes.
-- Assumes nothing.
use Rattle.std.specs.Prelude.{◌≡◌, ℕ, zero, suc, ◌+◌, ◌*◌, ◌/◌, ◌%◌, ◌≤◌, ◌<◌, Bool, true, false, not, ◌&&◌, ◌||◌, cond, List, [], ◌∷◌, ◌++◌, leb, ltb, eqb, length, take, drop}
use Rattle.std.proofs.Math.Option.{Option, none, some}
use Rattle.rules.specs.Sizes.{book_most, stored_most, total_most, name_most, edition_most}
use Rattle.rules.specs.Bytes.{within, lower, digit, every, rises, split}
use Rattle.rules.specs.Points.{wide, taken, points}
use Rattle.rules.specs.Prefix.{Counted}
use Rattle.rules.specs.Table.{Table, view_table}
use Rattle.rules.specs.Lines.{lines}
use Rattle.rules.specs.declared.Named.{Named}
use Rattle.rules.specs.Search.{Stored, recurse}

-- ---- numbers, little-endian
-- the number in the first n bytes of s
unfoldable pub number : ℕ → List ℕ → ℕ
number zero s = 0
number (suc n) [] = 0
number (suc n) (x ∷ xs) = x + 256 * number n xs

-- x in n bytes
unfoldable pub written : ℕ → ℕ → List ℕ
written zero x = []
written (suc n) x = x % 256 ∷ written n (x / 256)

-- ---- pieces: a head of fixed size, which holds at a fixed place the u32 length of the body that follows it
pub record Form : Type 0 where
  pub head : ℕ
  pub place : ℕ

pub record Piece : Type 0 where
  pub head : List ℕ
  pub body : List ℕ

-- what stands at the front of s: nothing, a piece and what follows it, or a piece that breaks off
pub data Front : Type 0 where
  end : Front
  whole : Piece → List ℕ → Front
  broken : Front

unfoldable pub front : Form → List ℕ → Front
front f [] = end
front f (x ∷ xs) =
    let s = x ∷ xs in
    let n = number 4 (drop f.place s) in
    let piece : Piece = record { head = take f.head s; body = take n (drop f.head s) } in
    cond (leb (f.head + n) (length s)) (whole piece (drop (f.head + n) s)) broken

unfoldable pub also : {A : Type 0} → A → Option (List A) → Option (List A)
also a none = none
also a (some more) = some (a ∷ more)

-- the pieces that fill s exactly, each as `read` reads it; none where they do not
unfoldable pub go_on : {A : Type 0} → (Piece → A) → (List ℕ → Option (List A)) → Front → Option (List A)
go_on read go end = some []
go_on read go (whole p more) = also (read p) (go more)
go_on read go broken = none

unfoldable pub pieces : {A : Type 0} → Form → (Piece → A) → List ℕ → Option (List A)
pieces f read s = recurse length (λ t. none) (λ go t. go_on read go (front f t)) s

-- ---- records: u32 body length, u16 kind, body
pub record Record : Type 0 where
  pub kind : ℕ
  pub body : List ℕ

abbrev pub record_form : Form
record_form = record { head = 6; place = 0 }

unfoldable pub record_of : Piece → Record
record_of p = record { kind = number 2 (drop 4 p.head); body = p.body }

unfoldable pub records_of : List ℕ → Option (List Record)
records_of book = pieces record_form record_of book

-- a reader holds its place, and there it finds the end, a record (its kind, its body's start and length), or a broken one
pub data At : Type 0 where
  end : At
  whole : ℕ → ℕ → ℕ → At
  broken : At

unfoldable pub placed : ℕ → Front → At
placed place end = end
placed place (whole p more) = whole (record_of p).kind (place + 6) (length p.body)
placed place broken = broken

unfoldable pub record_at : List ℕ → ℕ → At
record_at book place = placed place (front record_form (drop place book))

-- the place after it
unfoldable pub next_place : ℕ → At → ℕ
next_place place end = place
next_place place (whole kind start len) = start + len
next_place place broken = place

-- ---- table bodies: u32 total, u32 distinct, then entries (u32 count, u32 length, bytes)
abbrev pub entry_form : Form
entry_form = record { head = 8; place = 4 }

unfoldable pub entry_of : Piece → Counted
entry_of p = record { bytes = p.body; count = number 4 p.head }

unfoldable pub entries_of : List ℕ → Option (List Counted)
entries_of body = pieces entry_form entry_of (drop 8 body)

unfoldable pub sum : List Counted → ℕ
sum [] = 0
sum (e ∷ es) = e.count + sum es

-- counts from 1, strictly rising by bytes: the first entry stands above g, and each above the one before
abbrev pub Above : List ℕ → List Counted → Type 0
Above g [] = Unit {0}
Above g (e ∷ es) = rises g e.bytes ≡ true

abbrev pub Rising : List Counted → Type 0
Rising [] = Unit {0}
Rising (e ∷ es) = (0 < e.count) × Above e.bytes es × Rising es

-- a text's table and a sound book's: rising, its total is the sum of its counts, which is limited
pub record Proper (a : Table) : Type 0 where
  pub rising : Rising a.entries
  pub summed : a.total ≡ sum a.entries
  pub limited : a.total ≤ total_most

-- a non-empty run of letters that lower case leaves, 0-9 and `_`: of a-z alone, or `w` in UTF-8
unfoldable pub term : Bool → List ℕ → Bool
term w s = ltb 0 (length s) && (taken w s && every (λ x. lower x || digit x || eqb x 95) (points s))

-- two of these with one space between
unfoldable pub two_terms : Bool → List (List ℕ) → Bool
two_terms w [] = false
two_terms w (a ∷ []) = false
two_terms w (a ∷ b ∷ []) = term w a && term w b
two_terms w (a ∷ b ∷ c ∷ more) = false

unfoldable pub all_terms : Bool → List Counted → Bool
all_terms w [] = true
all_terms w (e ∷ es) = let more = all_terms w es in two_terms w (split 32 e.bytes) && more

-- counts from 1, strictly rising by bytes over the entry before
unfoldable pub sound_entries : List ℕ → List Counted → Bool
sound_entries last [] = true
sound_entries last (e ∷ es) =
    let more = sound_entries e.bytes es in
    ltb 0 e.count && rises last e.bytes && more

-- its entries are as many as it says, and their counts sum to its total, which is limited
unfoldable pub shaped : List ℕ → Option (List Counted) → Bool
shaped body none = false
shaped body (some es) =
    leb 8 (length body) &&
    eqb (number 4 body) (sum es) &&
    eqb (number 4 (drop 4 body)) (length es) &&
    sound_entries [] es &&
    leb (sum es) total_most

-- and each is two terms
unfoldable pub sound_table : Bool → List ℕ → Option (List Counted) → Bool
sound_table w body none = false
sound_table w body (some es) = shaped body (some es) && all_terms w es

-- ---- soundness
-- 1 to 64 bytes of 33 to 126: of a name, and of an alias
unfoldable pub sound_name : List ℕ → Bool
sound_name n = within 1 name_most (length n) && every (within 33 126) n

-- original, alternate and header are stored texts
unfoldable pub stored_kind : ℕ → Bool
stored_kind k = within 2 4 k

-- two bytes, which say an edition above 1
unfoldable pub sound_edition : List ℕ → Bool
sound_edition body = eqb (length body) 2 && within 2 edition_most (number 2 body)

unfoldable pub sound_body : Bool → Record → Bool
sound_body w r =
    let other = cond (eqb r.kind 6) (sound_edition r.body) (sound_name r.body) in
    cond (stored_kind r.kind) (sound_table w r.body (entries_of r.body)) other

-- kind b may stand after kind a, which is 0 at the start: 6 first of all; per licence one 1, one 2, any 3, any 4, any 5, in this order
unfoldable pub follows : ℕ → ℕ → Bool
follows a b =
    let of-licence = cond (eqb b 1) (not (eqb a 1)) (cond (eqb b 2) (eqb a 1) (within 3 5 b && within 2 b a)) in
    cond (eqb b 6) (eqb a 0) of-licence

-- after a record of kind a, under the licence `name`; names strictly rise by bytes
unfoldable pub sound_records : Bool → ℕ → List ℕ → List Record → Bool
sound_records w a name [] = not (eqb a 1)
sound_records w a name (r ∷ rs) =
    let first = eqb r.kind 1 in
    let more = sound_records w r.kind (cond first r.body name) rs in
    follows a r.kind && sound_body w r && (not first || rises name r.body) && more

-- ---- the edition of any bytes: what a whole first record of kind 6 says; 1 where there is none, or where its body is no edition
unfoldable pub said_by : ℕ → List ℕ → ℕ
said_by kind body = cond (eqb kind 6 && sound_edition body) (number 2 body) 1

unfoldable pub said_at : List ℕ → At → ℕ
said_at book end = 1
said_at book (whole kind start len) = said_by kind (take len (drop start book))
said_at book broken = 1

unfoldable pub edition : List ℕ → ℕ
edition book = said_at book (record_at book 0)

-- ---- stored texts, numbered from n, under the licence `name`
unfoldable pub table_in : List ℕ → Option (List Counted) → Table
table_in body none = record { total = 0; entries = [] }
table_in body (some es) = record { total = number 4 body; entries = es }

unfoldable pub stored_in : ℕ → List ℕ → List Record → List Stored
stored_in n name [] = []
stored_in n name (r ∷ rs) =
    let this : Stored = record { number = n; name = name; kind = r.kind; table = table_in r.body (entries_of r.body) } in
    let under = cond (eqb r.kind 1) r.body name in
    cond (stored_kind r.kind) (this ∷ []) [] ++ stored_in (cond (stored_kind r.kind) (suc n) n) under rs

unfoldable pub stored_of : ℕ → Option (List Record) → List Stored
stored_of n none = []
stored_of n (some rs) = stored_in n [] rs

unfoldable pub stored_from : ℕ → List ℕ → List Stored
stored_from n book = stored_of n (records_of book)

unfoldable pub stored : List ℕ → List Stored
stored book = stored_from 0 book

unfoldable pub filled : Bool → Option (List Record) → Bool
filled w none = false
filled w (some rs) = sound_records w 0 [] rs

-- its words by its own edition
unfoldable pub sound : List ℕ → Bool
sound book = leb (length book) book_most && filled (wide (edition book)) (records_of book) && leb (length (stored book)) stored_most

-- ---- lent books, one or two: texts count on from the first into the second
unfoldable pub shelved : ℕ → List (List ℕ) → List Stored
shelved n [] = []
shelved n (b ∷ bs) = let ss = stored_from n b in ss ++ shelved (n + length ss) bs

unfoldable pub all_sound : List (List ℕ) → Bool
all_sound [] = true
all_sound (b ∷ bs) = sound b && all_sound bs

-- the first book's edition, and whether another's differs from it
unfoldable pub edition_of : List (List ℕ) → ℕ
edition_of [] = 1
edition_of (b ∷ bs) = edition b

unfoldable pub all_of : ℕ → List (List ℕ) → Bool
all_of e [] = true
all_of e (b ∷ bs) = eqb (edition b) e && all_of e bs

unfoldable pub differ : List (List ℕ) → Bool
differ [] = false
differ (b ∷ bs) = not (all_of (edition b) bs)

-- where the name of each of these texts stands; `place`: where the next record starts, `p`: the name that it stands under
unfoldable pub names_in : Bool → ℕ → Named → List Record → List Named
names_in second place p [] = []
names_in second place p (r ∷ rs) =
    let this : Named = record { second = second; at = place + 6; len = length r.body } in
    let under = cond (eqb r.kind 1) this p in
    cond (stored_kind r.kind) (p ∷ []) [] ++ names_in second (place + 6 + length r.body) under rs

-- no name: the empty part at the first book's start
abbrev pub no_part : Named
no_part = record { second = false; at = 0; len = 0 }

unfoldable pub names_of : Bool → Option (List Record) → List Named
names_of second none = []
names_of second (some rs) = names_in second 0 (record { second = second; at = 0; len = 0 }) rs

-- of the texts of all lent books, in the same order
unfoldable pub name_parts : Bool → List (List ℕ) → List Named
name_parts second [] = []
name_parts second (b ∷ bs) = names_of second (records_of b) ++ name_parts true bs

-- the bytes of a part, of the first book or of the second
abbrev pub part_in : List ℕ → List ℕ → Named → List ℕ
part_in first second p = take p.len (drop p.at (cond p.second second first))

-- it lies in that book
abbrev pub Lies : List ℕ → List ℕ → Named → Type 0
Lies first second p = p.at + p.len ≤ length (cond p.second second first)

-- lent books that have the texts of `a` and then of `b`, and their names where these stand, under the edition of `a`
pub record ReadAs (a b : List ℕ) (bs : List (List ℕ)) : Type 0 where
  pub texts : shelved 0 bs ≡ shelved 0 (a ∷ b ∷ [])
  pub names : name_parts false bs ≡ name_parts false (a ∷ b ∷ [])
  pub said : edition_of bs ≡ edition a

-- ---- compile: the table body of a text
unfoldable pub entries_out : List Counted → List ℕ
entries_out [] = []
entries_out (e ∷ es) = written 4 e.count ++ written 4 (length e.bytes) ++ e.bytes ++ entries_out es

unfoldable pub table_out : Table → List ℕ
table_out t = written 4 t.total ++ written 4 (length t.entries) ++ entries_out t.entries

unfoldable pub compiled : ℕ → List ℕ → List ℕ
compiled e t = table_out (view_table (lines e t))
