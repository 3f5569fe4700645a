-- The numbers of the rules, each named once.
-- Assumes nothing.
use Rattle.std.specs.Prelude.{ℕ, ◌+◌, ◌*◌}

-- a text: its bytes and its lines
abbrev pub text_most : ℕ
text_most = 1_048_576

abbrev pub lines_most : ℕ
lines_most = 65_536

-- a book: its bytes, its stored texts, a table's total, a name's bytes
abbrev pub book_most : ℕ
book_most = 16_777_216

abbrev pub stored_most : ℕ
stored_most = 1_024

abbrev pub total_most : ℕ
total_most = 8_388_608

abbrev pub name_most : ℕ
name_most = 64

-- the editions that a book and compile may have: 1 to this one
abbrev pub edition_most : ℕ
edition_most = 3

-- the lent areas of a text of n bytes, in bytes and in u32
abbrev pub byte_area : ℕ → ℕ
byte_area n = 8 * n + 64

abbrev pub word_area : ℕ → ℕ
word_area n = 12 * n + 64

-- a record of a scan: its numbers in the results area
abbrev pub record_width : ℕ
record_width = 6
