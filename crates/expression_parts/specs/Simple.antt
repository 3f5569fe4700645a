-- A simple expression at the front of a text: how many bytes its identifier has and whether + follows; or how many bytes can go on to one.
-- Assumes nothing.
use Rattle.std.specs.Prelude.{ℕ, ◌+◌, Bool, false, ◌||◌, cond, List, eqb, drop, take, Result, Ok, Err}
use Rattle.rules.specs.Bytes.{lead, same}
use Rattle.expression.specs.Reading.{id_byte, Kind, bare, license, reference, document, kind_of, is_word, license_ref, document_ref}
use Rattle.expression_bytes.specs.Front.{head_is, spelt}
use Rattle.expression_parts.specs.declared.names.Span.{Span}
use Rattle.expression_parts.specs.declared.names.Simple.{Simple}
use Rattle.expression_parts.specs.declared.names.Stuck.{Stuck}
use Rattle.expression_parts.specs.declared.names.Kind.{Kind as Found}
use Rattle.expression_parts.specs.declared.names.Kind.TheVariants as found

-- the bytes of a text that a span is of
abbrev pub bytes_of : List ℕ → Span → List ℕ
bytes_of text s = take s.len (drop s.at text)

abbrev pub kind_told : Found → Kind
kind_told found.Bare = bare
kind_told found.License = license
kind_told found.Reference = reference
kind_told found.Document = document

-- a word, or a front with nothing behind it
unfoldable pub is_bare : List ℕ → Bool
is_bare w = same document_ref w || same license_ref w || is_word w

abbrev pub simple_of : ℕ → Bool → Result Simple Stuck
simple_of n plus = Ok (record { len = n; plus = plus })

abbrev pub stuck_behind : ℕ → Result Simple Stuck
stuck_behind n = Err (record { len = n })

-- behind DocumentRef- and its idstring, n bytes: the colon, LicenseRef-, and m bytes of an idstring
unfoldable pub idstring : ℕ → ℕ → Result Simple Stuck
idstring n m = cond (eqb m 0) (stuck_behind (n + 12)) (simple_of (n + 12 + m) false)

unfoldable pub after_colon : ℕ → List ℕ → Result Simple Stuck
after_colon n s = cond (eqb (spelt license_ref s) 11) (idstring n (lead id_byte (drop 11 s))) (stuck_behind (n + 1 + spelt license_ref s))

unfoldable pub after_document : ℕ → List ℕ → Result Simple Stuck
after_document n s = cond (head_is 58 s) (after_colon n (drop 1 s)) (stuck_behind n)

-- behind n bytes of an identifier of that kind
unfoldable pub by_kind : Kind → ℕ → List ℕ → Result Simple Stuck
by_kind bare n s = stuck_behind n
by_kind license n s = simple_of n (head_is 43 s)
by_kind reference n s = simple_of n false
by_kind document n s = after_document n s

unfoldable pub behind_ids : ℕ → List ℕ → Result Simple Stuck
behind_ids n s = cond (eqb n 0) (stuck_behind 0) (by_kind (kind_of (take n s)) n (drop n s))

unfoldable pub simple_at : List ℕ → Result Simple Stuck
simple_at s = behind_ids (lead id_byte s) s
