-- The code's answers at a place, as the definitions have them: for each case of the answer the definition's case and values.
-- Assumes nothing.
use Rattle.std.specs.Prelude.{ℕ, ◌+◌, length, Option, None, Some, Result, Ok, Err}
use Rattle.rules.specs.Book.{Form, Front, At, entry_of}
use Rattle.records.specs.declared.pieces.Piece.{Piece}
use Rattle.records.specs.declared.pieces.Record.{Record}
use Rattle.records.specs.declared.pieces.Entry.{Entry}
use Rattle.records.specs.declared.pieces.Broken.{Broken}

abbrev pub form_of : ℕ → ℕ → Form
form_of head place = record { head = head; place = place }

-- what breaks off
abbrev pub breaks_off : Broken
breaks_off = record {}

-- a piece whose body starts at `start`
unfoldable pub framed : ℕ → Front → Result (Option Piece) Broken
framed start Front.end = Ok None
framed start (Front.whole p more) = Ok (Some (record { start = start; len = length p.body }))
framed start Front.broken = Err breaks_off

abbrev pub at_of : Result (Option Record) Broken → At
at_of (Ok None) = At.end
at_of (Ok (Some r)) = At.whole r.kind r.start r.len
at_of (Err e) = At.broken

-- an entry at `at`
unfoldable pub entry_framed : ℕ → Front → Result (Option Entry) Broken
entry_framed at Front.end = Ok None
entry_framed at (Front.whole p more) = Ok (Some (record { count = (entry_of p).count; start = at + 8; len = length p.body }))
entry_framed at Front.broken = Err breaks_off
