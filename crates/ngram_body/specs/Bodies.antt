-- One entry of a table's body: the count, the length, the bytes.
-- Assumes nothing.
use Rattle.std.specs.Prelude.{List, ◌++◌, ℕ, length}
use Rattle.rules.specs.Prefix.{Counted}
use Rattle.rules.specs.Book.{written}

unfoldable pub entry_out : Counted → List ℕ
entry_out e = written 4 e.count ++ written 4 (length e.bytes) ++ e.bytes
