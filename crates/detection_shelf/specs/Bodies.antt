-- The table that a stored body holds.
-- Assumes nothing.
use Rattle.std.specs.Prelude.{List, ℕ}
use Rattle.rules.specs.Book.{table_in, entries_of}
use Rattle.rules.specs.Table.{Table}

-- the table that a stored body holds
unfoldable pub table_of_body : List ℕ → Table
table_of_body body = table_in body (entries_of body)
