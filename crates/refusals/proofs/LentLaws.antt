-- The lent books are read as the two of their shelf, of which the second has no bytes where it is not lent.
-- Assumes nothing.
use Rattle.std.proofs.Common.{ℕ, List, [], Option, None, Some, unwrap_or}
use Rattle.rules.specs.Book.{ReadAs}
use Rattle.rules.proofs.NameLaws.{read_one, read_two}
use Rattle.refusals.specs.Lent.{books_lent}

pub lent-read : (book : List ℕ) (second : Option (List ℕ)) → ReadAs book (unwrap_or second []) (books_lent book second)
lent-read book None = read_one book
lent-read book (Some s) = read_two book s
