-- `license_views::view_table` meets its contract: the passes' text, and its bigrams behind the line table.
-- Assumes nothing.
use borrow.Author.Rules.{rules}
use Rattle.license_views.proofs.ViewLaws.{table_fits, tabled, table_is, table-held}
use Rattle.license_views.proofs.view_table.Goals as goal

pub table-size-requires : goal.table-size-requires
table-size-requires c = let both = table_fits c.process-p.ensures _ c.table_end-from.ensures in record { text_in_bounds = both.0; text_len_bound = both.1 }

pub returns : goal.returns
returns c = let p = c.process-p.ensures in
    let q = c.table_end-from.ensures in record { stands = tabled p _ q c.table-size.result.total c.table-size.result.distinct c.table-size.new.p (search rules) c.table-size.ensures.table c.table-size.ensures.few; table = table_is p _ q c.table-size.result.total c.table-size.result.distinct c.table-size.new.p (search rules) c.table-size.ensures.table c.table-size.ensures.few; held = table-held p _ q c.table-size.result.total c.table-size.result.distinct c.table-size.new.p (search rules) c.table-size.ensures.table c.table-size.ensures.few }
