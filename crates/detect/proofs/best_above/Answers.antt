-- `detect::best_above` meets its contract: the best over the table of the view is the view's best.
-- Assumes nothing.
use Rattle.detect.proofs.BestLaws.{best_above}
use Rattle.detect.proofs.best_above.Goals as goal

pub returns : goal.returns
returns c = best_above _ _ _ _ _ _ _ _ _ _ _ _ c.best_of.ensures c.view_table-t.ensures.table c.view_table-t.ensures.held
