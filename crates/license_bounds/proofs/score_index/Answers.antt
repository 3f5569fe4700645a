-- `license_bounds::score_index` meets its contract: the index's view lies in the note, and its table is scored, where a scoring is left.
-- Assumes nothing.
use Rattle.license_bounds.proofs.IndexLaws.{index_inside, index_scored, index_unpaid}
use Rattle.license_bounds.proofs.score_index.Goals as goal

pub returns-then-is_spent-clause-found : goal.returns-then-is_spent-clause-found
returns-then-is_spent-clause-found c = λ s e. index_unpaid _ c.args.task.moving c.args.i c.args.body.now _ (c.is_spent.ensures.none_left c.if-is_spent.true) s e

pub view_table-t-requires-clause-start_le_end : goal.view_table-t-requires-clause-start_le_end
view_table-t-requires-clause-start_le_end c = index_inside _ c.args.i c.args.task.moving _ c.view_at-v.ensures c.requires.spans

pub returns-clause-found : goal.returns-clause-found
returns-clause-found c = λ s e.
    index_scored _ c.args.task.moving c.args.i _ _ c.args.body.now _ c.charge_exact.result c.view_at-v.ensures c.view_table-t.ensures.table c.charge_exact.ensures.value
    (c.is_spent.ensures.some_left c.if-is_spent.false) c.charge_exact.ensures.left s e
