-- `score_work::score_laid` meets its contract: the note's lines are laid, and the view's table meets that of the stored text's body.
-- Assumes nothing.
use mathlib.Core.Path.{sym, ap, ◌∙◌}
use native.Mathlib.Omega.{arith}
use Rattle.slices.proofs.KindLaws.{edition-classes}
use Rattle.license_notes.proofs.LaidLaws.{noted_lines}
use Rattle.detection_shelf.specs.Shelves.{shelf}
use Rattle.detection_shelf.specs.Bodies.{table_of_body}
use Rattle.detection_shelf.proofs.ShelfLaws.{stored-table}
use Rattle.score_work.proofs.ScoreWorkLaws.{score-is}
use Rattle.score_work.proofs.score_laid.Goals as goal

pub lay-lines-requires : goal.lay-lines-requires
lay-lines-requires c = let p = c.requires.view_through in
    (edition-classes _ c.class_table-class.ensures, p.both.text, p.bytes, p.words)

pub view_table-t-requires : goal.view_table-t-requires
view_table-t-requires c = let p = c.requires.view_through in
    record { classes = (edition-classes _ c.class_table-class.ensures, c.lay-lines.ensures.laid); start_le_end = (omega (arith, p.start), omega (arith, p.end, c.lay-lines.ensures.count)) }

pub stored_on-found-requires : goal.stored_on-found-requires
stored_on-found-requires c = record { counts_of = c.requires.counts_of; k_lt_all = omega (arith, c.requires.view_through.number, c.requires.counts_of.all) }

pub body_of-body-requires : goal.body_of-body-requires
body_of-body-requires c = c.stored_on-found.ensures.0

pub charge_exact-charged-requires : goal.charge_exact-charged-requires
charge_exact-charged-requires c = record { tabled = c.view_table-t.ensures.stands; body_value = rw c.body_of-body.ensures c.stored_on-found.ensures.0.found.is.sound; count_nonzero = rw c.of.ensures (omega arith) }

pub returns : goal.returns
returns c = let a = c.args in
    let s = shelf a.book.now a.second.now in
    score-is _ _ _ _ _ _ _ (noted_lines _ _ _ _ _ c.edition_of.ensures c.class_table-class.ensures c.lay-lines.ensures.lines) c.view_table-t.ensures.table
    (stored-table s _ _ c.stored_on-found.ensures.0 c.stored_on-found.ensures.1 ∙ ap table_of_body (sym c.body_of-body.ensures)) c.charge_exact-charged.ensures.value
