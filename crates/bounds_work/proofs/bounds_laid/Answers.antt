-- `bounds_work::bounds_laid` meets its contract: the note's lines are laid, the stored text's body is found, and the budget pays the search.
-- Assumes nothing.
use mathlib.Core.Path.{◌∙◌}
use native.Mathlib.Omega.{arith}
use Rattle.slices.proofs.KindLaws.{edition-classes}
use Rattle.license_notes.proofs.LaidLaws.{noted_lines}
use lib.ListN.{get_or}
use Rattle.rules.specs.Lines.{lines}
use Rattle.rules.specs.Search.{no_text}
use Rattle.rules.specs.Book.{edition}
use Rattle.detection_shelf.specs.Shelves.{shelf, texts}
use Rattle.bounds_work.proofs.BoundsWorkLaws.{body_read, answer_fits, answer-is, bounds-found}
use Rattle.bounds_work.proofs.bounds_laid.Goals as goal

pub lay-lines-requires : goal.lay-lines-requires
lay-lines-requires c = let p = c.requires.view_through in
    (edition-classes _ c.class_table-class.ensures, p.both.text, p.bytes, p.words)

pub stored_on-found-requires : goal.stored_on-found-requires
stored_on-found-requires c = record { counts_of = c.requires.counts_of; k_lt_all = omega (arith, c.requires.view_through.number, c.requires.counts_of.all) }

pub body_of-body-requires : goal.body_of-body-requires
body_of-body-requires c = c.stored_on-found.ensures.0

pub find_bounds-ranged-requires : goal.find_bounds-ranged-requires
find_bounds-ranged-requires c = let p = c.requires.view_through in record { working = record { laid = c.lay-lines.ensures.laid; classes = edition-classes _ c.class_table-class.ensures; sound = rw c.body_of-body.ensures c.stored_on-found.ensures.0.found.is.sound }; start_le_end = (omega (arith, p.start), omega (arith, p.end, c.lay-lines.ensures.count), omega (arith, p.both.few, c.lay-lines.ensures.count)) }

pub answer-requires : goal.answer-requires
answer-requires c = let p = c.requires.view_through in
    answer_fits _ _ _ p.start (omega (arith, p.end, p.both.few)) _ _ c.of.ensures (c.find_bounds-ranged.ensures.found (get_or (texts (shelf c.args.book.now c.args.second.now)) c.args.k no_text) (body_read c.stored_on-found.ensures.0 c.stored_on-found.ensures.1 c.body_of-body.ensures))

pub returns : goal.returns
returns c = let a = c.args in
    let p = c.requires.view_through in
    bounds-found (lines (edition a.book.now) a.text.now) (texts (shelf a.book.now a.second.now)) _ a.v a.k _ p.start (omega (arith, p.end, p.both.few))
    (noted_lines _ _ _ _ _ c.edition_of.ensures c.class_table-class.ensures c.lay-lines.ensures.lines)
    (c.answer.ensures ∙
    answer-is _ _ _ p.start (omega (arith, p.end, p.both.few)) _ _ c.of.ensures (c.find_bounds-ranged.ensures.found (get_or (texts (shelf c.args.book.now c.args.second.now)) c.args.k no_text) (body_read c.stored_on-found.ensures.0 c.stored_on-found.ensures.1 c.body_of-body.ensures)))
