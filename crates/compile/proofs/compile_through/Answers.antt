-- `compile::compile_through` meets its contract: the table of the whole view is the text's.
-- Assumes nothing.
use mathlib.Core.Path.{refl}
use native.Mathlib.Omega.{arith}
use borrow.Author.Rules.{rules}
use Rattle.slices.specs.Classes.{Classes}
use Rattle.slices.proofs.KindLaws.{edition-classes}
use Rattle.license_notes.proofs.LaidLaws.{noted_lines}
use Rattle.compile.proofs.BodyLaws.{compiled-is, bodied_as, zeroed}
use Rattle.compile.proofs.compile_through.Goals as goal

pub lay-lines-requires : goal.lay-lines-requires
lay-lines-requires c = let l : Classes _ = edition-classes _ c.class_table-class.ensures in
    search rules

pub view_table-t-requires : goal.view_table-t-requires
view_table-t-requires c = record {
  classes = (edition-classes _ c.class_table-class.ensures, search rules);
  start_le_end = search rules;
}

pub returns : goal.returns
returns c = let held = c.view_table-t.ensures.held in
    let e = compiled-is _ _ _ _ _ (noted_lines _ _ _ _ _ refl c.class_table-class.ensures c.lay-lines.ensures.lines) c.lay-lines.ensures.count c.view_table-t.ensures.table in record { body = bodied_as _ _ _ _ _ e c.write_body-answer.ensures; bytes = zeroed _ c.view_table-t.new.area c.args.area.now c.clear.ensures.bytes (omega (arith, held.area_long, c.area-1.given)); words = zeroed _ c.view_table-t.new.words c.args.words.now c.clear.ensures.words (omega (arith, held.words_long, c.words-1.given)) }
