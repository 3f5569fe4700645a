-- `answer_table`: what compile wrote, told.
-- Assumes nothing.
use mathlib.Core.Path.{sym}
use native.Mathlib.Omega.{arith}
use lib.Seq.{length-take-le}
use mathlib.Core.Path.{refl}
use Rattle.questions.proofs.PutLaws.{front-none}
use Rattle.rules.proofs.ToldLaws.{numbered}
use Rattle.replay_tables.proofs.MadeLaws.{TableMade, not_made, made, no_table, right-table}
use Rattle.replay_tables.proofs.answer_table.Goals as goal
use Rattle.replay_tables.proofs.answer_table.Goals.{In-Ok}

module _ (k : In-Ok) where
  -- what compile wrote
  written : TableMade k.args.edition k.args.text.now k.in-Ok.len k.compile.new.out
  written = made k.in-Ok.ensures (omega arith) (omega arith) k.requires refl

pub returns-in_default : goal.returns-in_default
returns-in_default c = front-none (no_table _ _ (not_made c.in_default.ensures (omega arith) (omega arith) c.requires (numbered c.in_default.field-0)))

pub slice_bounds-put_table-end : goal.slice_bounds-put_table-end
slice_bounds-put_table-end c = (written (goal.at.slice_bounds-put_table-end c).In-Ok).within

pub slice_bounds-put_table-end-2 : goal.slice_bounds-put_table-end-2
slice_bounds-put_table-end-2 c = sym (length-take-le _ _ (written (goal.at.slice_bounds-put_table-end-2 c).In-Ok).within)

pub put_table-requires : goal.put_table-requires
put_table-requires c = let w = written (goal.at.put_table-requires c).In-Ok in
    (w.sound, omega (arith, length-take-le c.in-Ok.len c.compile.new.out w.within, w.within, c.compile.auto.out, c.requires))

pub returns : goal.returns
returns c = let w = written (goal.at.returns c).In-Ok in
    rw (right-table _ c.args.text.now w.here, ← w.table) c.put_table.ensures
