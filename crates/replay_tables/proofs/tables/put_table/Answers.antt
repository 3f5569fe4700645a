use mathlib.Core.Path.{refl, ◌∙◌}
use mathlib.Core.List.{[], ◌∷◌}
use native.Mathlib.Omega.{arith}
use Rattle.lists.proofs.ChainLaws.{front_of}
use Rattle.questions.proofs.NumberLaws.{decimal-length}
use Rattle.questions.proofs.PutLaws.{front-more}
use Rattle.replay_tables.specs.Told.{table_told}
use Rattle.replay_tables.proofs.WalkLaws.{body-long, telling_start, telling_fits, telling_more, telling_room, telling_end}
use Rattle.replay_tables.proofs.tables.put_table.Goals as goal

pub read_u32-total-requires : goal.read_u32-total-requires
read_u32-total-requires c = omega (arith, body-long _ c.requires.0)

pub put_number-w-requires : goal.put_number-w-requires
put_number-w-requires c = omega (arith, decimal-length c.read_u32-total.result (omega arith), body-long _ c.requires.0, c.requires.1)

pub loop-at-init : goal.loop-at-init
loop-at-init c = (telling_start _ c.requires.0 _ c.read_u32-total.result _ c.read_u32-total.ensures (omega arith) (front_of c.put_number-w.ensures) (omega (arith, c.requires.1, c.put_number-w.auto.dst)), refl)

pub read_u32-requires : goal.read_u32-requires
read_u32-requires c = let f = telling_fits c.loop-at.invariant.0 c.loop-at-test.true in
    omega arith

pub tell_entry-w-requires : goal.tell_entry-w-requires
tell_entry-w-requires c = let i = c.loop-at.invariant.0 in
    let f = telling_fits i c.loop-at-test.true in
    let w = c.wide-len.ensures in
    let r = c.read_u32.ensures in
    (omega (arith, f, w, r), omega (arith, f, w, r, i.room, i.long))

pub overflow_add-at-in-loop-at : goal.overflow_add-at-in-loop-at
overflow_add-at-in-loop-at c = let f = telling_fits c.loop-at.invariant.0 c.loop-at-test.true in
    omega (arith, f)

pub overflow_add-at-in-loop-at-2 : goal.overflow_add-at-in-loop-at-2
overflow_add-at-in-loop-at-2 c = let f = telling_fits c.loop-at.invariant.0 c.loop-at-test.true in
    omega (arith, f, c.wide-len.ensures, c.read_u32.ensures)

pub loop-at-preserved : goal.loop-at-preserved
loop-at-preserved c = let len = c.wide-len.ensures ∙ c.read_u32.ensures in
    (telling_more c.loop-at.invariant.0 c.loop-at-test.true _ _ _ len c.tell_entry-w.ensures.short c.tell_entry-w.auto.out c.tell_entry-w.ensures.told, c.tell_entry-w.auto.out ∙ c.loop-at.invariant.1)

pub put_byte-requires : goal.put_byte-requires
put_byte-requires c = telling_room c.loop-at.invariant.0

pub returns : goal.returns
unfolding table_told
returns c = front-more (10 ∷ []) (telling_end c.loop-at.invariant.0 c.loop-at-test.false) c.put_byte.ensures
