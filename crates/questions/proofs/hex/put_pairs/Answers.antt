use mathlib.Core.Path.{refl}
use native.Mathlib.Omega.{arith}
use Rattle.lists.proofs.WriteLaws.{part-from, part_room, part-put, part_end}
use Rattle.questions.proofs.HexLaws.{pairs_next, pairs-done, pairs-length}
use Rattle.questions.proofs.hex.put_pairs.Goals as goal

pub loop-b-init : goal.loop-b-init
loop-b-init c = part-from _ _ _ (omega (arith, pairs-length c.args.src.now))

pub bounds-dst-w : goal.bounds-dst-w
bounds-dst-w c = part_room (pairs_next _ _ _ _ c.loop-b-test.true refl refl) c.loop-b.invariant

pub bounds-dst-w-in-loop-b : goal.bounds-dst-w-in-loop-b
bounds-dst-w-in-loop-b c = part_room refl (part-put (pairs_next _ _ _ _ c.loop-b-test.true c.hex_glyph.ensures refl) c.loop-b.invariant)

pub loop-b-preserved : goal.loop-b-preserved
loop-b-preserved c = let e = pairs_next _ _ _ _ c.loop-b-test.true c.hex_glyph.ensures c.hex_glyph-in-loop-b.ensures in
    part-put refl (part-put e c.loop-b.invariant)

pub returns : goal.returns
returns c = part_end (pairs-done _ _ c.loop-b-test.false) c.loop-b.invariant
