-- `detection_shelf::body_of` meets its contract: in its book.
-- Assumes nothing.
use mathlib.Core.Bool.{true, false}
use native.Mathlib.Omega.{arith}
use Rattle.detection_shelf.specs.Shelves.{shelf}
use Rattle.detection_shelf.proofs.ShelfLaws.{body_fits}
use Rattle.detection_shelf.proofs.body_of.Goals as goal

pub cut-requires : goal.cut-requires
cut-requires c = let s = shelf c.args.first.now c.args.second.now in
    let f = body_fits s c.args.t true c.requires c.if-t.true in
    omega (arith, f.0, f.1)

pub cut-requires-else-t : goal.cut-requires-else-t
cut-requires-else-t c = let s = shelf c.args.first.now c.args.second.now in
    let f = body_fits s c.args.t false c.requires c.if-t.false in
    omega (arith, f.0, f.1)

pub returns-then-t : goal.returns-then-t
returns-then-t c = simp c.if-t.true c.cut.ensures.bytes

pub returns-else-t : goal.returns-else-t
returns-else-t c = simp c.if-t.false c.cut-else-t.ensures.bytes
