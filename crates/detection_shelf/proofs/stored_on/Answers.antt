-- `detection_shelf::stored_on` meets its contract: in the first book, or lowered by its texts in the second.
-- Assumes nothing.
use mathlib.Core.Path.{refl}
use mathlib.Core.Bool.{true, false}
use native.Mathlib.Omega.{arith}
use Rattle.detection_shelf.specs.Shelves.{shelf}
use Rattle.detection_shelf.proofs.ShelfLaws.{stands_of, counted-length}
use Rattle.detection_shelf.proofs.stored_on.Goals as goal

pub returns-then-k-counts : goal.returns-then-k-counts
returns-then-k-counts c = let s = shelf c.args.first.now c.args.second.now in
    (stands_of s false _ _ _ c.stored_at-text.ensures (omega (arith, c.if-k-counts.true, c.requires.counts_of.first)) (omega arith), refl)

pub stored_at-text-requires-2 : goal.stored_at-text-requires-2
stored_at-text-requires-2 c = let s = shelf c.args.first.now c.args.second.now in
    (c.requires.counts_of.sound-second, omega (arith, c.requires.k_lt_all, counted-length s _ c.requires.counts_of, c.if-k-counts.false))

pub returns : goal.returns
returns c = let s = shelf c.args.first.now c.args.second.now in
    let l = counted-length s _ c.requires.counts_of in
    (stands_of s true _ _ _ c.stored_at-text-2.ensures (omega (arith, c.requires.k_lt_all, l, c.if-k-counts.false)) (omega (arith, c.requires.counts_of.first, c.if-k-counts.false)), refl)
