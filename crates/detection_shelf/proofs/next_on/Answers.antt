-- `detection_shelf::next_on` meets its contract: in the first book, in the second, or past the last of the first.
-- Assumes nothing.
use mathlib.Core.Path.{refl, ap}
use mathlib.Core.Bool.{true, false}
use native.Mathlib.Omega.{arith}
use Rattle.detection_texts.specs.declared.texts.Place.{Place}
use Rattle.detection_shelf.specs.Shelves.{shelf}
use Rattle.detection_texts.proofs.TextLaws.{before-first, found_at}
use Rattle.detection_shelf.proofs.ShelfLaws.{spot_in, stands_of, counted-length}
use Rattle.detection_shelf.proofs.next_on.Goals as goal

pub next_text-text-requires : goal.next_text-text-requires
next_text-text-requires c = let s = shelf c.args.first.now c.args.second.now in
    let p = spot_in s c.args.spot true c.requires.before_on.0 c.if-spot.true in
    (p.0, omega (arith, p.2, c.requires.before_on.1, counted-length s _ c.requires.counts_of, c.requires.counts_of.first))

pub returns-then-spot : goal.returns-then-spot
returns-then-spot c = let s = shelf c.args.first.now c.args.second.now in
    let p = spot_in s c.args.spot true c.requires.before_on.0 c.if-spot.true in
    (stands_of s true _ _ _ c.next_text-text.ensures (omega (arith, p.2, c.requires.before_on.1, counted-length s _ c.requires.counts_of, c.requires.counts_of.first)) p.2, refl)

pub next_text-text-requires-then-place-counts : goal.next_text-text-requires-then-place-counts
next_text-text-requires-then-place-counts c = let s = shelf c.args.first.now c.args.second.now in
    let p = spot_in s c.args.spot false c.requires.before_on.0 c.if-spot.false in
    (p.0, omega (arith, c.if-place-counts.true, c.requires.counts_of.first))

pub returns-then-place-counts : goal.returns-then-place-counts
returns-then-place-counts c = let s = shelf c.args.first.now c.args.second.now in
    let p = spot_in s c.args.spot false c.requires.before_on.0 c.if-spot.false in
    (stands_of s false _ _ _ c.next_text-text-then-place-counts.ensures (omega (arith, c.if-place-counts.true, c.requires.counts_of.first)) p.2, refl)

pub next_text-text-requires-2 : goal.next_text-text-requires-2
next_text-text-requires-2 c = let s = shelf c.args.first.now c.args.second.now in
    let p = spot_in s c.args.spot false c.requires.before_on.0 c.if-spot.false in
    rw c.first_place.ensures (
      before-first _ c.requires.counts_of.sound-second,
      omega (arith, p.1, p.2, c.requires.before_on.1, counted-length s _ c.requires.counts_of, c.requires.counts_of.first, c.if-place-counts.false),
    )

pub returns : goal.returns
returns c = let s = shelf c.args.first.now c.args.second.now in
    let p = spot_in s c.args.spot false c.requires.before_on.0 c.if-spot.false in
    let f = found_at (ap (λ (x : Place). x.number) c.first_place.ensures) c.next_text-text-2.ensures in
    let l = counted-length s _ c.requires.counts_of in (
      stands_of s true _ 0 _ f (omega (arith, p.1, p.2, c.requires.before_on.1, l, c.requires.counts_of.first, c.if-place-counts.false))
          (omega (arith, p.1, p.2, l, c.requires.counts_of.first, c.if-place-counts.false)),
      refl,
    )
