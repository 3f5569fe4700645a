use Rattle.detection_texts.proofs.TextLaws.{before-first, found_at}
use Rattle.detection_texts.specs.declared.texts.Place.{Place}
use native.Mathlib.Omega.{arith}
use mathlib.Core.Path.{ap}
use Rattle.detection_texts.proofs.texts.stored_at.Goals as goal

pub next_text-text-requires : goal.next_text-text-requires
next_text-text-requires c = let p = c.requires in
    rw c.first_place.ensures (before-first _ p.0, omega (arith, p.1))

pub loop-init : goal.loop-init
loop-init c = found_at (ap (λ (x : Place). x.number) c.first_place.ensures) c.next_text-text.ensures

pub after_text-requires : goal.after_text-requires
after_text-requires c = let f = c.loop.invariant in
    omega (arith, f.below, f.numbered)

pub next_text-text-requires-in-loop : goal.next_text-text-requires-in-loop
next_text-text-requires-in-loop c = let f = c.loop.invariant in
    rw c.after_text.ensures (f.on, omega (arith, c.requires.1, f.numbered, c.loop-test.true))

pub loop-preserved : goal.loop-preserved
loop-preserved c = found_at (omega (arith, c.loop.invariant.numbered, ap (λ (x : Place). x.number) c.after_text.ensures)) c.next_text-text-in-loop.ensures

pub returns : goal.returns
returns c = found_at (omega (arith, c.loop-test.false, c.loop.auto.counter-end)) c.loop.invariant
