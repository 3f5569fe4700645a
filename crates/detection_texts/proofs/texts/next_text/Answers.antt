use mathlib.Core.Path.{refl, sym, ap, ◌∙◌}
use mathlib.Core.List.{List}
use Prim.Native.Nat.{ℕ, ◌+◌}
use native.Mathlib.Omega.{arith}
use denote.Bor.{Bor}
use Rattle.rules.specs.Book.{record_at}
use Rattle.records.proofs.StepLaws.{RecordHere, record-here}
use Rattle.detection_texts.specs.declared.texts.Place.{Place}
use Rattle.detection_texts.proofs.TextLaws.{before-next, found_as, passed_number, passed_at}
use Rattle.detection_texts.proofs.texts.next_text.Goals as goal
use Rattle.detection_texts.proofs.texts.next_text.Goals.{After-record_ahead-found}

-- the record at the place
here : (x : After-record_ahead-found) →
    RecordHere x.args.book.now x.loop-kind.here.at x.record_ahead-found.result.kind x.record_ahead-found.result.start x.record_ahead-found.result.len
here x = record-here _ _ _ _ _ (ap (λ (b : List ℕ). record_at b x.loop-kind.here.at) (sym x.loop-kind.invariant.lent) ∙ x.record_ahead-found.ensures)

pub overflow_add-result : goal.overflow_add-result
overflow_add-result c = omega (arith, (here (goal.at.overflow_add-result c).After-record_ahead-found).fits)

pub returns-in-Some : goal.returns-in-Some
returns-in-Some c = let i = c.loop-kind.invariant in
    let found = c.record_ahead-found.result in
    found_as c.args.book.now c.loop-kind.here i.before found.kind found.start found.len (here (goal.at.returns-in-Some c).After-record_ahead-found)
    (sym c.in-Some.ensures.stored) (omega (arith, i.number, c.requires.1)) c.in-Some.kind c.in-Some.ensures.number c.args.place.number i.number

pub passed-here-requires : goal.passed-here-requires
passed-here-requires c = omega (arith, (here (goal.at.passed-here-requires c).After-record_ahead-found).fits)

pub loop-kind-init : goal.loop-kind-init
loop-kind-init c = record {
  lent = ap (λ (b : Bor (List ℕ)). b.now) c.new-reader.ensures.0;
  at = c.new-reader.ensures.1;
  before = c.requires.0;
  number = refl;
}

pub loop-kind-smaller : goal.loop-kind-smaller
loop-kind-smaller c = let found = c.record_ahead-found.result in
    let h = here (goal.at.loop-kind-smaller c).After-record_ahead-found in
    let e = ap (λ (p : Place). p.at) c.passed-here.ensures ∙ passed_at c.loop-kind.here found.kind found.start (found.start + found.len) in
    omega (arith, h.later, h.fits, e)

pub loop-kind-preserved : goal.loop-kind-preserved
loop-kind-preserved c = let i = c.loop-kind.invariant in
    let found = c.record_ahead-found.result in
    let h = here (goal.at.loop-kind-preserved c).After-record_ahead-found in
    record {
      lent = ap (λ (b : Bor (List ℕ)). b.now) c.moved-reader.ensures.0 ∙ i.lent;
      at = c.moved-reader.ensures.1;
      before = rw c.passed-here.ensures (before-next c.args.book.now c.loop-kind.here i.before found.kind found.start found.len h (sym c.in_default.ensures.stored));
      number = ap (λ (p : Place). p.number) c.passed-here.ensures ∙ passed_number c.loop-kind.here found.kind found.start (found.start + found.len) ∙ i.number;
    }
