use Rattle.std.specs.Prelude.{Ok}
use Rattle.rules.specs.Points.{wide}
use Rattle.rules.specs.declared.Refusal.TheVariants.{BookUnsound}
use Rattle.records.specs.Places.{at_of}
use Rattle.records.proofs.StepLaws.{RecordHere, record-here, record-end, record-broken}
use Rattle.detection_check.specs.Walks.{Stepped, verdict_at}
use Rattle.detection_check.proofs.CheckLaws.{verdict-long, step-record, step_end, step-broken, told-as, walked_start, walked_on, walked_next, walked_done}
use native.Mathlib.Omega.{arith}
use mathlib.Core.Path.{sym, ap, ◌∙◌}
use Rattle.detection_check.proofs.check_book.Goals as goal
use Rattle.detection_check.proofs.check_book.Goals.{In-Some, After-past}

-- a whole record at the walk's place
module _ (x : In-Some) where
  here : RecordHere x.args.book.now x.loop-next.walk.at x.in-Some.next.kind x.in-Some.next.start x.in-Some.next.len
  here = record-here _ _ _ _ _ (sym x.read.ensures ∙ ap at_of (x.in_ok-next.was ∙ ap Ok x.in-Some.is))

-- what the step over it says
stepped : (x : After-past) → Stepped x.args.book.now x.loop-next.walk (verdict_at x.args.book.now x.loop-next.walk) x.past.result
stepped x = step-record x.args.book.now x.loop-next.walk _ _ _ x.past.result (here (goal.at.After-past x).In-Some) x.past.ensures

pub returns-then-book-gt-BOOK_MOST : goal.returns-then-book-gt-BOOK_MOST
returns-then-book-gt-BOOK_MOST c = record { answer = sym (verdict-long c.args.book.now c.if-book-gt-BOOK_MOST.true) }

pub loop-next-init : goal.loop-next-init
unfolding wide
loop-next-init c = let book = c.args.book.now in
    rw c.edition_of.ensures (walked_start book c.if-book-gt-BOOK_MOST.false)

pub returns-in_err-next : goal.returns-in_err-next
returns-in_err-next c = let k = record-broken c.args.book.now c.loop-next.walk.at (sym c.read.ensures ∙ ap at_of c.in_err-next.was) in
    record { answer = told-as c.from_residual.result BookUnsound c.from_residual.ensures.1 ∙ sym (step-broken c.args.book.now c.loop-next.walk k) ∙ c.loop-next.invariant.all }

pub past-requires : goal.past-requires
past-requires c = let h = here c in
    (c.loop-next.invariant.within, h.later, h.fits)

pub returns-in_err-walk : goal.returns-in_err-walk
returns-in_err-walk c = let s = stepped (goal.at.returns-in_err-walk c).After-past in
    record {
      answer = told-as c.from_residual-in_err-walk.result c.in_err-walk.field-0.0 c.from_residual-in_err-walk.ensures.1 ∙
          walked_done c.args.book.now c.loop-next.walk c.past.result c.loop-next.invariant s _ c.in_err-walk.was;
    }

pub loop-next-smaller : goal.loop-next-smaller
loop-next-smaller c = let s = stepped (goal.at.loop-next-smaller c).After-past in
    let i = c.loop-next.invariant in
    omega (arith, walked_on c.args.book.now c.loop-next.walk c.past.result i s _ c.in_ok-walk.was, (walked_next c.args.book.now c.loop-next.walk c.past.result i s _ c.in_ok-walk.was).within)

pub loop-next-preserved : goal.loop-next-preserved
loop-next-preserved c = let s = stepped (goal.at.loop-next-preserved c).After-past in
    walked_next c.args.book.now c.loop-next.walk c.past.result c.loop-next.invariant s _ c.in_ok-walk.was

pub returns : goal.returns
returns c = let k = record-end c.args.book.now c.loop-next.walk.at (sym c.read.ensures ∙ ap at_of (c.in_ok-next.was ∙ ap Ok c.in_default.is)) in
    let i = c.loop-next.invariant in
    record { answer = c.finished.ensures ∙ sym (step_end c.args.book.now c.loop-next.walk i.within.texts k) ∙ i.all }
