-- `detection_check::Walk::past` meets its contract: each return is a step that keeps the verdict.
-- Assumes nothing.
use mathlib.Core.Bool.{not}
use Rattle.detection_check.proofs.CheckLaws.{step_bad, step-over, step-name, step_other}
use borrow.Author.Tests.{not-true, not-false}
use native.Mathlib.Omega.{arith}
use mathlib.Core.Path.{sym, ◌∙◌, ap}
use Rattle.detection_check.proofs.Walk.past.Goals as goal

pub returns-then-not-record_sound : goal.returns-then-not-record_sound
returns-then-not-record_sound c = let a = c.args in
    step_bad a.book.now a.self a.next.kind a.next.start a.next.len (sym c.record_sound.ensures ∙ not-true _ (ap not c.if-not-record_sound.true))

pub returns-then-texts-gt-STORED_MOST : goal.returns-then-texts-gt-STORED_MOST
returns-then-texts-gt-STORED_MOST c = let a = c.args in
    step-over a.book.now a.self a.next.kind a.next.start a.next.len c.texts_after-texts.result c.texts_after-texts.ensures (omega arith)

pub returns-then-kind-eq-NAME_KIND : goal.returns-then-kind-eq-NAME_KIND
returns-then-kind-eq-NAME_KIND c = let a = c.args in
    let p = c.requires in
    step-name a.book.now a.self a.next.kind a.next.start a.next.len c.texts_after-texts.result c.texts_after-texts.ensures (omega arith)
    (sym c.record_sound.ensures ∙ not-false _ (ap not c.if-not-record_sound.false)) p.0 p.1 p.2 c.if-kind-eq-NAME_KIND.true

pub returns : goal.returns
returns c = let a = c.args in
    let p = c.requires in
    step_other a.book.now a.self a.next.kind a.next.start a.next.len c.texts_after-texts.result c.texts_after-texts.ensures (omega arith)
    (sym c.record_sound.ensures ∙ not-false _ (ap not c.if-not-record_sound.false)) p.0 p.1 p.2 c.if-kind-eq-NAME_KIND.false
