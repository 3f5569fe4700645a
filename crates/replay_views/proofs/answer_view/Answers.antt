-- `answer_view`: no answer where the text is refused or the view lies outside it, and else the view of its lines.
-- Assumes nothing.
use mathlib.Core.Bool.{not}
use mathlib.Core.Path.{refl, sym, ◌∙◌, ap}
use native.Mathlib.Omega.{arith}
use borrow.Author.Tests.{not-true, not-false}
use Rattle.slices.proofs.KindLaws.{edition-classes}
use Rattle.preproc_test.proofs.CountLaws.{passed_text}
use Rattle.license_notes.proofs.LaidLaws.{noted_lines}
use Rattle.questions.proofs.PutLaws.{front-none}
use Rattle.questions_fit.proofs.FitLaws.{fits}
use Rattle.replay_views.proofs.ToldLaws.{no-view, right-view}
use Rattle.replay_views.proofs.answer_view.Goals as goal

pub returns-then-not-view_fits : goal.returns-then-not-view_fits
returns-then-not-view_fits c = front-none (no-view _ _ _ _ (sym c.view_fits.ensures ∙ not-true _ (ap not c.if-not-view_fits.true)))

pub lay-lines-requires : goal.lay-lines-requires
lay-lines-requires c = let f = fits _ _ _ _ (sym c.view_fits.ensures ∙ not-false _ (ap not c.if-not-view_fits.false)) in
    (edition-classes _ c.requires.0, passed_text _ _ f.passes, omega arith, omega arith)

pub put_view-requires : goal.put_view-requires
put_view-requires c = let f = fits _ _ _ _ (sym c.view_fits.ensures ∙ not-false _ (ap not c.if-not-view_fits.false)) in
    record { classes = (edition-classes _ c.requires.0, c.lay-lines.ensures.laid, omega arith); start_le_end = (f.order, omega (arith, f.within, c.lay-lines.ensures.count)) }

pub returns : goal.returns
returns c = let s = c.args in
    let e = right-view s.edition s.start s.end s.text.now (sym c.view_fits.ensures ∙ not-false _ (ap not c.if-not-view_fits.false)) in
    rw (e, ← noted_lines s.edition s.edition s.class.now s.text.now _ refl c.requires.0 c.lay-lines.ensures.lines) c.put_view.ensures
