-- `answer_view`: no answer where the text is refused or the view lies outside it, and else its score.
-- Assumes nothing.
use mathlib.Core.Path.{◌≡◌, refl, sym, ◌∙◌, ap}
use mathlib.Core.Bool.{true, not}
use native.Mathlib.Omega.{arith}
use borrow.Author.Tests.{not-true, not-false}
use Rattle.detection_shelf.specs.Bodies.{table_of_body}
use Rattle.questions_fit.specs.Views.{view_fits}
use Rattle.slices.proofs.KindLaws.{edition-classes}
use Rattle.preproc_test.proofs.CountLaws.{passed_text}
use Rattle.license_notes.proofs.LaidLaws.{noted_lines}
use Rattle.questions.proofs.PutLaws.{front-none}
use Rattle.questions_fit.proofs.FitLaws.{fits}
use Rattle.replay_scores.proofs.ToldLaws.{no-view, right-view}
use Rattle.replay_scores.proofs.ScoreLaws.{score-unit}
use Rattle.replay_scores.proofs.scores.answer_view.Goals as goal
use Rattle.replay_scores.proofs.scores.answer_view.Goals.{Else-not-view_fits}

-- the places that the answers speak of, each named from one near it: the view fits; its table is made; it is scored
module _ (f : Else-not-view_fits) where
  fit : view_fits f.args.edition f.args.start f.args.end f.args.text.now ≡ true
  fit = sym f.view_fits.ensures ∙ not-false _ (ap not f.if-not-view_fits.false)

pub returns-then-not-view_fits : goal.returns-then-not-view_fits
returns-then-not-view_fits c = front-none (no-view _ _ _ _ _ (sym c.view_fits.ensures ∙ not-true _ (ap not c.if-not-view_fits.true)))

pub lay-lines-requires : goal.lay-lines-requires
lay-lines-requires c = (edition-classes _ c.requires.0, passed_text _ _ (fits _ _ _ _ (fit (goal.at.lay-lines-requires c).Else-not-view_fits)).passes, omega (arith, c.requires.1), omega (arith, c.requires.1))

pub view_table-t-requires : goal.view_table-t-requires
view_table-t-requires c = let f = fits _ _ _ _ (fit (goal.at.view_table-t-requires c).Else-not-view_fits) in
    record { classes = (edition-classes _ c.requires.0, c.lay-lines.ensures.laid); start_le_end = (f.order, omega (arith, f.within, c.lay-lines.ensures.count)) }

pub charge_exact-charged-requires : goal.charge_exact-charged-requires
charge_exact-charged-requires c = record { tabled = c.view_table-t.ensures.stands; body_value = c.requires.2; count_nonzero = rw c.of.ensures (omega arith) }

pub put_score-requires : goal.put_score-requires
put_score-requires c = (rw c.charge_exact-charged.ensures.value (score-unit c.args.body.now c.view_table-t.ensures.stands c.requires.2), c.requires.3)

pub returns : goal.returns
returns c = let s = c.args in
    let lines = noted_lines s.edition s.edition s.class.now s.text.now _ refl c.requires.0 c.lay-lines.ensures.lines in
    let e = right-view s.edition s.start s.end s.text.now (table_of_body s.body.now) (fit (goal.at.returns c).Else-not-view_fits) in
    rw (e, ← lines, ← c.view_table-t.ensures.table, ← c.charge_exact-charged.ensures.value) c.put_score.ensures
