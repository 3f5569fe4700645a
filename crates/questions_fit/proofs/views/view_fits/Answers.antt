-- `view_fits`: what the test of the text answers decides, as the definition does.
-- Assumes nothing.
use Rattle.std.proofs.Common.{rules, ◌≡◌, ◌∙◌}
use Rattle.questions_fit.proofs.FitLaws.{fits_on, tested-fits}
use Rattle.questions_fit.proofs.views.view_fits.Goals as goal

pub returns : goal.returns
returns c = let e : c.is_ok_and.result ≡ fits_on c.args.start c.args.end c.test_text.result = search rules in
    e ∙ tested-fits _ _ _ _ _ c.test_text.ensures
