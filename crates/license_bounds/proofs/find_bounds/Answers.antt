-- `license_bounds::find_bounds` meets its contract: the second search goes up to what the first found, which lies in the view.
-- Assumes nothing.
use mathlib.Core.Path.{◌≡◌, refl, sym, ◌∙◌}
use native.Mathlib.Omega.{arith}
use Rattle.rules.specs.Search as rules
use Rattle.license_bounds.specs.declared.Moving.TheVariants.{Start as StartOf}
use Rattle.preproc_table.specs.Entries.{lines_at}
use Rattle.license_charge.specs.Pay.{pay, charged_of}
use Rattle.license_bounds.specs.Ready.{Spans, OfBody, score_at}
use Rattle.license_bounds.proofs.ReadyLaws.{body_text, kept_more}
use Rattle.license_bounds.proofs.RoundLaws.{found-same}
use Rattle.license_bounds.proofs.BoundLaws.{found_in, no_end, no_start, both_found}
use Rattle.license_bounds.proofs.find_bounds.Goals as goal
use Rattle.license_bounds.proofs.find_bounds.Goals.{After-search_bound-2}

pub search_bound-requires : goal.search_bound-requires
unfolding Spans
search_bound-requires c = let inside = c.requires.start_le_end in
    record { sought = record { working = c.requires.working; spans = (omega arith, inside.1); small = omega arith }; from_le_to = inside.0 }

pub returns-in_err-e : goal.returns-in_err-e
returns-in_err-e c = record {
  found = λ s e. c.from_residual.ensures ∙ no_end _ c.args.v s c.args.budget.count (c.in_err-e.ensures.found s e);
  kept = c.in_err-e.ensures.kept;
}

pub search_bound-requires-2 : goal.search_bound-requires-2
unfolding Spans
search_bound-requires-2 c = let up = c.in_ok-e.ensures in
    let inside = c.requires.start_le_end in
    let e = c.in_ok-e.e in
    let found = found_in _ c.args.v.start c.args.v.end c.args.budget.count e inside.0 (up.found (body_text c.args.body.now) refl) in
    record {
      sought = record { working = up.kept.working; spans = (omega arith, omega (arith, inside.1)); small = omega (arith, inside.1, inside.2) };
      from_le_to = found.0;
    }

-- the start is searched, over the same lines
module _ (d : After-search_bound-2) where
  down : OfBody d.args.body.now
      (λ s. d.search_bound-2.result ≡
      charged_of (pay (rules.search (score_at (lines_at d.args.area.now d.args.words.now d.args.lines) s (StartOf d.in_ok-e.e.value.at)) d.args.v.start d.in_ok-e.e.value.at) d.in_ok-e.e.left.count))
  down s e =
      let at = d.in_ok-e.e.value.at in
      found-same d.in_ok-e.ensures.kept.same s (StartOf at) (λ f. rules.search f d.args.v.start at) d.in_ok-e.e.left.count (d.search_bound-2.ensures.found s e)

pub returns-in_err-a : goal.returns-in_err-a
returns-in_err-a c = let up = c.in_ok-e.ensures in
    let d = (goal.at.returns-in_err-a c).After-search_bound-2 in
    record {
      found = λ s e. c.from_residual-in_err-a.ensures ∙ no_start _ c.args.v s c.args.budget.count c.in_ok-e.e (up.found s e) (sym c.in_err-a.was ∙ down d s e);
      kept = kept_more up.kept d.search_bound-2.ensures.kept;
    }

pub returns : goal.returns
returns c = let up = c.in_ok-e.ensures in
    let d = (goal.at.returns c).After-search_bound-2 in
    record {
      found = λ s e. both_found _ c.args.v s c.args.budget.count c.in_ok-e.e (up.found s e) c.in_ok-a.a (sym c.in_ok-a.was ∙ down d s e);
      kept = kept_more up.kept d.search_bound-2.ensures.kept;
    }
