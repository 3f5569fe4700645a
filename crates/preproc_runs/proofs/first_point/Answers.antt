-- `first_point`: what is behind the code point that is read.
-- Assumes nothing.
use mathlib.Core.Path.{sym, ◌∙◌}
use Rattle.points.proofs.ReadLaws.{points-one, points_two, points-cut, points-end}
use Rattle.std.proofs.lemmas.List.{nil_from_length}
use Rattle.preproc_runs.proofs.first_point.Goals as goal

pub returns-in_err-x-clause-point : goal.returns-in_err-x-clause-point
returns-in_err-x-clause-point c = rw c.from_residual.ensures (points-end (nil_from_length _ c.in_err-x.ensures.cases))

pub returns-in_err-y-clause-point : goal.returns-in_err-y-clause-point
returns-in_err-y-clause-point c =
    rw c.from_residual-in_err-y.ensures
    (points-cut _ c.in_ok-x.ensures.cases.0 (nil_from_length _ c.in_err-y.ensures.cases) (sym c.is_lead.ensures ∙ c.if-is_lead.true))

pub returns-then-is_lead-clause-point : goal.returns-then-is_lead-clause-point
returns-then-is_lead-clause-point c =
    rw c.point_of.ensures (points_two _ c.in_ok-x.ensures.cases.0 _ c.in_ok-y.ensures.cases.0 (sym c.is_lead.ensures ∙ c.if-is_lead.true))

pub returns-clause-point : goal.returns-clause-point
returns-clause-point c = points-one _ c.in_ok-x.ensures.cases.0 (sym c.is_lead.ensures ∙ c.if-is_lead.false)
