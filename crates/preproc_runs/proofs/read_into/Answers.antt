use mathlib.Core.Path.{sym, ap, ◌∙◌}
use mathlib.Core.Bool.{not}
use native.Mathlib.Omega.{arith}
use Rattle.lists.proofs.WriteLaws.{part-start, part_room, part-put, part_skip, part_end}
use Rattle.rules.specs.Points.{points}
use Rattle.rules.proofs.GrowthLaws.{keep-length}
use Rattle.slices.specs.Classes.{in_class}
use Rattle.points.proofs.ReadLaws.{points-length}
use Rattle.preproc_runs.proofs.PassLaws.{keep-yes, keep-no, keep-end}
use Rattle.preproc_runs.proofs.read_into.Goals as goal

pub loop-p-init : goal.loop-p-init
loop-p-init c = let a = c.args in
    let k = keep-length (λ x. not (in_class a.class.now a.lo a.hi x)) (points a.src.now) in
    part-start _ _ (omega (arith, k, points-length a.src.now))

pub bounds-dst-w : goal.bounds-dst-w
bounds-dst-w c = part_room (keep-yes _ _ c.in-Some.ensures.point (ap not (sym c.in_class.ensures ∙ c.if-not-in_class.true))) c.loop-p.invariant

pub loop-p-preserved-then-not-in_class : goal.loop-p-preserved-then-not-in_class
loop-p-preserved-then-not-in_class c = part-put (keep-yes _ _ c.in-Some.ensures.point (ap not (sym c.in_class.ensures ∙ c.if-not-in_class.true))) c.loop-p.invariant

pub loop-p-preserved : goal.loop-p-preserved
loop-p-preserved c = part_skip (keep-no _ _ c.in-Some.ensures.point (ap not (sym c.in_class.ensures ∙ c.if-not-in_class.false))) c.loop-p.invariant

pub returns : goal.returns
returns c = part_end (keep-end _ c.in_default.ensures.point) c.loop-p.invariant
