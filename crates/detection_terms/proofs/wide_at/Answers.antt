-- `wide_at` meets its contract: the first test that fails.
-- Assumes nothing.
use mathlib.Core.Path.{◌≡◌, sym, ap, ◌∙◌}
use mathlib.Core.Bool.{true, false}
use native.Mathlib.Omega.{arith}
use lib.ListN.{get_or}
use Rattle.lists.proofs.SliceLaws.{drop-next, drop-done}
use Rattle.rules.specs.Bytes.{within}
use Rattle.rules.specs.Points.{opens}
use Rattle.rules.proofs.PointLaws.{opens-range}
use Rattle.detection_terms.specs.Terms.{term_point, wide_term}
use Rattle.detection_terms.proofs.TermLaws.{wide_closed}
use Rattle.detection_terms.proofs.wide_at.Goals as goal
use Rattle.detection_terms.proofs.wide_at.Goals.{Else-not-is_lead}

-- where x opens
opened : (lead : Else-not-is_lead) → opens lead.args.x ≡ true
opened lead = sym lead.is_lead.ensures ∙ lead.if-not-is_lead.false

pub returns-then-not-is_lead : goal.returns-then-not-is_lead
returns-then-not-is_lead c = sym (wide_closed c.args.x _ (sym c.is_lead.ensures ∙ c.if-not-is_lead.true))

pub returns-then-s-i : goal.returns-then-s-i
unfolding wide_term
returns-then-s-i c = rw (drop-done c.args.s.now c.args.i c.if-s-i.true)

pub is_wide-requires : goal.is_wide-requires
is_wide-requires c = omega (arith, c.point_of.ensures, (opens-range c.args.x (opened (goal.at.is_wide-requires c).Else-not-is_lead)).0)

pub returns-then-is_second : goal.returns-then-is_second
unfolding wide_term
returns-then-is_second c = let a = c.args in
    let e : within 128 191 (get_or a.s.now a.i 0) ≡ true = sym c.is_second.ensures ∙ c.if-is_second.true in
    rw (drop-next a.s.now a.i c.if-s-i.false, opened (goal.at.returns-then-is_second c).Else-not-is_lead, e) (c.is_wide.ensures ∙ ap term_point c.point_of.ensures)

pub returns-else-is_second : goal.returns-else-is_second
unfolding wide_term
returns-else-is_second c = let a = c.args in
    let e : within 128 191 (get_or a.s.now a.i 0) ≡ false = sym c.is_second.ensures ∙ c.if-is_second.false in
    rw (drop-next a.s.now a.i c.if-s-i.false, opened (goal.at.returns-else-is_second c).Else-not-is_lead, e) c.if-is_second.false
