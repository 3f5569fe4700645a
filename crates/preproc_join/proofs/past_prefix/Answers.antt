-- `past_prefix`: behind the prefix, or where the line starts.
-- Assumes nothing.
use mathlib.Core.Path.{sym, ◌∙◌}
use native.Mathlib.Omega.{arith}
use lib.Seq.{length-take-le}
use Rattle.preproc_join.proofs.JoinLaws.{past_fits, past-there, past-other}
use Rattle.preproc_join.proofs.past_prefix.Goals as goal
use Rattle.preproc_join.proofs.past_prefix.Goals.{Start}

pub slice_bounds-starts_with-end : goal.slice_bounds-starts_with-end
slice_bounds-starts_with-end c = sym (length-take-le _ _ c.requires.1)

pub overflow_add-result : goal.overflow_add-result
overflow_add-result c = let o = (goal.at.overflow_add-result c).Start in
    let a = o.args in
    omega (arith, past_fits a.area.now a.a a.e a.p o.requires.0 o.requires.1 o.requires.2 o.requires.3 (sym c.starts_with.ensures ∙ c.if-starts_with.true))

pub returns-then-starts_with : goal.returns-then-starts_with
returns-then-starts_with c = let o = (goal.at.returns-then-starts_with c).Start in
    past-there _ _ _ _ o.requires.0 o.requires.1 o.requires.2 o.requires.3 (sym c.starts_with.ensures ∙ c.if-starts_with.true)

pub returns : goal.returns
returns c = let o = (goal.at.returns c).Start in
    past-other _ _ _ _ o.requires.0 o.requires.1 o.requires.2 o.requires.3 (sym c.starts_with.ensures ∙ c.if-starts_with.false)
