-- `lower_byte`: upper case and other bytes.
-- Assumes nothing.
use mathlib.Core.Path.{sym, ◌∙◌}
use native.Mathlib.Omega.{arith}
use Rattle.slices.proofs.LeafLaws.{lower-yes, lower-no, upper-most}
use Rattle.preproc_view.proofs.passes.lower_byte.Goals as goal

pub overflow_add-result : goal.overflow_add-result
overflow_add-result c = omega (arith, upper-most c.args.class.now c.args.b c.requires (sym c.in_class.ensures ∙ c.if-in_class.true))

pub returns-then-in_class : goal.returns-then-in_class
returns-then-in_class c = lower-yes _ _ c.requires (sym c.in_class.ensures ∙ c.if-in_class.true)

pub returns-else-in_class : goal.returns-else-in_class
returns-else-in_class c = lower-no _ _ c.requires (sym c.in_class.ensures ∙ c.if-in_class.false)
