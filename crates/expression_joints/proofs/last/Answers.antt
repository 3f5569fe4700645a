-- `last`: alone it stays; behind others it is wrapped.
-- Assumes nothing.
use mathlib.Core.Path.{refl}
use Rattle.expression.specs.Writing.{wrap}
use Rattle.expression_joints.proofs.JointLaws as laws
use Rattle.expression_joints.proofs.last.Goals as goal

pub returns-then-alone : goal.returns-then-alone
unfolding wrap
returns-then-alone c = rw c.if-alone.true (refl, refl, refl, laws.lays_same c.args.from _ _)

pub returns : goal.returns
returns c = rw c.if-alone.false (refl, refl, refl, c.wrap-end.ensures)
