-- `close`: a parenthesis and its blanks, or a byte that cannot go on.
-- Assumes nothing.
use mathlib.Core.Path.{◌≡◌, sym, ◌∙◌}
use mathlib.Core.Bool.{true}
use native.Mathlib.Omega.{arith}
use lib.ListN.{drop}
use Rattle.expression_bytes.specs.Front.{head_is}
use Rattle.expression_bytes.proofs.FrontLaws.{head-within}
use Rattle.expression_joints.proofs.JointLaws as laws
use Rattle.expression_joints.proofs.close.Goals as goal
use Rattle.expression_joints.proofs.close.Goals.{Then-stands}

module _ (i : Then-stands) where
  here : head_is 41 (drop i.args.at i.args.text.now) ≡ true
  here = sym i.stands.ensures ∙ i.if-stands.true

pub blanks-requires : goal.blanks-requires
blanks-requires c = omega (arith, head-within c.args.text.now c.args.at 41 (here (goal.at.blanks-requires c).Then-stands))

pub returns-then-stands : goal.returns-then-stands
returns-then-stands c = laws.close_here c.args.text.now c.args.at c.blanks.result (here (goal.at.returns-then-stands c).Then-stands) c.blanks.ensures

pub returns : goal.returns
returns c = let p = c.requires in
    laws.close_bad c.args.text.now c.args.at p.1 p.2 p.3 (sym c.stands.ensures ∙ c.if-stands.false)
