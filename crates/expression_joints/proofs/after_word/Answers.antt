-- `after_word`: a blank, a parenthesis, or a byte that cannot go on.
-- Assumes nothing.
use mathlib.Core.Path.{sym, ◌∙◌}
use Rattle.expression_joints.proofs.JointLaws as laws
use Rattle.expression_joints.proofs.after_word.Goals as goal
use Rattle.expression_joints.proofs.after_word.Goals.{then-stands-via-then-stands, then-stands-via-else-stands+then-stands-2}

pub returns-then-stands : goal.returns-then-stands
returns-then-stands c =
    elim c.then-stands.branch [
      | then-stands-via-then-stands w ↦ laws.after-blank c.args.text.now c.args.at (sym c.stands.ensures ∙ w.if-stands.true)
      | then-stands-via-else-stands+then-stands-2 w ↦ laws.after_open c.args.text.now c.args.at (sym w.stands-else-stands.ensures ∙ w.if-stands-2.true)
    ]

pub returns : goal.returns
returns c = laws.after_bad c.args.text.now c.args.at (sym c.stands.ensures ∙ c.if-stands.false) (sym c.stands-else-stands.ensures ∙ c.if-stands-2.false)
