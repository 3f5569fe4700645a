-- `or_word`: one letter, and what stands behind it.
-- Assumes nothing.
use mathlib.Core.Bool.{not}
use mathlib.Core.Path.{sym, ◌∙◌, ap}
use mathlib.Core.List.{[]}
use borrow.Author.Tests.{not-true, not-false}
use Rattle.expression_joints.proofs.JointLaws as laws
use Rattle.expression_joints.proofs.or_word.Goals as goal

pub returns-then-not-stands : goal.returns-then-not-stands
returns-then-not-stands c = laws.letter_bad c.args.text.now c.args.at 82 [] (sym c.stands.ensures ∙ c.if-not-stands.true)

pub returns : goal.returns
returns c = laws.letter_on c.args.text.now c.args.at 82 [] (sym c.stands.ensures ∙ c.if-not-stands.false) c.after_word.ensures
