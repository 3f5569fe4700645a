-- `after_part`: the end, a blank, a parenthesis, or a byte that cannot go on.
-- Assumes nothing.
use mathlib.Core.Path.{sym, ◌∙◌}
use native.Mathlib.Omega.{arith}
use Rattle.expression_bytes.proofs.FrontLaws.{head-within}
use Rattle.expression_parts.proofs.AnswerLaws as laws
use Rattle.expression_parts.proofs.parts.after_part.Goals as goal
use Rattle.expression_parts.proofs.parts.after_part.Goals.{then-text-from-via-then-text-from, then-text-from-via-else-text-from+then-stands-2}

pub blanks-requires : goal.blanks-requires
blanks-requires c = let h = head-within c.args.text.now c.args.from 32 (sym c.stands.ensures ∙ c.if-stands.true) in omega arith

pub returns-then-stands : goal.returns-then-stands
returns-then-stands c = laws.behind-blank c.args.text.now c.args.from c.blanks.result (sym c.stands.ensures ∙ c.if-stands.true) c.blanks.ensures

pub returns-then-text-from : goal.returns-then-text-from
returns-then-text-from c =
    elim c.then-text-from.branch [
      | then-text-from-via-then-text-from w ↦ laws.behind-end c.args.text.now c.args.from c.requires w.if-text-from.true
      | then-text-from-via-else-text-from+then-stands-2 w ↦ laws.behind_close c.args.text.now c.args.from (sym c.stands.ensures ∙ c.if-stands.false) (sym w.stands-else-text-from.ensures ∙ w.if-stands-2.true)
    ]

pub returns : goal.returns
returns c = laws.behind_bad c.args.text.now c.args.from c.if-text-from.false (sym c.stands.ensures ∙ c.if-stands.false) (sym c.stands-else-text-from.ensures ∙ c.if-stands-2.false)
