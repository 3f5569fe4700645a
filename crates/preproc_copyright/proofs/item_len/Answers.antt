-- `item_len`: case by case.
-- Assumes nothing.
use mathlib.Core.Path.{sym, ◌∙◌}
use native.Mathlib.Omega.{arith}
use Rattle.preproc_copyright.proofs.HitCaseLaws.{takes_as, item-end, item-c, item-digits}
use Rattle.preproc_copyright.proofs.item_len.Goals as goal

pub returns-then-s-at : goal.returns-then-s-at
returns-then-s-at c = item-end _ _ c.if-s-at.true

pub returns-then-s-at-eq99 : goal.returns-then-s-at-eq99
returns-then-s-at-eq99 c = (sym (item-c _ _ c.if-s-at.false c.if-s-at-eq99.true), omega arith)

pub returns : goal.returns
returns c = takes_as _ (c.digit_run.ensures ∙ sym (item-digits _ _ c.if-s-at.false c.if-s-at-eq99.false)) c.some_run.ensures
