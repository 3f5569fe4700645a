-- `title_end`: at the end, or before ` copyright`.
-- Assumes nothing.
use mathlib.Core.Path.{sym, ◌∙◌}
use borrow.Author.Tests.{le-leb}
use Rattle.rules.specs.Bytes.{text}
use Rattle.preproc_title.proofs.TitleLaws.{end-done, end_more}
use Rattle.preproc_title.proofs.title_end.Goals as goal

pub returns-then-s-at : goal.returns-then-s-at
returns-then-s-at c = le-leb _ _ c.if-s-at.true ∙ sym (end-done _ _ c.if-s-at.true)

pub returns-else-s-at : goal.returns-else-s-at
unfolding text
returns-else-s-at c = c.starts_with.ensures ∙ sym (end_more _ _ c.if-s-at.false)
