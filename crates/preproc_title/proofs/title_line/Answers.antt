use mathlib.Core.Path.{sym, ◌∙◌}
use Rattle.preproc_title.proofs.TitleLaws.{line-here, line-later, line-done}
use Rattle.preproc_title.proofs.title_line.Goals as goal

pub returns-then-title_at : goal.returns-then-title_at
returns-then-title_at c = sym (line-here _ _ c.loop-i-test.true (sym c.title_at.ensures ∙ c.if-title_at.true)) ∙ c.loop-i.invariant

pub loop-i-preserved : goal.loop-i-preserved
loop-i-preserved c = sym (line-later _ _ c.loop-i-test.true (sym c.title_at.ensures ∙ c.if-title_at.false)) ∙ c.loop-i.invariant

pub returns : goal.returns
returns c = sym (line-done _ _ c.loop-i-test.false) ∙ c.loop-i.invariant
