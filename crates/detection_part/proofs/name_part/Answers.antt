-- `detection_part::name_part` meets its contract: it lies in its book, or is the empty part at the first's start.
-- Assumes nothing.
use mathlib.Core.Path.{sym, ◌∙◌}
use borrow.Author.Tests.{leb-true}
use Rattle.detection_part.proofs.name_part.Goals as goal

pub cut-requires : goal.cut-requires
cut-requires c = leb-true _ _ (sym c.inside.ensures ∙ c.if-inside.true)

pub returns-then-inside : goal.returns-then-inside
returns-then-inside c = simp (c.if-p.true, sym c.inside.ensures ∙ c.if-inside.true) c.cut.ensures

pub returns-then-p : goal.returns-then-p
returns-then-p c = simp (c.if-p.true, sym c.inside.ensures ∙ c.if-inside.false) c.cut-then-p.ensures

pub cut-requires-then-inside-2 : goal.cut-requires-then-inside-2
cut-requires-then-inside-2 c = leb-true _ _ (sym c.inside-2.ensures ∙ c.if-inside-2.true)

pub returns-then-inside-2 : goal.returns-then-inside-2
returns-then-inside-2 c = simp (c.if-p.false, sym c.inside-2.ensures ∙ c.if-inside-2.true) c.cut-then-inside-2.ensures

pub returns : goal.returns
returns c = simp (c.if-p.false, sym c.inside-2.ensures ∙ c.if-inside-2.false) c.cut-2.ensures
