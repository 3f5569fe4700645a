-- `class_table` is the rule's table: antt computes `class_of` at each of the 256 entries, in edition 1 and in edition 2.
-- Assumes nothing.
use mathlib.Core.Path.{sym}
use Rattle.rules.proofs.Opened.{opened}
use Rattle.slices.specs.Classes.{class_table}
use Rattle.slices.proofs.KindLaws.{table-first, table-later}
use Rattle.slices.proofs.class.class_table.Goals as goal

pub returns-then-edition-ne-EDITION_FIRST : goal.returns-then-edition-ne-EDITION_FIRST
unfolding opened class_table
returns-then-edition-ne-EDITION_FIRST c = sym (table-later c.args.edition c.if-edition-ne-EDITION_FIRST.true)

pub returns-else-edition-ne-EDITION_FIRST : goal.returns-else-edition-ne-EDITION_FIRST
unfolding opened class_table
returns-else-edition-ne-EDITION_FIRST c = sym (table-first c.args.edition c.if-edition-ne-EDITION_FIRST.false)
