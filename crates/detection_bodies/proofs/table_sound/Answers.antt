-- `table_sound`: the walk by the one constant or the other.
-- Assumes nothing.
use mathlib.Core.Path.{sym, ap, ◌∙◌}
use mathlib.Core.Bool.{Bool}
use Rattle.rules.specs.Book.{entries_of, sound_table}
use Rattle.detection_bodies.proofs.table_sound.Goals as goal
use Rattle.detection_bodies.proofs.table_sound.Goals.{Start}

abbrev table_of : Start → Bool → Bool
table_of c w = sound_table w c.args.body.now (entries_of c.args.body.now)

pub returns-then-wide : goal.returns-then-wide
returns-then-wide c = c.walk_table.ensures ∙ ap (table_of (goal.at.returns-then-wide c).Start) (sym c.if-wide.true)

pub returns : goal.returns
returns c = c.walk_table-2.ensures ∙ ap (table_of (goal.at.returns c).Start) (sym c.if-wide.false)
