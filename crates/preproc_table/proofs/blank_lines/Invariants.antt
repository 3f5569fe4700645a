-- `blank_lines`: the lines from a up to i are blank.
-- Assumes nothing.
use Rattle.preproc_table.specs.Entries.{Blanked}
use Rattle.preproc_table.proofs.blank_lines.Given as goal

abbrev pub invariant-loop-i : goal.invariant-loop-i
invariant-loop-i l = Blanked l.a l.i l.initial.table l.table
