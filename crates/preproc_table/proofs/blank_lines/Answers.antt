use native.Mathlib.Omega.{arith}
use Rattle.preproc_table.proofs.EntryLaws.{blanked-none, blanked-more}
use Rattle.preproc_table.proofs.blank_lines.Goals as goal

pub loop-i-init : goal.loop-i-init
loop-i-init c = blanked-none _ _

pub loop-i-preserved : goal.loop-i-preserved
loop-i-preserved c = rw c.blank_line.ensures (blanked-more (omega arith) (omega arith) c.loop-i.invariant)
