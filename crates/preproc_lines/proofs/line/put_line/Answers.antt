-- `put_line`: passes 2 to 5, and the ends.
-- Assumes nothing.
use native.Mathlib.Omega.{arith}
use Rattle.slices.specs.Classes.{space_in}
use Rattle.slices.proofs.KindLaws.{by_table, space-table}
use Rattle.preproc_lines.proofs.LineLaws.{bare-most, placed}
use Rattle.preproc_lines.proofs.line.put_line.Goals as goal
use Rattle.preproc_lines.proofs.line.put_line.Goals.{Start}

pub overflow_add-result : goal.overflow_add-result
overflow_add-result c = omega (arith, bare-most c.fill_line-end.ensures c.bare-s.ensures)

pub overflow_add-result-2 : goal.overflow_add-result-2
overflow_add-result-2 c = omega (arith, bare-most c.fill_line-end.ensures c.bare-s.ensures)

pub returns : goal.returns
returns c = let o = (goal.at.returns c).Start in
    placed c.fill_line-end.ensures c.bare-s.ensures (by_table space_in o.requires.0 space-table)
