-- `scan_elimination::best_without` meets its contract: white-out leaves the lines laid, and so the best is that of the lines without the range.
-- Assumes nothing.
use mathlib.Core.Path.{sym, subst}
use Prim.Native.Nat.{◌≤◌}
use native.Mathlib.Omega.{arith}
use Rattle.rules.specs.declared.View.{View}
use Rattle.license_notes.proofs.LaidLaws.{laid-blank}
use Rattle.scan_elimination.proofs.PassLaws.{best-without}
use Rattle.scan_elimination.proofs.best_without.Goals as goal

pub blank_lines-requires : goal.blank_lines-requires
blank_lines-requires c = let laid = c.requires.scanning.laid in
    (c.requires.first_le_after.0, omega (arith, c.requires.first_le_after.1, laid.few, laid.words-room))

pub best_text-requires : goal.best_text-requires
best_text-requires c = let s = c.requires.scanning in
    record { classes = (s.classes, laid-blank s.laid c.blank_lines.ensures c.blank_lines.auto.table); start_le_end = subst (λ (w : View). (w.start ≤ w.end) × (w.end ≤ c.args.scope.lines)) (sym c.whole_view.ensures) (omega arith, omega arith); counts_of = s.counted }

pub returns : goal.returns
returns c = best-without c.requires.scanning c.blank_lines.ensures c.blank_lines.auto.table c.whole_view.ensures c.best_text.ensures
