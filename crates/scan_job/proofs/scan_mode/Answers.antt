-- `scan_job::scan_mode` meets its contract: the events of a mode are those of its scan.
-- Assumes nothing.
use mathlib.Core.Path.{subst}
use mathlib.Core.List.{List}
use Prim.Native.Nat.{◌≤◌}
use lib.ListN.{length}
use Rattle.rules.specs.Scan.{Event}
use Rattle.scan_ranges.specs.Run.{paid_numbers}
use Rattle.scan_job.proofs.ModeLaws.{by_elimination, by_top_down, step_above, eliminated_as, down_ended}
use Rattle.scan_job.proofs.scan_mode.Goals as goal

pub elimination-requires : goal.elimination-requires
elimination-requires c = let a = c.args in
    let e = by_elimination a.scope.limits a.mode _ _ _ _ c.in-Elimination.is in
    record { scanning = c.requires.scanning; lines_in_bounds = subst (λ (es : List Event). length (paid_numbers a.note.now a.budget.count es) ≤ length a.results.now) e c.requires.lines_in_bounds; note_len_bound = c.requires.note_len_bound }

pub top_down-run-requires : goal.top_down-run-requires
top_down-run-requires c = let a = c.args in
    let m = c.in-TopDown.is in
    let e = by_top_down a.scope.limits a.mode _ _ _ m in record { scanning = c.requires.scanning; step_nonzero = step_above a.mode _ m c.requires.mode_value; lines_in_bounds = subst (λ (es : List Event). length (paid_numbers a.note.now a.budget.count es) ≤ length a.results.now) e c.requires.lines_in_bounds; note_len_bound = c.requires.note_len_bound }

pub returns-in-Elimination : goal.returns-in-Elimination
returns-in-Elimination c = let a = c.args in
    eliminated_as (by_elimination a.scope.limits a.mode _ _ _ _ c.in-Elimination.is) c.elimination.ensures

pub returns-in-TopDown : goal.returns-in-TopDown
returns-in-TopDown c = let a = c.args in
    eliminated_as (by_top_down a.scope.limits a.mode _ _ _ c.in-TopDown.is)
    (down_ended a.scope.limits _ _ _ c.top_down-run.ensures)
