-- `scan_elimination::elimination` meets its contract: the best of the whole is paid or not, and then passes follow or not.
-- Assumes nothing.
use mathlib.Core.Bool.{not}
use mathlib.Core.Path.{refl, sym, ◌∙◌, subst, ap}
use Prim.Native.Nat.{◌≤◌}
use native.Mathlib.Omega.{arith}
use Rattle.detection_shelf.specs.Shelves.{shelf}
use Rattle.rules.specs.declared.View.{View}
use Rattle.rules.specs.Scan.{names, stops}
use Rattle.std.specs.Prelude.{Some}
use Rattle.detect_best.specs.Beats.{best_in}
use Rattle.scan_ranges.proofs.HeldLaws.{scanning_held}
use Rattle.scan_elimination.proofs.EndLaws.{whole_out, best-none, best-stands, whole-stop, whole_room, whole-on, stop_by_best, stop_by_setting, no_stop}
use Rattle.scan_elimination.proofs.elimination.Goals as goal

pub best_text-requires : goal.best_text-requires
best_text-requires c = let s = c.requires.scanning in record { classes = (s.classes, s.laid); start_le_end = subst (λ (w : View). (w.start ≤ w.end) × (w.end ≤ c.args.scope.lines)) (sym c.whole_view-v.ensures) (omega arith, omega arith); counts_of = s.counted }

pub returns-in_default : goal.returns-in_default
returns-in_default c = whole_out _ c.requires.scanning _ _ _ _ c.requires.lines_in_bounds _ c.whole_view-v.ensures _ c.in_default.ensures refl c.out_at.ensures

pub returns-in_default-value : goal.returns-in_default-value
returns-in_default-value c = best-none c.args.note.now c.requires.scanning _ _ _ c.args.results.now c.requires.lines_in_bounds _ c.whole_view-v.ensures c.in-Some.c c.in_default-value.is c.in-Some.ensures

pub returns-then-stops : goal.returns-then-stops
unfolding stops names best_in
returns-then-stops c = whole-stop _ c.requires.scanning _ _ _ _ c.requires.lines_in_bounds _ c.whole_view-v.ensures c.in-Some.c _ c.in-Some-value.is c.in-Some.ensures _
    (stop_by_best _ _ (sym c.stops.ensures ∙ c.if-stops.true)) c.in-Some-value.is c.ended-then-stops.ensures

pub returns-then-not-optimize : goal.returns-then-not-optimize
returns-then-not-optimize c = whole-stop _ c.requires.scanning _ _ _ _ c.requires.lines_in_bounds _ c.whole_view-v.ensures c.in-Some.c _ c.in-Some-value.is c.in-Some.ensures _
    (stop_by_setting (stops c.args.scope.limits (best_in (shelf c.args.book.now c.args.second.now) (Some c.in-Some-value.best))) _ (ap not c.if-not-optimize.true)) c.in-Some-value.is c.ended-then-not-optimize.ensures

pub each_pass-run-requires : goal.each_pass-run-requires
unfolding stops names best_in
each_pass-run-requires c = let e = c.whole_view-v.ensures in
    let d = c.in-Some.ensures in
    let go = no_stop _ _ (sym c.stops.ensures ∙ c.if-stops.false) (ap not c.if-not-optimize.false) in
    record {
      scanning = scanning_held c.requires.scanning d.held;
      stands = best-stands c.args.note.now c.requires.scanning _ _ _ c.args.results.now c.requires.lines_in_bounds _ e c.in-Some.c _ c.in-Some-value.is d;
      first_in_bounds = whole_room c.args.note.now c.requires.scanning _ _ _ c.args.results.now c.requires.lines_in_bounds _ e c.in-Some.c _ c.in-Some-value.is d go;
      note_len_bound = c.requires.note_len_bound;
    }

pub returns : goal.returns
unfolding stops names best_in
returns c = let go = no_stop _ _ (sym c.stops.ensures ∙ c.if-stops.false) (ap not c.if-not-optimize.false) in
    whole-on _ c.requires.scanning _ _ _ _ c.requires.lines_in_bounds _ c.whole_view-v.ensures c.in-Some.c _ c.in-Some-value.is c.in-Some.ensures go _ c.in-Some-value.is c.each_pass-run.ensures
