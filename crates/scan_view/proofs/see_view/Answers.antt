-- `scan_view::see_view` meets its contract: one view is scored against all texts, and then it is decided.
-- Assumes nothing.
use Rattle.scan_view.proofs.SeeLaws.{see-out, see-none, see-low, see-high}
use Rattle.scan_view.proofs.see_view.Goals as goal

pub best_above-requires : goal.best_above-requires
best_above-requires c = let s = c.requires.scanning in
    record { classes = (s.classes, s.laid); start_le_end = c.requires.start_le_end; counts_of = s.counted }

pub returns-in_err-c : goal.returns-in_err-c
returns-in_err-c c = rw c.from_residual.ensures (see-out _ _ _ _ _ _ _ c.in_err-c.ensures)

pub returns-in_default : goal.returns-in_default
returns-in_default c = see-none c.args.scope _ _ _ _ _ c.args.latest c.in_ok-c.c c.in_ok-c.ensures c.in_default.is c.requires.scanning.some-text

pub returns-then-best-floor : goal.returns-then-best-floor
returns-then-best-floor c = see-low _ _ _ _ _ _ _ c.in_ok-c.c c.in_ok-c.ensures c.in-Some.best c.in-Some.is _ c.if-best-floor.true c.requires.latest_stands c.below_threshold-value-then-best-floor.ensures

pub returns : goal.returns
returns c = see-high _ _ _ _ _ _ _ c.in_ok-c.c c.in_ok-c.ensures c.in-Some.best c.in-Some.is c.if-best-floor.false c.requires.start_le_end c.requires.scanning.some-text
