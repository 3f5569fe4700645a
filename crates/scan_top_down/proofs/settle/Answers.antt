-- `scan_top_down::settle` meets its contract, answer by answer.
-- Assumes nothing.
use mathlib.Core.Path.{sym, ◌∙◌, subst}
use Rattle.scan_view.specs.Down.{LatestStands}
use Rattle.scan_top_down.proofs.DownRunLaws.{settle_none, settle_out, settle_below, settle_found}
use Rattle.scan_top_down.proofs.settle.Goals as goal

pub returns-in_default : goal.returns-in_default
returns-in_default c = settle_none c.requires.scanning _ _ c.in_default.is

pub text_bounds-requires : goal.text_bounds-requires
unfolding LatestStands
text_bounds-requires c = let h = subst (LatestStands _ c.args.scope.lines) c.in-Some.is c.requires.latest_stands in
    record { scanning = c.requires.scanning; start_le_end = (h.1, h.2); stands = h.0 }

pub returns-in_err-c : goal.returns-in_err-c
returns-in_err-c c = rw c.from_residual.ensures (settle_out c.requires.scanning _ _ c.in-Some.pair c.in-Some.is c.in_err-c.ensures)

pub returns-then-below : goal.returns-then-below
returns-then-below c = settle_below c.requires.scanning _ _ c.in-Some.pair c.in-Some.is c.in_ok-c.c c.in_ok-c.ensures (sym c.below.ensures ∙ c.if-below.true)

pub returns : goal.returns
returns c = settle_found c.requires.scanning _ _ c.in-Some.pair c.in-Some.is c.in_ok-c.c c.in_ok-c.ensures (sym c.below.ensures ∙ c.if-below.false) c.requires.latest_stands
