-- `scan_top_down::find_contained` meets its contract: the round's walk, and then what it came to is settled.
-- Assumes nothing.
use Rattle.scan_view.specs.Down.{PairStands}
use Rattle.scan_ranges.proofs.HeldLaws.{scanning_held}
use Rattle.scan_top_down.proofs.DownRunLaws.{contains-out, contains-settled}
use Rattle.scan_top_down.proofs.find_contained.Goals as goal

pub settle-requires : goal.settle-requires
unfolding PairStands
settle-requires c = let w = c.in_ok-found.ensures in
    record { scanning = scanning_held c.requires.scanning w.held; latest_stands = w.stands }

pub returns-in_err-found : goal.returns-in_err-found
returns-in_err-found c = rw c.from_residual.ensures (contains-out _ _ _ _ _ _ _ c.in_err-found.ensures)

pub returns : goal.returns
returns c = contains-settled _ _ _ _ _ _ _ c.in_ok-found.found c.in_ok-found.ensures c.settle.ensures
