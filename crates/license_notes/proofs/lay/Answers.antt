-- `license_notes::lay` meets its contract: what `normalise` leaves is laid.
-- Assumes nothing.
use borrow.Author.Rules.{rules}
use Rattle.license_notes.proofs.LaidLaws.{laid-lines}
use Rattle.license_notes.proofs.lay.Goals as goal

pub returns : goal.returns
returns c = let d = c.normalise.ensures in
    record { laid = laid-lines _ _ _ _ _ c.requires.1 (search rules) (search rules) d; lines = d.lines; count = d.count }
