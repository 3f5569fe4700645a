-- `scan_ranges::text_bounds` meets its contract: the part of the book is the table's body of the text.
-- Assumes nothing.
use mathlib.Core.Path.{sym, ap}
use native.Mathlib.Omega.{arith}
use Rattle.detection_shelf.specs.Shelves.{text_in}
use Rattle.detection_shelf.specs.Bodies.{table_of_body}
use Rattle.scan_ranges.proofs.text_bounds.Goals as goal

pub find_bounds-requires : goal.find_bounds-requires
find_bounds-requires c = let s = c.requires.scanning in
    let v = c.requires.start_le_end in record { working = record { laid = s.laid; classes = s.classes; sound = rw c.body_of-body.ensures c.requires.stands.found.is.sound }; start_le_end = (v.0, v.1, omega (arith, s.few)) }

pub returns : goal.returns
unfolding text_in table_of_body
returns c = let b = c.find_bounds.ensures in
    let k = b.kept in
    record {
      is = b.found _ (ap table_of_body (sym c.body_of-body.ensures));
      held = record { laid = k.working.laid; area_long = k.area_long; words_long = k.words_long; same = k.same };
    }
