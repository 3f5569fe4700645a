-- How elimination ends: its best text, as the events that the budget pays say it, and the run of its passes.
-- Assumes nothing.
use Rattle.std.specs.Prelude.{◌≡◌, List, ℕ, ◌-◌, ◌≤◌, length, IfSome}
use Rattle.rules.specs.Sizes.{name_most}
use Rattle.rules.specs.Scan.{Event, afford, verdict}
use Rattle.rules.specs.Jobs.{name_part}
use Rattle.detection_shelf.specs.declared.Shelved.{Shelved}
use Rattle.detect_best.specs.Beats.{best_in}
use Rattle.detection_shelf.specs.Shelves.{Shelf, book_in, text_in, part_held, parts_of}
use Rattle.scan_elimination.specs.declared.Outcome.{Outcome}
use Rattle.scan_ranges.specs.Run.{Ran}

-- the text's name is a part of its book, of at most 64 bytes, and stands where the definition has it
pub record NameFits (books : Shelf) (t : Shelved) : Type 0 where
  pub order : t.text.name ≤ t.text.past
  pub high : t.text.past ≤ length (book_in books t.second)
  pub most : t.text.past - t.text.name ≤ name_most
  pub stands : name_part (parts_of books) (text_in books t) ≡ part_held t

-- over the bytes of the note
pub record Eliminated (note : List ℕ) (es : List Event) (budget : ℕ) (books : Shelf) (r₀ r : List ℕ) (x : Outcome) : Type 0 where
  pub best : best_in books x.best ≡ verdict (afford budget es)
  pub name : IfSome x.best (λ b. NameFits books b.text)
  pub ran : Ran note es budget r₀ r x.run
