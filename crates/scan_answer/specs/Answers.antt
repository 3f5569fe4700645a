-- What the job `scan` finds and answers, over how the scan ended.
-- Assumes nothing.
use Rattle.std.specs.Prelude.{◌≡◌, cond, List, ℕ, ◌-◌, ltb, length, replicate, Option, None, Some, IfSome, is_none}
use Rattle.std.specs.Float.Ieee.{lt}
use Rattle.rules.specs.declared.Limits.{Limits}
use Rattle.rules.specs.declared.Mode.{Mode}
use Rattle.rules.specs.declared.Scanned.{Scanned}
use Rattle.rules.specs.declared.Named.{Named}
use Rattle.rules.specs.declared.Licence.{Licence}
use Rattle.rules.specs.Sizes.{name_most}
use Rattle.rules.specs.declared.Value.{Value}
use Rattle.rules.specs.Table.{nought, no_value}
use Rattle.rules.specs.Search.{Stored, no_text}
use Rattle.rules.specs.Book.{no_part, edition}
use Rattle.rules.specs.Lines.{lines}
use Rattle.rules.specs.Scan.{Event, events, afford, scorings, records, numbers}
use Rattle.rules.specs.Jobs.{over, named, answered}
use Rattle.rules.specs.Told.{licence_kind, licence_part}
use Rattle.license_charge.specs.declared.Scorings.{Scorings}
use Rattle.detection_shelf.specs.declared.Shelved.{Shelved}
use Rattle.detection_shelf.specs.Shelves.{Shelf, texts, text_in, part_held, parts_of}
use Rattle.detect_best.specs.declared.Best.{Best}
use Rattle.detect_best.specs.Beats.{best_in}
use Rattle.scan_elimination.specs.declared.Outcome.{Outcome}
use Rattle.scan_elimination.specs.Ended.{NameFits}

-- a refusal before any work: its number, all else zero
abbrev pub refused_by : ℕ → Scanned
refused_by n = record { refusal = n; name = replicate name_most 0; len = 0; kind = 0; score = nought; m = 0; t = 0; count = 0; records = 0; part = no_part }

-- the text that is named, where one is, as the books hold it
abbrev pub held_for : Limits → Option Best → Option Shelved
held_for lim None = None
held_for lim (Some b) = cond (lt lim.threshold b.value.score) (Some b.text) None

-- the same as the definition's: no text where none is
abbrev pub stored_held : Shelf → Option Shelved → Stored
stored_held books None = no_text
stored_held books (Some t) = text_in books t

abbrev pub part_of : Option Shelved → Named
part_of None = no_part
part_of (Some t) = part_held t

abbrev pub named_in : Shelf → Limits → Option Best → Stored
named_in books lim b = named lim (best_in books b)

-- where its name stands
abbrev pub part_for : Limits → Option Best → Named
part_for lim b = part_of (held_for lim b)

-- its name is a part of its book, of at most 64 bytes
abbrev pub HeldFits : Shelf → Option Shelved → Type 0
HeldFits books o = IfSome o (λ t. NameFits books t)

-- of what is named its kind, over any books, and where its name stands
pub record LicenceHeld (o : Option Shelved) (r : Option Licence) : Type 0 where
  pub kind : (books : Shelf) → licence_kind r ≡ (stored_held books o).kind
  pub part : licence_part r ≡ part_of o

-- the overall value: no value where no text is the best
abbrev pub value_for : Option Best → Value
value_for None = no_value
value_for (Some b) = b.value

-- the scorings left: none where the budget was out
abbrev pub left_count : Option Scorings → ℕ
left_count None = 0
left_count (Some left) = left.count

abbrev pub answer_for : Shelf → Limits → ℕ → Outcome → Scanned
answer_for books lim budget x = record {
  refusal = cond (is_none x.run.left) 12 0;
  name = over (named_in books lim x.best).name (replicate name_most 0);
  len = length (named_in books lim x.best).name;
  kind = (named_in books lim x.best).kind;
  score = (value_for x.best).score;
  m = (value_for x.best).m;
  t = (value_for x.best).t;
  count = budget - left_count x.run.left;
  records = x.run.records;
  part = part_for lim x.best;
}

-- below the refusals: 12 where the budget does not pay all scorings, the answer to what it pays, and the results area at exit
abbrev pub full : List ℕ → Shelf → Limits → Mode → List Event
full t books lim mode = events lim mode (texts books) (lines (edition books.first) t)

abbrev pub over_number : ℕ → List Event → ℕ
over_number budget es = cond (ltb budget (length (scorings es))) 12 0

pub record Scans (t : List ℕ) (books : Shelf) (lim : Limits) (mode : Mode) (budget : ℕ) (r₀ r : List ℕ) (a : Scanned) : Type 0 where
  pub answer : a ≡ answered (over_number budget (full t books lim mode)) lim (parts_of books) (afford budget (full t books lim mode))
  pub results : r ≡ over (numbers t (records (afford budget (full t books lim mode)))) r₀
