-- What a round of top-down answers: the range that it found, or none, and what is left.
-- Assumes nothing.
use Rattle.std.specs.Prelude.{◌≡◌, List, ℕ, None, Some, IfSome}
use Rattle.std.specs.Prelude as prelude
use Rattle.license_charge.specs.declared.Charged.{Charged}
use Rattle.std.proofs.Math.Option.{Option, none, some}
use Rattle.rules.specs.Search.{Stored, Made}
use Rattle.rules.specs.Scan.{Recorded}
use Rattle.preproc_table.specs.Entries.{lines_at}
use Rattle.license_charge.specs.Pay.{Paid, pay}
use Rattle.license_notes.specs.Laid.{Held}
use Rattle.detection_shelf.specs.Shelves.{Shelf, texts, text_in, Stands}
use Rattle.scan_ranges.specs.declared.Scope.{Scope}
use Rattle.scan_ranges.specs.Run.{RangeFits}
use Rattle.scan_top_down.specs.declared.Contained.{Contained}

abbrev pub recorded_in : Shelf → prelude.Option Contained → Option Recorded
recorded_in books None = none
recorded_in books (Some x) = some (record { text = text_in books x.text; range = x.range })

unfoldable pub contained_in : Shelf → prelude.Option (Charged (prelude.Option Contained)) → Option (Paid (Option Recorded))
contained_in books None = none
contained_in books (Some c) = some (record { value = recorded_in books c.value; left = c.left.count })

unfoldable pub ContainedStands : Shelf → ℕ → prelude.Option (Charged (prelude.Option Contained)) → Type 0
ContainedStands books lines None = Unit {0}
ContainedStands books lines (Some c) = IfSome c.value (λ x. Stands books x.text × RangeFits lines x.range)

pub record Contains (scope : Scope) (area₀ words₀ area words : List ℕ) (books : Shelf) (run : List Stored → List (List ℕ) → Made (Option Recorded)) (budget : ℕ) (r : prelude.Option (Charged (prelude.Option Contained))) : Type 0 where
  pub is : contained_in books r ≡ pay (run (texts books) (lines_at area₀ words₀ scope.lines)) budget
  pub stands : ContainedStands books scope.lines r
  pub held : Held scope.n scope.lines area₀ words₀ area words
