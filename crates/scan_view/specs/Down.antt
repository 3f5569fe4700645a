-- Top-down's walk over some of a round's views: the latest pair so far, and whether a score below the threshold has ended the walk. And what
-- the code's answers say of it.
-- Assumes nothing.
use Rattle.std.specs.Prelude.{◌≡◌, Bool, true, false, cond, List, [], ◌∷◌, ℕ, ◌≤◌, None, Some}
use Rattle.std.specs.Prelude as prelude
use Rattle.std.proofs.Math.Option.{Option, none, some}
use Rattle.std.specs.Float.Ieee.{lt}
use Rattle.rules.specs.declared.Limits.{Limits}
use Rattle.rules.specs.declared.View.{View}
use Rattle.rules.specs.Search.{Stored, Made, done, ◌>>=◌, best}
use Rattle.rules.specs.Scan.{Pair}
use Rattle.preproc_table.specs.Entries.{lines_at}
use Rattle.license_charge.specs.declared.Charged.{Charged}
use Rattle.license_charge.specs.Pay.{Paid, pay}
use Rattle.license_notes.specs.Laid.{Held}
use Rattle.detection_shelf.specs.Shelves.{Shelf, texts, text_in, Stands}
use Rattle.scan_ranges.specs.declared.Scope.{Scope}
use Rattle.scan_view.specs.declared.Latest.{Latest}
use Rattle.scan_view.specs.declared.Walked.{Walked}

pub record Seen : Type 0 where
  pub pair : Option Pair
  pub ended : Bool

unfoldable pub walk : Limits → List Stored → List (List ℕ) → Option Pair → List View → Made Seen
walk lim ss ls o [] = done (record { pair = o; ended = false })
walk lim ss ls none (v ∷ vs) =
    best ss ls v >>= λ b.
    let on = walk lim ss ls (some (record { view = v; text = b.text })) vs in
    let not_yet = walk lim ss ls none vs in
    cond (lt b.value.score lim.threshold) not_yet on
walk lim ss ls (some p) (v ∷ vs) =
    best ss ls v >>= λ b.
    let on = walk lim ss ls (some (record { view = v; text = b.text })) vs in
    cond (lt b.value.score lim.threshold) (done (record { pair = some p; ended = true })) on

-- ---- the code's answers
unfoldable pub latest_in : Shelf → prelude.Option Latest → Option Pair
latest_in books None = none
latest_in books (Some l) = some (record { view = l.view; text = text_in books l.text })

unfoldable pub walked_in : Shelf → prelude.Option (Charged Walked) → Option (Paid Seen)
walked_in books None = none
walked_in books (Some c) = some (record { value = record { pair = latest_in books c.value.latest; ended = c.value.ended }; left = c.left.count })

-- after a score below the threshold
unfoldable pub lower_in : prelude.Option Latest → Walked
lower_in None = record { latest = None; ended = false }
lower_in (Some l) = record { latest = Some l; ended = true }

-- of a whole round: whichever way the walk came to its end
unfoldable pub pair_in : Shelf → prelude.Option (Charged (prelude.Option Latest)) → Option (Paid (Option Pair))
pair_in books None = none
pair_in books (Some c) = some (record { value = latest_in books c.value; left = c.left.count })

-- a pair is a view of the lines and one of the stored texts
unfoldable pub LatestStands : Shelf → ℕ → prelude.Option Latest → Type 0
LatestStands books lines None = Unit {0}
LatestStands books lines (Some l) = Stands books l.text × (l.view.start ≤ l.view.end) × (l.view.end ≤ lines)

unfoldable pub WalkedStands : Shelf → ℕ → prelude.Option (Charged Walked) → Type 0
WalkedStands books lines None = Unit {0}
WalkedStands books lines (Some c) = LatestStands books lines c.value.latest

unfoldable pub PairStands : Shelf → ℕ → prelude.Option (Charged (prelude.Option Latest)) → Type 0
PairStands books lines None = Unit {0}
PairStands books lines (Some c) = LatestStands books lines c.value

-- r is what these runs yield over the lines and the books, paid from the budget; the areas still hold the same lines
pub record Walks (scope : Scope) (area₀ words₀ area words : List ℕ) (books : Shelf) (run : List Stored → List (List ℕ) → Made Seen) (budget : ℕ) (r : prelude.Option (Charged Walked)) : Type 0 where
  pub is : walked_in books r ≡ pay (run (texts books) (lines_at area₀ words₀ scope.lines)) budget
  pub stands : WalkedStands books scope.lines r
  pub held : Held scope.n scope.lines area₀ words₀ area words

pub record Pairs (scope : Scope) (area₀ words₀ area words : List ℕ) (books : Shelf) (run : List Stored → List (List ℕ) → Made (Option Pair)) (budget : ℕ) (r : prelude.Option (Charged (prelude.Option Latest))) : Type 0 where
  pub is : pair_in books r ≡ pay (run (texts books) (lines_at area₀ words₀ scope.lines)) budget
  pub stands : PairStands books scope.lines r
  pub held : Held scope.n scope.lines area₀ words₀ area words
