-- The code's best text read as the definition's, over the books that it stands in; and what the code's answers say.
-- Assumes nothing.
use Rattle.std.specs.Prelude.{◌≡◌, List, ℕ, ◌<◌, length, true, T, Float, None, Some, IsSomeAnd}
use Rattle.std.specs.Prelude as prelude
use Rattle.std.proofs.Math.Option.{Option, none, some}
use Rattle.std.specs.Float.Ieee.{lt}
use Rattle.rules.specs.declared.View.{View}
use Rattle.rules.specs.Refusal.{unit}
use Rattle.rules.specs.Table.{Table}
use Rattle.rules.specs.Search as rules
use Rattle.rules.specs.Search.{no_best, best_from}
use Rattle.preproc_table.specs.Entries.{lines_at}
use Rattle.detection_shelf.specs.Shelves.{Shelf, texts, Stands}
use Rattle.license_notes.specs.Laid.{Held}
use Rattle.license_charge.specs.Pay.{Paid, pay}
use Rattle.license_charge.specs.declared.Charged.{Charged}
use Rattle.detect_best.specs.declared.Best.{Best}
use Rattle.detect_best.specs.Beats.{best_in}

-- what is yielded, read as the definition's: out, or the best and what is left
unfoldable pub chosen_in : Shelf → prelude.Option (Charged (prelude.Option Best)) → Option (Paid rules.Best)
chosen_in books None = none
chosen_in books (Some c) = some (record { value = best_in books c.value; left = c.left.count })

-- it is one of the books' stored texts
unfoldable pub ChosenStands : Shelf → prelude.Option (Charged (prelude.Option Best)) → Type 0
ChosenStands books None = Unit {0}
ChosenStands books (Some c) = IsSomeAnd c.value (λ b. Stands books b.text)

-- b is x, or both score below the floor
pub data Alike (floor : Float) (b x : rules.Best) : Type 0 where
  same : b ≡ x → Alike floor b x
  both_below : lt b.value.score floor ≡ true → lt x.value.score floor ≡ true → T (unit x.value.score) → Alike floor b x

-- out where it is not paid; otherwise the best, if it is not below the floor, and what is left
unfoldable pub ChosenFor : Shelf → Float → prelude.Option (Charged (prelude.Option Best)) → Option (Paid rules.Best) → Type 0
ChosenFor books floor None o = o ≡ none
ChosenFor books floor (Some c) o = (x : rules.Best) × ((o ≡ some (record { value = x; left = c.left.count })) × Alike floor (best_in books c.value) x)

-- of a view with this table, as far as it is not below the floor
pub record BestOf (books : Shelf) (table : Table) (floor : Float) (budget : ℕ) (r : prelude.Option (Charged (prelude.Option Best))) : Type 0 where
  pub is : (v : View) → ChosenFor books floor r (pay (best_from table v (texts books) no_best) budget)
  pub stands : 0 < length (texts books) → ChosenStands books r

-- of a view, as far as it is not below the floor
pub record BestAbove (n lines : ℕ) (area₀ words₀ area words : List ℕ) (v : View) (books : Shelf) (floor : Float) (budget : ℕ) (r : prelude.Option (Charged (prelude.Option Best))) : Type 0 where
  pub is : ChosenFor books floor r (pay (rules.best (texts books) (lines_at area₀ words₀ lines) v) budget)
  pub stands : 0 < length (texts books) → ChosenStands books r
  pub held : Held n lines area₀ words₀ area words

-- of a view
pub record BestDone (n lines : ℕ) (area₀ words₀ area words : List ℕ) (v : View) (books : Shelf) (budget : ℕ) (r : prelude.Option (Charged (prelude.Option Best))) : Type 0 where
  pub is : chosen_in books r ≡ pay (rules.best (texts books) (lines_at area₀ words₀ lines) v) budget
  pub stands : 0 < length (texts books) → ChosenStands books r
  pub held : Held n lines area₀ words₀ area words
