-- The code's best text read as the definition's, over the books that it stands in; when the next is better, and what it has to beat.
-- Assumes nothing.
use Rattle.std.specs.Prelude.{◌≡◌, ℕ, Bool, true, false, ◌||◌, cond, eqb, ltb, Float, Option, None, Some, IsSomeAnd}
use Rattle.std.specs.Float.Ieee.{lt}
use Rattle.rules.specs.Table.{no_value}
use Rattle.rules.specs.Told.{kind_number}
use Rattle.rules.specs.Search as rules
use Rattle.rules.specs.Search.{better}
use Rattle.detection_shelf.specs.Shelves.{Shelf, Stands, text_in}
use Rattle.floors.specs.declared.Floor.{Floor}
use Rattle.detect_best.specs.declared.Best.{Best}

unfoldable pub best_in : Shelf → Option Best → rules.Best
best_in books None = rules.no_best
best_in books (Some b) = record { text = text_in books b.text; value = b.value }

-- its kind's number and its score, as the definition has them: 0 where there is none
abbrev pub kind_of : Option Best → ℕ
kind_of None = 0
kind_of (Some b) = kind_number b.text.text.kind

abbrev pub score_of : Option Best → Float
score_of None = no_value.score
score_of (Some b) = b.value.score

-- if it is a text, it is one of these books'
abbrev pub StandsIn : Shelf → Option Best → Type 0
StandsIn books None = Unit {0}
StandsIn books (Some b) = Stands books b.text

-- over any books; and one of the stored texts where next is one, and where best, if it is a text, is one
pub record Betters (best : Option Best) (next : Best) (r : Option Best) : Type 0 where
  pub is : (books : Shelf) → best_in books r ≡ better (best_in books best) (best_in books (Some next))
  pub stands : (books : Shelf) → Stands books next.text → StandsIn books best → IsSomeAnd r (λ b. Stands books b.text)

-- whether it is the next
pub record Wins (best : Option Best) (next : Best) (r : Bool) : Type 0 where
  pub yes : r ≡ true → Betters best next (Some next)
  pub no : r ≡ false → Betters best next best

-- what the next text has to beat, by the best's kind and score and by its own kind: the floor, where ties with it do, as long as none reaches it;
-- then the best, where ties do if its kind goes before
unfoldable pub to_beat : Float → ℕ → Float → ℕ → Floor
to_beat floor kind score next = cond (eqb kind 0 || lt score floor) (record { score = floor; ties = true }) (record { score = score; ties = ltb next kind })
