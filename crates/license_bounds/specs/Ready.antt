-- A search over one bound of a view: what stands ready for it, and what an index scores.
-- Assumes nothing.
use Rattle.std.specs.Prelude.{◌≡◌, true, List, ℕ, ◌≤◌, length}
use Rattle.rules.specs.declared.View.{View}
use Rattle.rules.specs.declared.Value.{Value}
use Rattle.license_bounds.specs.declared.Moving.{Moving}
use Rattle.license_bounds.specs.declared.Moving.TheVariants.{End, Start}
use Rattle.rules.specs.Search.{Made, Stored, view, score_view}
use Rattle.rules.specs.Book.{entries_of, shaped}
use Rattle.slices.specs.Classes.{Classes}
use Rattle.preproc_table.specs.Entries.{lines_at}
use Rattle.license_notes.specs.Laid.{Laid}
use Rattle.detection_shelf.specs.Bodies.{table_of_body}

-- the view whose one bound is fixed and whose other is i
unfoldable pub view_between : Moving → ℕ → View
view_between (End start) i = view start i
view_between (Start end) i = view i end

unfoldable pub score_at : List (List ℕ) → Stored → Moving → ℕ → Made Value
score_at ls s moving i = score_view ls s (view_between moving i)

-- a search over one bound of a view, of a note of n bytes and so many lines
pub record Working (n lines : ℕ) (class area words body : List ℕ) : Type 0 where
  pub laid : Laid n lines area words
  pub classes : Classes class
  pub sound : shaped body (entries_of body) ≡ true

-- indexes from l to r make views within the note
unfoldable pub Spans : ℕ → Moving → ℕ → ℕ → Type 0
Spans lines (End start) l r = (start ≤ l) × (r ≤ lines)
Spans lines (Start end) l r = (r ≤ end) × (end ≤ lines)

-- the areas still hold the same lines
pub record Kept (n lines : ℕ) (class area₀ words₀ area words body : List ℕ) : Type 0 where
  pub working : Working n lines class area words body
  pub area_long : length area ≡ length area₀
  pub words_long : length words ≡ length words₀
  pub same : lines_at area words lines ≡ lines_at area₀ words₀ lines

-- what is known of a stored text whose table is this body's
abbrev pub OfBody : List ℕ → (Stored → Type 0) → Type 0
OfBody body P = (s : Stored) → s.table ≡ table_of_body body → P s
