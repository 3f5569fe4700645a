-- What a search over one bound of a view is asked and yields, and so the bounds of a view.
-- Assumes nothing.
use Rattle.std.specs.Prelude.{◌≡◌, List, ℕ, ◌<◌, Option}
use Rattle.rules.specs.declared.Index.{Index}
use Rattle.rules.specs.declared.Value.{Value}
use Rattle.rules.specs.declared.View.{View}
use Rattle.rules.specs.Search.{Made, bounds}
use Rattle.license_bounds.specs.declared.Task.{Task}
use Rattle.license_charge.specs.Pay.{pay, charged_of}
use Rattle.license_charge.specs.declared.Charged.{Charged}
use Rattle.preproc_table.specs.Entries.{lines_at}
use Rattle.license_bounds.specs.Ready.{Working, Spans, Kept, OfBody, score_at}
use Rattle.rules.specs.declared.Bounds.{Bounds}

-- the indexes from l to r can be scored
pub record Sought (task : Task) (class area words body : List ℕ) (l r : ℕ) : Type 0 where
  pub working : Working task.n task.lines class area words body
  pub spans : Spans task.lines task.moving l r
  pub small : r < 65538

-- x is what this run yields, over what scores an index, paid from the budget; the areas hold the same lines as before
pub record Yields (task : Task) (class area₀ words₀ area words body : List ℕ) (run : (ℕ → Made Value) → Made Index) (budget : ℕ) (x : Option (Charged Index)) : Type 0 where
  pub found : OfBody body (λ s. x ≡ charged_of (pay (run (score_at (lines_at area₀ words₀ task.lines) s task.moving)) budget))
  pub kept : Kept task.n task.lines class area₀ words₀ area words body

-- x is the bounds of the view, paid from the budget; the areas hold the same lines as before
pub record BoundsPaid (n lines : ℕ) (class area₀ words₀ area words body : List ℕ) (v : View) (budget : ℕ) (x : Option (Charged Bounds)) : Type 0 where
  pub found : OfBody body (λ s. x ≡ charged_of (pay (bounds (lines_at area₀ words₀ lines) v s) budget))
  pub kept : Kept n lines class area₀ words₀ area words body
