-- `score-is`: what a scoring of the view's table yields is the view's value.
-- Assumes nothing.
use mathlib.Core.Path.{◌≡◌, sym, ap, ap₂, ◌∙◌}
use mathlib.Core.List.{List}
use Prim.Native.Nat.{ℕ}
use Rattle.rules.specs.declared.View.{View}
use Rattle.rules.specs.declared.Value.{Value}
use Rattle.rules.specs.Table.{Table, view_table, value_of}
use Rattle.rules.specs.Search.{Stored, viewed, scored, score_view}
use Rattle.detection_shelf.specs.Bodies.{table_of_body}

pub score-is : (ls laid : List (List ℕ)) (v : View) (s : Stored) (t : Table) (body : List ℕ) (x : Value) → laid ≡ ls → t ≡ view_table (viewed laid v) →
    s.table ≡ table_of_body body → x ≡ value_of t (table_of_body body) → x ≡ (score_view ls s v).value
unfolding score_view scored
score-is ls laid v s t body x a b c d =
    d ∙ ap₂ (λ (f g : Table). value_of f g) (b ∙ ap (λ (l : List (List ℕ)). view_table (viewed l v)) a) (sym c)
