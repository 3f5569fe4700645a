-- Behind the identifier of a line of a list: where its + ends, and whether the exception that the line goes on with is x, letter case aside.
-- Assumes nothing.
use Rattle.std.specs.Prelude.{ℕ, ◌+◌, Bool, true, false, List, []}
use Rattle.expression.specs.Reading.{part}
use Rattle.expression_place.specs.Line.{met_by, exc_at, rest_at}

unfoldable pub behind : ℕ → Bool → ℕ
behind n true = n + 1
behind n false = n

-- s stands behind ` WITH `
unfoldable pub exc_met : List ℕ → List ℕ → Bool
exc_met x s = met_by (part [] false x) (exc_at [] false s)

-- s stands behind the identifier and its +
unfoldable pub rest_met : List ℕ → List ℕ → Bool
rest_met x s = met_by (part [] false x) (rest_at [] false s)
