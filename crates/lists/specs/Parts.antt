-- The part of a list that a slice lends.
-- Assumes nothing.
use Rattle.std.specs.Prelude.{List, ℕ, ◌-◌, take, drop}

-- l[from..to]
abbrev pub part : List ℕ → ℕ → ℕ → List ℕ
part l from to = take (to - from) (drop from l)
