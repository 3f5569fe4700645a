-- A run of bytes over those at a place of a longer run.
-- Assumes nothing.
use Rattle.std.specs.Prelude.{ℕ, ◌+◌, List, ◌++◌, length, take, drop}

unfoldable pub put_at : ℕ → List ℕ → List ℕ → List ℕ
put_at at new old = take at old ++ new ++ drop (at + length new) old
