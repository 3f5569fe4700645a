-- `sort_spread::spread_all` meets its contract: its loop is `SpreadPass`.
-- Assumes nothing.
use Rattle.sort_spread.proofs.PassLaws.{SpreadPass}
use Rattle.sort_spread.proofs.spread_all.Given as goal

abbrev pub invariant-loop-turn : goal.invariant-loop-turn
invariant-loop-turn l = SpreadPass l.initial.p l.p l.k
