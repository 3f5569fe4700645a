-- `sort_spread::count_bytes` meets its contract: its loop is `Counting`.
-- Assumes nothing.
use Rattle.sort_spread.specs.Spread.{byte_from}
use Rattle.sort_spread.proofs.CountLaws.{Counting}
use Rattle.sort_spread.proofs.count_bytes.Given as goal

abbrev pub invariant-loop-x : goal.invariant-loop-x
invariant-loop-x l = Counting (byte_from l.d l.text) l.starts l.c l.x-index
