-- `sort_spread::place_starts` meets its contract: its loop is `Placing`. The measure is how many starts are left.
-- Assumes nothing.
use Rattle.sort_spread.specs.Spread.{byte_from}
use Rattle.sort_spread.proofs.PassLaws.{Placing}
use Rattle.sort_spread.proofs.place_starts.Given as goal

abbrev pub invariant-loop-i : goal.invariant-loop-i
invariant-loop-i l = Placing (byte_from l.d l.text) l.initial.p l.p l.c l.from l.to l.k l.i
