-- `number_named`: each number that is asked for is below N.
-- Assumes nothing.
use mathlib.Core.Path.{◌≡◌}
use lib.ListN.{length}
use Rattle.replay.proofs.named.number_named.Given as goal

abbrev pub invariant-loop-k : goal.invariant-loop-k
invariant-loop-k l = (length l.area ≡ length l.initial.area) × (length l.words ≡ length l.initial.words)
