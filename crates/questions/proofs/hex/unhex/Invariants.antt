-- `unhex`: what is still to come is `unhexed` of what is left.
-- Assumes nothing.
use Prim.Native.Nat.{◌*◌}
use lib.ListN.{drop}
use Rattle.lists.proofs.WriteLaws.{Part}
use Rattle.questions.specs.Hex.{unhexed}
use Rattle.questions.proofs.hex.unhex.Given as goal

abbrev pub invariant-loop-i : goal.invariant-loop-i
invariant-loop-i l = Part (unhexed l.src) (unhexed (drop (2 * l.i) l.src)) l.initial.dst l.dst l.i
