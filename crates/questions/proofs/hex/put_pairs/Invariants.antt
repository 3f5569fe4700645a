-- `put_pairs`: what is still to come is `hex_pairs` of what is left.
-- Assumes nothing.
use mathlib.Core.List.{◌++◌}
use lib.ListN.{take, drop}
use Rattle.lists.proofs.WriteLaws.{Part}
use Rattle.questions.specs.Hex.{hex_pairs}
use Rattle.questions.proofs.hex.put_pairs.Given as goal

abbrev pub invariant-loop-b : goal.invariant-loop-b
invariant-loop-b l = Part (take l.to l.initial.dst ++ hex_pairs l.src) (hex_pairs (drop l.b-index l.src)) l.initial.dst l.dst l.w
