-- `normalise`: the walk over the lines.
-- Assumes nothing.
use mathlib.Core.Path.{◌≡◌}
use Prim.Native.Nat.{◌+◌, ◌-◌}
use lib.ListN.{length}
use Rattle.slices.specs.Classes.{gap_in}
use Rattle.preproc_lines.proofs.WholeLaws.{Normalising}
use Rattle.preproc_lines.proofs.whole.normalise.Given as goal

abbrev pub invariant-loop-at : goal.invariant-loop-at
invariant-loop-at l = (l.n ≡ length l.text) × (length l.area ≡ length l.initial.area) × (length l.words ≡ length l.initial.words) × Normalising (gap_in l.class) l.text l.area l.words l.at l.to l.count

abbrev pub decreases-loop-at : goal.decreases-loop-at
decreases-loop-at l = length l.text + 1 - l.at
