-- `two_terms`: what is left to read, after what was read, is what the whole is worth.
-- Assumes nothing.
use mathlib.Core.Path.{◌≡◌}
use Prim.Native.Nat.{◌-◌, ◌≤◌}
use lib.ListN.{length}
use Rattle.rules.specs.Bytes.{split}
use Rattle.rules.specs.Book.{two_terms}
use Rattle.detection_terms.proofs.TermLaws.{left_at}
use Rattle.detection_terms.proofs.two_terms.Given as goal

abbrev pub invariant-loop-i : goal.invariant-loop-i
invariant-loop-i l = (l.start ≤ l.i) × (l.i ≤ length l.s) × (left_at l.wide l.s l.start l.i ≡ two_terms l.wide (split 32 l.s))

abbrev pub decreases-loop-i : goal.decreases-loop-i
decreases-loop-i l = length l.s - l.i
