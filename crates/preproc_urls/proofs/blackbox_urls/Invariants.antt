-- `blackbox_urls`: what is still to come is `urls` of what is left. `Part`, from a region to a higher one.
-- Assumes nothing.
use mathlib.Core.Bool.{false}
use mathlib.Core.List.{◌++◌}
use Prim.Native.Nat.{◌≤◌}
use lib.ListN.{take}
use lib.Seq.{slice}
use Rattle.lists.proofs.WriteLaws.{Part}
use Rattle.rules.specs.Lines.{urls}
use Rattle.preproc_urls.proofs.blackbox_urls.Given as goal

abbrev pub invariant-loop-i : goal.invariant-loop-i
invariant-loop-i l = (l.to ≤ l.w) × Part (take l.to l.initial.area ++ urls false (take l.n l.initial.area)) (urls l.inside (slice l.i l.n l.initial.area)) l.initial.area l.area l.w
