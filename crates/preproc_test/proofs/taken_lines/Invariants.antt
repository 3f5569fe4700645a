-- `taken_lines`: the lines counted, and those of what is left, are one more than those of the text; and what is left is taken as the whole is.
-- Assumes nothing.
use mathlib.Core.Path.{◌≡◌}
use Prim.Native.Nat.{◌+◌, ◌≤◌}
use lib.ListN.{length}
use Rattle.rules.specs.Bytes.{split}
use Rattle.rules.specs.Points.{taken}
use Rattle.preproc_test.proofs.taken_lines.Given as goal

abbrev pub invariant-loop-b : goal.invariant-loop-b
invariant-loop-b l =
    (l.lines + length l.bytes.rest.now ≤ length l.text + 1) ×
    (l.lines + length (split 10 l.bytes.rest.now) ≡ length (split 10 l.text) + 1) ×
    (taken l.wide l.bytes.rest.now ≡ taken l.wide l.text)
