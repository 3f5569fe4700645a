-- `encode_in`: `Back`, from the end backwards.
-- Assumes nothing.
use Rattle.points.proofs.EncodeLaws.{Back}
use Rattle.points.proofs.encode.encode_in.Given as goal

abbrev pub invariant-loop-i : goal.invariant-loop-i
invariant-loop-i l = Back l.start l.end l.r l.initial.area l.area l.i l.w
