-- `wrap`: its loop is `Shifting`, up to where the bytes or the output end.
-- Assumes nothing.
use Rattle.expression_output.proofs.WrapLaws.{Shifting}
use Rattle.expression_output.proofs.wrap.Given as goal

abbrev pub invariant-loop-i : goal.invariant-loop-i
invariant-loop-i l = Shifting 40 l.initial.out l.out l.from l.end l.i l.c
