-- `number_of`: what is left to read, after what was read.
-- Assumes nothing.
use mathlib.Core.Path.{◌≡◌}
use lib.ListN.{drop}
use Rattle.questions.specs.Numbers.{read_digits, more_digits}
use Rattle.questions.proofs.numbers.number_of.Given as goal

abbrev pub invariant-loop-b : goal.invariant-loop-b
invariant-loop-b l = read_digits more_digits l.v (drop l.b-index l.s) ≡ read_digits more_digits 0 l.s
