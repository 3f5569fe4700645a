use mathlib.Core.Path.{sym, ◌∙◌}
use Rattle.questions.specs.Numbers.{more_digits}
use Rattle.questions.proofs.NumberLaws.{read_next, read_done}
use Rattle.questions.proofs.numbers.number_of.Goals as goal

pub loop-b-preserved : goal.loop-b-preserved
loop-b-preserved c = rw c.more_digits-v.ensures (sym (read_next more_digits _ _ _ c.loop-b-test.true) ∙ c.loop-b.invariant)

pub returns : goal.returns
returns c = sym (read_done more_digits _ _ _ c.loop-b-test.false) ∙ c.loop-b.invariant
