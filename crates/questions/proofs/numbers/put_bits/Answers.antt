-- `put_bits`: the four bytes, as pairs.
-- Assumes nothing.
use Rattle.questions.specs.Numbers.{four_bytes}
use Rattle.questions.proofs.numbers.put_bits.Goals as goal

pub returns : goal.returns
unfolding four_bytes
returns c = c.put_pairs.ensures
