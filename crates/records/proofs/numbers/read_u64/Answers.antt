-- `records::numbers::read_u64` meets its contract: the bytes at the place, each by its worth.
-- Assumes nothing.
use Rattle.records.proofs.NumberLaws.{number_eight}
use native.Mathlib.Omega.{arith}
use Rattle.records.proofs.numbers.read_u64.Goals as goal

pub returns : goal.returns
returns c = let a = c.args in
    omega (arith, c.from_le_bytes.ensures, number_eight a.s.now a.at (omega arith))
