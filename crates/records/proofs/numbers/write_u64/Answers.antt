-- `records::numbers::write_u64` meets its contract: the library's bytes, over those at the place.
-- Assumes nothing.
use mathlib.Core.Path.{◌∙◌}
use Rattle.records.proofs.NumberLaws.{put_bytes}
use Rattle.records.proofs.numbers.write_u64.Goals as goal

pub returns : goal.returns
returns c = let a = c.args in
    put_bytes 8 a.at a.x a.s.now _ (c.copy_from_slice.ensures.after ∙ c.to_le_bytes.ensures)
