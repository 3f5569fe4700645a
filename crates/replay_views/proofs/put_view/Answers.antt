-- `put_view`: the processed text in hex, and the newline behind it.
-- Assumes nothing.
use mathlib.Core.List.{[], ◌∷◌}
use native.Mathlib.Omega.{arith}
use Rattle.lists.proofs.SliceLaws.{part_slice}
use Rattle.lists.proofs.ChainLaws.{front_of}
use Rattle.questions.proofs.HexLaws.{hexed-part}
use Rattle.questions.proofs.PutLaws.{front-more}
use Rattle.replay_views.specs.Told.{told}
use Rattle.replay_views.proofs.put_view.Goals as goal

pub put_hex-h-requires : goal.put_hex-h-requires
put_hex-h-requires c = omega (arith, hexed-part c.process-p.result.start c.process-p.result.end c.process-p.new.area, c.process-p.ensures.held.area_long)

pub put_byte-requires : goal.put_byte-requires
put_byte-requires c = omega (arith, hexed-part c.process-p.result.start c.process-p.result.end c.process-p.new.area, c.process-p.ensures.held.area_long, c.put_hex-h.ensures.count, c.put_hex-h.auto.dst)

pub returns : goal.returns
unfolding told
returns c = let p = c.process-p.ensures in
    let h = front_of c.put_hex-h.ensures in
    rw (← p.bytes, ← part_slice _ _ _) (front-more (10 ∷ []) h c.put_byte.ensures)
