-- `passes`: the title goes by an offset.
-- Assumes nothing.
use mathlib.Core.Path.{◌≡◌, refl, ap}
use mathlib.Core.List.{List, ◌++◌}
use Prim.Native.Nat.{ℕ, ◌≤◌}
use native.Mathlib.Omega.{arith}
use lib.ListN.{length, take, drop, length-drop}
use lib.Seq.{length-take-le}
use Rattle.lists.specs.Wrote.{InFront}
use Rattle.lists.proofs.SliceLaws.{part-rest}
use Rattle.lists.proofs.InPlaceLaws.{front_whole}
use Rattle.preproc_view.specs.Rows.{first_passes}
use Rattle.preproc_view.proofs.RowLaws.{whole-length, lent-room, whole_row}
use Rattle.preproc_view.proofs.passes.passes.Goals as goal
use Rattle.preproc_view.proofs.passes.passes.Goals.{After-title_len-title}

-- the title lies within
module _ (c : After-title_len-title) where
  abbrev S : List ℕ
  S = take c.args.n c.args.buf.now

  abbrev B : List ℕ
  B = c.first_passes-n4.new.buf ++ drop c.args.n c.args.buf.now

  made : InFront (first_passes S) c.first_passes-n4.result B
  made = front_whole c.first_passes-n4.ensures _ refl

  long : length B ≡ length c.args.buf.now
  long = whole-length c.args.n c.args.buf.now _ c.first_passes-n4.auto.buf

  less : c.title_len-title.result ≤ c.first_passes-n4.result
  less = omega (arith, c.title_len-title.ensures.0, length-take-le c.first_passes-n4.result B made.within)

pub last_passes-s-requires : goal.last_passes-s-requires
last_passes-s-requires c = let title_len = (goal.at.last_passes-s-requires c).After-title_len-title in
    let a = c.title_len-title.result in
    let room = lent-room (S title_len) (B title_len) c.first_passes-n4.result a (made title_len) c.title_len-title.ensures.0 (omega (arith, c.requires.2, long title_len)) in (
      c.requires.0,
      rw (part-rest a (B title_len), length-drop) (omega (arith, less title_len, (made title_len).within)),
      omega (arith, room, ap length (part-rest a (B title_len)), length-drop a (B title_len)),
    )

pub returns : goal.returns
returns c = let title_len = (goal.at.returns c).After-title_len-title in
    whole_row (S title_len) (B title_len) c.first_passes-n4.result c.title_len-title.result (made title_len) c.title_len-title.ensures.0
    _ _ c.last_passes-s.result c.title_len-title.ensures.1 c.last_passes-s.ensures
