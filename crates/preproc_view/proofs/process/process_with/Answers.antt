-- `process_with`: joined, and then the passes.
-- Assumes nothing.
use mathlib.Core.List.{List}
use Prim.Native.Nat.{ℕ}
use native.Mathlib.Omega.{arith}
use Rattle.lists.proofs.SliceLaws.{part-rest}
use Rattle.preproc_view.proofs.WholeLaws.{ready-below, ready-room, ready-encoded, all-passes}
use Rattle.preproc_view.proofs.process.process_with.Goals as goal
use Rattle.preproc_view.proofs.process.process_with.Goals.{After-join_lines-len}

module _ (c : After-join_lines-len) where
  abbrev B : List ℕ
  B = c.join_lines-len.new.area

pub join_lines-len-requires : goal.join_lines-len-requires
join_lines-len-requires c = rw c.view_start-to.ensures (ready-below c.args.common c.requires.0 c.requires.1, ready-room c.args.common c.requires.0 c.requires.1)

pub passes-s-requires : goal.passes-s-requires
passes-s-requires c = let join_lines = (goal.at.passes-s-requires c).After-join_lines-len in (
  c.requires.0.classes,
  rw (part-rest c.view_start-to.result (B join_lines)) c.join_lines-len.ensures.there.within,
  ready-encoded c.args.common c.requires.0 c.requires.1 c.view_start-to.ensures (B join_lines) c.join_lines-len.ensures (omega arith),
)

pub returns : goal.returns
returns c = all-passes c.args.common c.requires.0 c.requires.1 c.view_start-to.ensures (B (goal.at.returns c).After-join_lines-len) _ _ c.join_lines-len.ensures (omega arith) c.passes-s.ensures
