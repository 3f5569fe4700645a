-- `last_passes`: one pass after another, the spaces around left out, and what is left as UTF-8.
-- Assumes nothing.
use mathlib.Core.Path.{◌≡◌, refl, ap, ◌∙◌}
use mathlib.Core.Bool.{true, false}
use mathlib.Core.List.{List, ◌++◌}
use Prim.Native.Nat.{ℕ}
use native.Mathlib.Omega.{arith}
use lib.ListN.{length, take, drop}
use Rattle.lists.specs.Wrote.{InFront}
use Rattle.lists.proofs.ChainLaws.{front-next}
use Rattle.lists.proofs.InPlaceLaws.{front_whole}
use Rattle.rules.specs.Bytes.{runs}
use Rattle.rules.specs.Passes.{without_copyright}
use Rattle.rules.specs.Points.{encoded}
use Rattle.slices.specs.Classes.{space_in}
use Rattle.preproc_view.proofs.RowLaws.{whole-length, last_row, last-room, stands_spread}
use Rattle.preproc_view.proofs.passes.last_passes.Goals as goal
use Rattle.preproc_view.proofs.passes.last_passes.Goals.{After-join_runs-n7}

module _ (c : After-join_runs-n7) where
  abbrev six : List ℕ
  six = c.without_copyright-n6.new.buf ++ drop c.args.n c.args.buf.now

  abbrev seven : List ℕ
  seven = c.join_runs-n7.new.buf ++ drop c.without_copyright-n6.result six

  made : InFront (runs (space_in c.args.class.now) 32 false (without_copyright true true 0 (take c.args.n c.args.buf.now))) c.join_runs-n7.result seven
  made = front_whole (front-next (runs (space_in c.args.class.now) 32 false) (front_whole c.without_copyright-n6.ensures _ refl) c.join_runs-n7.ensures) _ refl

  long : length seven ≡ length c.args.buf.now
  long = whole-length _ six _ c.join_runs-n7.auto.buf ∙ whole-length _ c.args.buf.now _ c.without_copyright-n6.auto.buf

pub encode_in-requires : goal.encode_in-requires
encode_in-requires c = let seventh = (goal.at.encode_in-requires c).After-join_runs-n7 in
    let t = c.args.class.now in
    let s = take c.args.n c.args.buf.now in
    let st = last_row t c.requires.0 s (made seventh) c.bare-s.ensures in
    let room = last-room t c.requires.0 s (made seventh) c.bare-s.ensures in
    (st.from, st.to, omega (arith, room, c.requires.2, long seventh, ap (λ (l : List ℕ). length (encoded l)) st.bytes))

pub returns : goal.returns
returns c = let seventh = (goal.at.returns c).After-join_runs-n7 in
    stands_spread (last_row c.args.class.now c.requires.0 (take c.args.n c.args.buf.now) (made seventh) c.bare-s.ensures) c.encode_in.ensures
