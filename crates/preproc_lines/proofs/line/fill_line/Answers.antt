-- `fill_line`: passes 2, 3, and 4 and 5.
-- Assumes nothing.
use mathlib.Core.Bool.{not}
use mathlib.Core.List.{List}
use Prim.Native.Nat.{ℕ}
use native.Mathlib.Omega.{arith}
use Rattle.lists.specs.Wrote.{Wrote}
use Rattle.rules.specs.Bytes.{dropped, keep}
use Rattle.rules.specs.Points.{points}
use Rattle.slices.specs.Classes.{dropped_in, space_in}
use Rattle.slices.proofs.KindLaws.{by_table, dropped-table, space-table}
use Rattle.preproc_runs.proofs.PassLaws.{drops_as}
use Rattle.preproc_lines.proofs.LineLaws.{kept-short, urls-room, urls-end-low, urls-end-high, fill_done}
use Rattle.preproc_lines.proofs.line.fill_line.Goals as goal
use Rattle.preproc_lines.proofs.line.fill_line.Goals.{After-read_into-n2}

-- once pass 2 has run: what it left in the scratch front
module _ (k : After-read_into-n2) where
  abbrev source : List ℕ
  source = k.args.src.now

  abbrev to : ℕ
  to = k.args.to

  two : Wrote (keep (λ x. not (dropped x)) (points source)) k.args.area.now k.read_into-n2.result k.read_into-n2.new.dst
  two = drops_as (by_table dropped_in k.requires.0 dropped-table) (points source) k.read_into-n2.ensures

pub blackbox_urls-end-requires : goal.blackbox_urls-end-requires
blackbox_urls-end-requires c = let read_into = (goal.at.blackbox_urls-end-requires c).After-read_into-n2 in
    (by_table space_in c.requires.0 space-table, omega (arith, kept-short (source read_into) (to read_into) c.requires.1 (omega arith) (two read_into)), urls-room (source read_into) (to read_into) c.requires.1 (omega arith) (two read_into))

pub slice_bounds-join_signs-start : goal.slice_bounds-join_signs-start
slice_bounds-join_signs-start c = let read_into = (goal.at.slice_bounds-join_signs-start c).After-read_into-n2 in
    omega (
      arith,
      urls-end-low (source read_into) (to read_into) c.requires.1 (omega arith) (two read_into) c.blackbox_urls-end.ensures,
      urls-end-high (source read_into) (to read_into) c.requires.1 (omega arith) (two read_into) c.blackbox_urls-end.ensures,
    )

pub slice_bounds-join_signs-count : goal.slice_bounds-join_signs-count
slice_bounds-join_signs-count c = let read_into = (goal.at.slice_bounds-join_signs-count c).After-read_into-n2 in
    omega (
      arith,
      urls-end-low (source read_into) (to read_into) c.requires.1 (omega arith) (two read_into) c.blackbox_urls-end.ensures,
      urls-end-high (source read_into) (to read_into) c.requires.1 (omega arith) (two read_into) c.blackbox_urls-end.ensures,
    )

pub slice_bounds-join_signs-end : goal.slice_bounds-join_signs-end
slice_bounds-join_signs-end c = let read_into = (goal.at.slice_bounds-join_signs-end c).After-read_into-n2 in
    omega (
      arith,
      urls-end-low (source read_into) (to read_into) c.requires.1 (omega arith) (two read_into) c.blackbox_urls-end.ensures,
      urls-end-high (source read_into) (to read_into) c.requires.1 (omega arith) (two read_into) c.blackbox_urls-end.ensures,
    )

pub returns : goal.returns
returns c = let read_into = (goal.at.returns c).After-read_into-n2 in
    fill_done (source read_into) (to read_into) c.requires.1 (omega arith) (two read_into) c.blackbox_urls-end.ensures _ _ _ (omega arith) c.join_signs.ensures
