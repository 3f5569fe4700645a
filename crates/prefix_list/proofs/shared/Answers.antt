-- `prefix_list::shared` meets its contract: `shared-there`.
-- Assumes nothing.
use mathlib.Core.Path.{sym}
use mathlib.Core.Bool.{Bool}
use mathlib.Core.List.{List}
use Prim.Native.Nat.{ℕ, ◌+◌, ◌-◌, ◌≤◌}
use native.Mathlib.Omega.{arith}
use lib.ListN.{length, take, drop}
use lib.Seq.{length-take-le}
use Rattle.slices.specs.Classes.{space_in}
use Rattle.slices.proofs.KindLaws.{by_table, space-table}
use Rattle.prefix_list.specs.Listing.{Shared}
use Rattle.prefix_list.proofs.ShareLaws.{shared-short, shared-end, shared-there}
use Rattle.prefix_list.proofs.shared.Goals as goal
use Rattle.prefix_list.proofs.shared.Goals.{After-bare-s, After-common_len-k}

-- what is known once the common length is
module _ (k : After-common_len-k) where
  abbrev area : List ℕ
  area = k.args.area.now

  abbrev table : List ℕ
  table = k.args.table.now

  short : k.common_len-k.result ≤ length (take (k.line_end-end.result - k.line_start-start.result) (drop k.line_start-start.result area))
  short =
      shared-short area table k.args.i k.line_start-start.result k.line_end-end.result k.line_start-next.result k.line_end-stop.result
      k.common_len-k.result k.line_start-start.ensures k.line_end-end.ensures k.line_start-next.ensures k.line_end-stop.ensures k.requires.2
      k.common_len-k.ensures

-- and once the span is
module _ (b : After-bare-s) where
  abbrev common_len_of_b : After-common_len-k
  common_len_of_b = (goal.at.After-bare-s b).After-common_len-k

  abbrev kind : ℕ → Bool
  kind = space_in b.args.class.now

  ends : (b.bare-s.result.start ≤ b.bare-s.result.end) × (b.line_start-start.result + b.bare-s.result.end ≤ b.line_end-end.result)
  ends =
      shared-end (area common_len_of_b) (table common_len_of_b) b.args.i b.line_start-start.result b.line_end-end.result b.line_start-next.result
      b.line_end-stop.result b.common_len-k.result b.line_start-start.ensures b.line_end-end.ensures b.line_start-next.ensures
      b.line_end-stop.ensures b.requires.2 b.common_len-k.ensures b.bare-s.result kind b.bare-s.ensures

  there : Shared (area common_len_of_b) (table common_len_of_b) b.args.i (record {
    start = b.line_start-start.result + b.bare-s.result.start;
    end = b.line_start-start.result + b.bare-s.result.end;
  })
  there =
      shared-there (area common_len_of_b) (table common_len_of_b) b.args.i b.line_start-start.result b.line_end-end.result b.line_start-next.result
      b.line_end-stop.result b.common_len-k.result b.line_start-start.ensures b.line_end-end.ensures b.line_start-next.ensures
      b.line_end-stop.ensures b.requires.2 b.common_len-k.ensures b.bare-s.result kind b.bare-s.ensures
      (by_table space_in b.requires.0 space-table)

pub slice_bounds-bare-end : goal.slice_bounds-bare-end
slice_bounds-bare-end c = sym (length-take-le _ _ (short (goal.at.slice_bounds-bare-end c).After-common_len-k))

pub overflow_add-result : goal.overflow_add-result
overflow_add-result c = omega (arith, ends (goal.at.overflow_add-result c).After-bare-s)

pub overflow_add-result-2 : goal.overflow_add-result-2
overflow_add-result-2 c = omega (arith, ends (goal.at.overflow_add-result-2 c).After-bare-s)

pub returns : goal.returns
returns c = there (goal.at.returns c).After-bare-s
