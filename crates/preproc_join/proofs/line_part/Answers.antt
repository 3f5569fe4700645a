-- `line_part`: the line, or what is left of it.
-- Assumes nothing.
use Prim.Native.Nat.{◌+◌, ◌≤◌}
use native.Mathlib.Omega.{arith}
use lib.ListN.{length}
use Rattle.preproc_join.proofs.JoinLaws.{left-plain, left-within, left-strip}
use Rattle.preproc_join.proofs.line_part.Goals as goal
use Rattle.preproc_join.proofs.line_part.Goals.{After-bare-s, After-line_end-e}

module _ (c : After-line_end-e) where
  ends : c.line_end-e.result ≤ length c.args.area.now
  ends = omega (arith, c.line_end-e.ensures, c.requires.3)

module _ (c : After-bare-s) where
  abbrev line_end_of_c : After-line_end-e
  line_end_of_c = (goal.at.After-bare-s c).After-line_end-e

  fits : (c.bare-s.result.start ≤ c.bare-s.result.end) × (c.past_prefix-k.result + c.bare-s.result.end ≤ c.line_end-e.result)
  fits =
      left-within c.args.area.now c.args.table.now c.args.i _ _ c.line_start-a.ensures
      c.line_end-e.ensures (ends line_end_of_c) c.in-Some.prefix c.args.class.now c.past_prefix-k.result c.bare-s.result c.past_prefix-k.ensures
      c.bare-s.ensures

pub overflow_add-result : goal.overflow_add-result
overflow_add-result c = omega (arith, fits (goal.at.overflow_add-result c).After-bare-s, ends (goal.at.overflow_add-result c).After-line_end-e)

pub overflow_add-result-in-Some : goal.overflow_add-result-in-Some
overflow_add-result-in-Some c = omega (arith, fits (goal.at.overflow_add-result-in-Some c).After-bare-s, ends (goal.at.overflow_add-result-in-Some c).After-line_end-e)

pub returns-in-Some : goal.returns-in-Some
returns-in-Some c = rw c.in-Some.is
    (left-strip c.args.area.now c.args.table.now c.args.i _ _ c.line_start-a.ensures
    c.line_end-e.ensures (ends (goal.at.returns-in-Some c).After-line_end-e) c.in-Some.prefix c.args.class.now c.past_prefix-k.result c.bare-s.result c.past_prefix-k.ensures
    c.bare-s.ensures c.requires.0)

pub returns-in-None : goal.returns-in-None
returns-in-None c = rw c.in-None.is
    (left-plain c.args.area.now c.args.table.now c.args.i _ _ c.line_start-a.ensures
    c.line_end-e.ensures (ends (goal.at.returns-in-None c).After-line_end-e) c.requires.2)
