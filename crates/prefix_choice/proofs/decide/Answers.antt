-- `prefix_choice::decide` meets its contract: `decided`, by the winner and the sum that the walks give.
-- Assumes nothing.
use mathlib.Core.List.{List}
use Prim.Native.Nat.{ℕ, ◌≤◌}
use native.Mathlib.Omega.{arith}
use lib.ListN.{length}
use Rattle.prefix_choice.proofs.WinnerLaws.{part-within, part_smooth, decided_none, decided_some, decided_there}
use Rattle.prefix_choice.proofs.decide.Goals as goal
use Rattle.prefix_choice.proofs.decide.Goals.{After-part_end-end}

-- what is known once the winner's bytes are
module _ (q : After-part_end-end) where
  abbrev text : List ℕ
  text = q.args.text.now

  abbrev from : ℕ
  from = q.wide-start.result

  within : (from ≤ q.part_end-end.result) × (q.part_end-end.result ≤ length text)
  within =
      let h = q.requires.by_index q.winner-w.result q.winner-w.ensures.within in
      part-within text from q.part_end-end.result q.part_end-end.ensures (omega (arith, q.wide-start.ensures))

pub reach-sum-requires : goal.reach-sum-requires
reach-sum-requires c = let part_end = (goal.at.reach-sum-requires c).After-part_end-end in
    let p = c.requires.d_nonzero in
    ((within part_end).0, (within part_end).1, part_smooth (text part_end) (from part_end) c.part_end-end.result c.part_end-end.ensures, p.1, p.2, p.3)

pub returns-then-sum-lines : goal.returns-then-sum-lines
returns-then-sum-lines c = let part_end = (goal.at.returns-then-sum-lines c).After-part_end-end in
    λ ls xs t e.
    let a = c.args in
    decided_none (text part_end) a.p.now a.k a.d ls xs t c.winner-w.result c.winner-w.ensures.within c.winner-w.ensures.most (from part_end) c.part_end-end.result
    c.reach-sum.result a.lines c.wide-start.ensures c.part_end-end.ensures c.reach-sum.ensures e c.if-sum-lines.true

pub returns : goal.returns
returns c = let part_end = (goal.at.returns c).After-part_end-end in
    λ ls xs t e.
    let a = c.args in (
      (within part_end).0,
      (within part_end).1,
      decided_some (text part_end) a.p.now a.k a.d ls xs t c.winner-w.result c.winner-w.ensures.within c.winner-w.ensures.most (from part_end) c.part_end-end.result
          c.reach-sum.result a.lines c.wide-start.ensures c.part_end-end.ensures c.reach-sum.ensures e c.if-sum-lines.false,
      decided_there (text part_end) a.p.now a.k a.d ls xs t c.winner-w.result c.winner-w.ensures.within c.winner-w.ensures.most (from part_end) c.part_end-end.result
          c.reach-sum.result a.lines c.wide-start.ensures c.part_end-end.ensures c.reach-sum.ensures e,
    )
