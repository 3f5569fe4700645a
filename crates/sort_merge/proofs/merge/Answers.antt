use mathlib.Core.Path.{sym, ◌∙◌}
use native.Mathlib.Omega.{arith}
use Rattle.sort_spread.proofs.MergeLaws.{merging_start, merging_right, merging_left, merging_end}
use Rattle.sort_merge.proofs.merge.Goals as goal
use Rattle.sort_merge.proofs.merge.Goals.{then-takes_right, else-takes_right}

pub loop-i-init : goal.loop-i-init
loop-i-init c = merging_start _ _ _ _ (omega arith) (omega arith)

pub bounds-p-j : goal.bounds-p-j
bounds-p-j c = let j = c.takes_right.ensures.right c.if-takes_right.true in
    omega (arith, j, c.loop-i.invariant.room, c.loop-i.invariant.long)

pub loop-i-preserved : goal.loop-i-preserved
loop-i-preserved c = let e = c.takes_right.ensures in
    elim c.if-takes_right.branch [
      | then-takes_right w ↦ let b = w.if-takes_right.true in rw (w.p-is, w.i-is, w.j-is) (merging_right c.loop-i.invariant c.loop-i-test.true (e.right b) (sym e.next ∙ b))
      | else-takes_right w ↦ rw (w.p-is, w.i-is, w.j-is) (merging_left c.loop-i.invariant c.loop-i-test.true (sym e.next ∙ w.if-takes_right.false))
    ]

pub returns : goal.returns
returns c = let both = merging_end c.loop-i-test.false c.loop-i.invariant in record { front = both.0; back = both.1 }
