use mathlib.Core.Path.{sym, ◌∙◌}
use native.Mathlib.Omega.{arith}
use Rattle.lists.proofs.InPlaceLaws.{over-next, over-done, over-put, over_skip, over-end}
use Rattle.preproc_runs.proofs.PassLaws.{cap_under, cap_over, cap_other, cap_end}
use Rattle.preproc_runs.proofs.cap_runs.Goals as goal
use Rattle.preproc_runs.proofs.cap_runs.Goals.{then-in_class+else-most-k, else-in_class}

pub loop-i-preserved-then-most-k : goal.loop-i-preserved-then-most-k
loop-i-preserved-then-most-k c = let h = c.loop-i.invariant in
    (omega arith, over_skip (cap_over _ _ _ _ _ (over-next h.1 c.loop-i-test.true) (sym c.in_class.ensures ∙ c.if-in_class.true) (omega arith)) c.loop-i-test.true h.1)

pub loop-i-preserved : goal.loop-i-preserved
loop-i-preserved c = let h = c.loop-i.invariant in
    let e = over-next h.1 c.loop-i-test.true in
    elim c.if-in_class.branch [
      | then-in_class+else-most-k w ↦
          rw (w.buf-is, w.w-is, w.k-is) (omega arith, over-put (cap_under _ _ _ _ _ e (sym c.in_class.ensures ∙ w.if-in_class.true) (omega arith)) c.loop-i-test.true h.1)
      | else-in_class w ↦
          rw (w.buf-is, w.w-is, w.k-is) (omega arith, over-put (cap_other _ _ _ _ _ e (sym c.in_class.ensures ∙ w.if-in_class.false)) c.loop-i-test.true h.1)
    ]

pub returns : goal.returns
returns c = over-end (cap_end _ _ _ _ (over-done c.loop-i.invariant.1 c.loop-i-test.false)) c.loop-i.invariant.1
