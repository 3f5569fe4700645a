use mathlib.Core.Path.{sym, ◌∙◌}
use Rattle.lists.proofs.InPlaceLaws.{over-next, over-done, over-put, over_skip, over-end}
use Rattle.preproc_runs.proofs.PassLaws.{keep-yes, keep-no, keep-end}
use Rattle.preproc_runs.proofs.keep_in.Goals as goal
use Rattle.preproc_runs.proofs.keep_in.Goals.{then-in_class, else-in_class}

pub loop-i-preserved : goal.loop-i-preserved
loop-i-preserved c = let h = c.loop-i.invariant in
    let e = over-next h c.loop-i-test.true in
    elim c.if-in_class.branch [
      | then-in_class w ↦ rw (w.buf-is, w.w-is) (over-put (keep-yes _ _ e (sym c.in_class.ensures ∙ w.if-in_class.true)) c.loop-i-test.true h)
      | else-in_class w ↦ rw (w.buf-is, w.w-is) (over_skip (keep-no _ _ e (sym c.in_class.ensures ∙ w.if-in_class.false)) c.loop-i-test.true h)
    ]

pub returns : goal.returns
returns c = over-end (keep-end _ (over-done c.loop-i.invariant c.loop-i-test.false)) c.loop-i.invariant
