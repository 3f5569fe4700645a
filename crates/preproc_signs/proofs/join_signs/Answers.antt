use mathlib.Core.Path.{sym, subst, ◌∙◌}
use mathlib.Core.List.{List}
use Prim.Native.Nat.{ℕ}
use Rattle.lists.specs.Wrote.{InFront}
use Rattle.lists.proofs.InPlaceLaws.{over-next, over-done, over-put, over_skip, over-end}
use Rattle.preproc_signs.proofs.SignLaws.{joined-signs, join_writes, join_passes, join-end}
use Rattle.preproc_signs.proofs.join_signs.Goals as goal
use Rattle.preproc_signs.proofs.join_signs.Goals.{then-begins, else-begins}

pub loop-i-preserved : goal.loop-i-preserved
loop-i-preserved c = let h = c.loop-i.invariant in
    let e = over-next h c.loop-i-test.true in
    elim c.if-begins.branch [
      | then-begins w ↦
          rw (w.buf-is, w.w-is, w.unwrap_or.ensures)
          (over-put (join_writes _ _ c.sign_of-sign.result c.loop-i.last e c.sign_of-sign.ensures (sym c.begins.ensures ∙ w.if-begins.true)) c.loop-i-test.true h)
      | else-begins w ↦
          rw (w.buf-is, w.w-is)
          (over_skip (join_passes _ _ c.sign_of-sign.result c.loop-i.last e c.sign_of-sign.ensures (sym c.begins.ensures ∙ w.if-begins.false)) c.loop-i-test.true h)
    ]

pub returns : goal.returns
returns c = let o = over-end (join-end _ _ (over-done c.loop-i.invariant c.loop-i-test.false)) c.loop-i.invariant in
    subst (λ (l : List ℕ). InFront l c.loop-i.w c.loop-i.buf) (joined-signs c.requires c.args.buf.now) o
