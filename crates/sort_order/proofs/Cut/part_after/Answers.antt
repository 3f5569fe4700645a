use mathlib.Core.Path.{◌≡◌, refl, sym, ap, ◌∙◌}
use borrow.Author.Tests.{le-ltb}
use mathlib.Core.Bool.{not}
use Prim.Native.Nat.{◌+◌}
use native.Mathlib.Omega.{arith}
use Rattle.sort_order.proofs.PartLaws.{none_later, ended_later, alone_later, other_later, unlike_later, alike_later, plain_later}
use Rattle.sort_order.proofs.Cut.part_after.Goals as goal
use Rattle.sort_order.proofs.Cut.part_after.Goals.{then-x-cut+else-ends_at-2, else-x-cut}

pub returns-then-ends_at : goal.returns-then-ends_at
returns-then-ends_at c =
    c.if-ends_at.true ∙ sym (other_later _ _ _ _ _ (omega arith) (sym c.if-not-ends_at.ensures) (omega arith) (sym c.if-ends_at.ensures)) ∙ c.loop-i.invariant

pub returns-else-ends_at : goal.returns-else-ends_at
returns-else-ends_at c =
    sym (unlike_later _ _ _ _ _ (omega arith) (sym c.if-not-ends_at.ensures) (omega arith) (sym c.if-ends_at.ensures) c.if-y-x.true) ∙ c.loop-i.invariant

pub returns-else-not-ends_at : goal.returns-else-not-ends_at
returns-else-not-ends_at c =
    ap not c.if-not-ends_at.false ∙ sym (ended_later _ _ _ _ _ (omega arith) (sym c.if-not-ends_at.ensures)) ∙ c.loop-i.invariant

pub returns-then-ends_at-2 : goal.returns-then-ends_at-2
returns-then-ends_at-2 c = sym (ended_later _ _ _ _ _ (omega arith) (sym c.if-ends_at-2.ensures)) ∙ c.loop-i.invariant

pub loop-i-preserved : goal.loop-i-preserved
loop-i-preserved c =
    let ahead : c.args.a + (c.loop-i.i + 1) ≡ c.args.a + c.loop-i.i + 1 = omega arith in
    let beside : c.args.b + (c.loop-i.i + 1) ≡ c.args.b + c.loop-i.i + 1 = omega arith in
    elim c.if-x-cut.branch [
      | then-x-cut+else-ends_at-2 w ↦
          rw (w.cut-is, w.past-cut.ensures, ahead, beside)
          (sym (alike_later _ _ _ _ _ (omega arith) (sym w.if-ends_at-2.ensures) (omega arith) c.if-y-x.false) ∙ c.loop-i.invariant)
      | else-x-cut w ↦
          rw (w.cut-is, ahead, beside)
          (sym (plain_later _ _ _ _ _ (omega arith) w.if-x-cut.false (omega arith) c.if-y-x.false) ∙ c.loop-i.invariant)
    ]

pub returns-then-a-both : goal.returns-then-a-both
returns-then-a-both c =
    let done : c.loop-i.i ≡ c.saturating_sub-both.result = omega arith in
    ap not (c.ends_at-then-a-both.ensures ∙ rw done refl) ∙ sym (alone_later _ _ _ _ _ (omega arith) (omega arith)) ∙ c.loop-i.invariant

pub returns-else-a-both : goal.returns-else-a-both
returns-else-a-both c = le-ltb _ _ c.if-a-both.false ∙ sym (none_later _ _ _ _ _ (omega arith)) ∙ c.loop-i.invariant
