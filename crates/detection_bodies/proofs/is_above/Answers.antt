use mathlib.Core.Path.{◌≡◌, sym, ap, ◌∙◌}
use Prim.Native.Nat.{ℕ}
use native.Mathlib.Omega.{arith}
use lib.Dec.{ltb}
use lib.ListN.{length}
use borrow.Author.Tests.{lt-ltb, le-ltb}
use Rattle.detection_bodies.proofs.RiseLaws.{rises_short, rises_more, rises_other, rises_end}
use Rattle.detection_bodies.proofs.is_above.Goals as goal

pub returns-then-b-i : goal.returns-then-b-i
returns-then-b-i c = sym (rises_short _ _ _ c.loop-i-test.true c.if-b-i.true) ∙ c.loop-i.invariant

pub returns-then-a-i : goal.returns-then-a-i
returns-then-a-i c = sym (lt-ltb _ _ c.if-a-i.true) ∙ sym (rises_other _ _ _ c.loop-i-test.true c.if-b-i.false (λ e. omega (arith, e, c.if-a-i.true))) ∙ c.loop-i.invariant

pub returns-then-b-i-2 : goal.returns-then-b-i-2
returns-then-b-i-2 c = sym (le-ltb _ _ c.if-a-i.false) ∙ sym (rises_other _ _ _ c.loop-i-test.true c.if-b-i.false (λ e. omega (arith, e, c.if-b-i-2.true))) ∙ c.loop-i.invariant

pub loop-i-preserved : goal.loop-i-preserved
loop-i-preserved c = sym (rises_more _ _ _ c.loop-i-test.true c.if-b-i.false (omega (arith, c.if-a-i.false, c.if-b-i-2.false))) ∙ c.loop-i.invariant

pub returns : goal.returns
returns c =
    let e : c.loop-i.i ≡ length c.args.a.now = omega arith in
    ap (λ (n : ℕ). ltb n (length c.args.b.now)) (sym e) ∙ sym (rises_end _ _ _ c.loop-i-test.false) ∙ c.loop-i.invariant
