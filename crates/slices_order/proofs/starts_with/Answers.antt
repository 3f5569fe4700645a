use mathlib.Core.Path.{sym, ap, ◌∙◌}
use native.Mathlib.Omega.{arith}
use Rattle.rules.specs.Bytes.{starts}
use Rattle.slices_order.proofs.OrderLaws.{starts-done, starts-short, starts_other, starts_more}
use Rattle.slices_order.proofs.starts_with.Goals as goal

pub returns-then-left-w : goal.returns-then-left-w
returns-then-left-w c = sym (starts-short _ _ c.if-left-w.true) ∙ ap (starts c.args.w.now) c.rest-left.ensures

pub loop-i-init : goal.loop-i-init
loop-i-init c = ap (starts c.args.w.now) c.rest-left.ensures

pub returns-then-w-i : goal.returns-then-w-i
returns-then-w-i c = sym (starts_other _ _ _ c.loop-i-test.true (omega (arith, c.if-left-w.false, c.loop-i-test.true)) c.if-w-i.true) ∙ c.loop-i.invariant

pub loop-i-preserved : goal.loop-i-preserved
loop-i-preserved c = sym (starts_more _ _ _ c.loop-i-test.true (omega (arith, c.if-left-w.false, c.loop-i-test.true)) c.if-w-i.false) ∙ c.loop-i.invariant

pub returns : goal.returns
returns c = sym (starts-done _ _ _ c.loop-i-test.false) ∙ c.loop-i.invariant
