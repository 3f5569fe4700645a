use mathlib.Core.Path.{sym, ◌∙◌}
use Rattle.slices.proofs.LeadLaws.{led_start, led_more, led_stop, led_all}
use Rattle.slices.proofs.lead.lead_by.Goals as goal

pub loop-i-init : goal.loop-i-init
loop-i-init g c p h = led_start _ _ _

pub returns-then-not-passes : goal.returns-then-not-passes
returns-then-not-passes g c p h = led_stop c.loop-i-test.true (sym (h _ _ c.test-passes.ensures) ∙ c.if-not-passes.true) (c.loop-i.invariant p h)

pub loop-i-preserved : goal.loop-i-preserved
loop-i-preserved g c p h = led_more c.loop-i-test.true (sym (h _ _ c.test-passes.ensures) ∙ c.if-not-passes.false) (c.loop-i.invariant p h)

pub returns : goal.returns
returns g c p h = c.saturating_sub.ensures ∙ led_all c.loop-i-test.false (c.loop-i.invariant p h)
