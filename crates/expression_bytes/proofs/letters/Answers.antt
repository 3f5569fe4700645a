use mathlib.Core.Path.{sym, ap, ◌∙◌}
use Rattle.expression_bytes.specs.Front.{spelt}
use Rattle.expression_bytes.proofs.FrontLaws.{spelt_start, spelt_next, spelt_stop, spelt_all}
use Rattle.expression_bytes.proofs.letters.Goals as goal

pub loop-n-init : goal.loop-n-init
loop-n-init c = spelt_start _ _

pub loop-n-preserved : goal.loop-n-preserved
loop-n-preserved c = spelt_next c.loop-n-test.true (sym c.stands.ensures ∙ c.if-not-stands.false) c.loop-n.invariant

pub returns-then-not-stands : goal.returns-then-not-stands
returns-then-not-stands c = spelt_stop c.loop-n-test.true (sym c.stands.ensures ∙ c.if-not-stands.true) c.loop-n.invariant ∙ ap (spelt c.args.word.now) c.rest-left.ensures

pub returns : goal.returns
returns c = spelt_all c.loop-n.auto.n-end c.loop-n-test.false c.loop-n.invariant ∙ ap (spelt c.args.word.now) c.rest-left.ensures
