use mathlib.Core.Path.{◌≡◌}
use native.Mathlib.Omega.{arith}
use Rattle.prefix_choice.proofs.ReachLaws.{leading_start, leading_new, leading_old}
use Rattle.prefix_choice.proofs.winner.Goals as goal
use Rattle.prefix_choice.proofs.winner.Goals.{then-counts_more, else-counts_more}

pub loop-i-init : goal.loop-i-init
loop-i-init c = leading_start _ _

pub counts_more-requires : goal.counts_more-requires
counts_more-requires c = let l = c.loop-i.invariant.within in
    omega arith

pub loop-i-preserved : goal.loop-i-preserved
loop-i-preserved c = elim c.if-counts_more.branch [
  | then-counts_more w ↦ rw w.best-is (leading_new c.loop-i.invariant (c.counts_more.ensures.0 w.if-counts_more.true))
  | else-counts_more w ↦ rw w.best-is (leading_old c.loop-i.invariant (c.counts_more.ensures.1 w.if-counts_more.false))
]

pub returns : goal.returns
returns c = let l = c.loop-i.invariant in
    let e : c.loop-i.i ≡ c.args.d = omega arith in
    record { within = omega (arith, l.within); most = rw e at l.most }
