use mathlib.Core.Path.{refl, sym}
use native.Mathlib.Omega.{arith}
use Rattle.preproc_copyright.proofs.HitCaseLaws.{takes_as, listed_start, listed-end, listed_more, spaced-within}
use Rattle.preproc_copyright.proofs.items_len.Goals as goal

pub loop-n-init : goal.loop-n-init
loop-n-init c = listed_start _ _ c.requires.1

pub overflow_add-i : goal.overflow_add-i
overflow_add-i c = omega (arith, c.in-Some.ensures, spaced-within c.args.s.now c.loop-n.i c.loop-n.invariant.within)

pub loop-n-smaller : goal.loop-n-smaller
loop-n-smaller c = omega (arith, c.in-Some.ensures, spaced-within c.args.s.now c.loop-n.i c.loop-n.invariant.within)

pub loop-n-preserved : goal.loop-n-preserved
loop-n-preserved c = listed_more c.in-Some.ensures.0 (λ z. omega (arith, z, c.in-Some.ensures)) c.loop-n.invariant

pub returns : goal.returns
returns c = takes_as _ (listed-end (sym c.in_default.ensures) refl c.loop-n.invariant) c.some_run.ensures
