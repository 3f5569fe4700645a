use native.Mathlib.Omega.{arith}
use Rattle.rules.specs.Bytes.{newline}
use Rattle.scan_places.proofs.WalkLaws.{walk_first, walk-on, walk-there, walk_end, one-most}
use Rattle.scan_places.proofs.line_on.Goals as goal

pub loop-place-init : goal.loop-place-init
loop-place-init c = walk_first _ _ _ c.requires

pub returns-then-left-eq0 : goal.returns-then-left-eq0
returns-then-left-eq0 c = walk-there _ c.if-left-eq0.true c.loop-place.invariant

pub overflow_sub-left : goal.overflow_sub-left
overflow_sub-left c = one-most (newline _) _ _ c.if-left-eq0.false c.newlines-left.ensures

pub loop-place-preserved : goal.loop-place-preserved
loop-place-preserved c = walk-on _ _ (omega arith) (omega (arith, c.if-left-eq0.false)) c.newlines-left.ensures c.loop-place.invariant

pub returns : goal.returns
returns c = let end = walk_end _ c.loop-place-test.false c.loop-place.invariant in
    omega (arith, end, c.loop-place.invariant.within)
