use mathlib.Core.Path.{refl}
use mathlib.Core.Logic.{inl, inr}
use native.Mathlib.Omega.{arith}
use Rattle.sort_spread.proofs.PassLaws.{passing_start, passing_next}
use Rattle.sort_spread.proofs.spread_all.Goals as goal

pub returns-then-k-lt64 : goal.returns-then-k-lt64
returns-then-k-lt64 c = record { same = λ q. refl; rest = refl }

pub loop-turn-init : goal.loop-turn-init
loop-turn-init c = passing_start _ _

pub spread_by-requires : goal.spread_by-requires
spread_by-requires c = record { k_in_bounds = omega (arith, c.loop-turn.invariant.long); fact = inl (omega arith) }

pub spread_by-requires-in-loop-turn : goal.spread_by-requires-in-loop-turn
spread_by-requires-in-loop-turn c = record { k_in_bounds = omega (arith, c.loop-turn.invariant.long, c.spread_by.auto); fact = inr (omega arith) }

pub loop-turn-preserved : goal.loop-turn-preserved
loop-turn-preserved c = let there = c.spread_by.ensures in
    let back = c.spread_by-in-loop-turn.ensures in
    passing_next c.loop-turn.invariant _ _ c.spread_by.auto.p c.spread_by-in-loop-turn.auto.p (there.same, there.rest) (back.same, back.rest)

pub returns : goal.returns
returns c = record { same = c.loop-turn.invariant.same; rest = c.loop-turn.invariant.rest }
