use mathlib.Core.Path.{◌≡◌, sym, ◌∙◌}
use mathlib.Core.Bool.{true}
use Prim.Native.Nat.{◌+◌, ◌-◌, ◌<◌}
use lib.ListN.{take, drop}
use Rattle.prefix_list.specs.Listing.{plain}
use native.Mathlib.Omega.{arith}
use Rattle.lists.proofs.SliceLaws.{part_slice}
use Rattle.prefix_choice.proofs.ReachLaws.{reaching_start, reaching_hit, reaching_miss, reaching_end}
use Rattle.prefix_choice.proofs.reach.Goals as goal
use Rattle.prefix_choice.proofs.reach.Goals.{After-starts_with, then-starts_with, else-starts_with}

-- what is known once the test is made
module _ (t : After-starts_with) where
  small : t.wide-count.result < 4294967296
  small = omega (arith, t.shared_slice_known-in-loop-j-2-1.given (t.args.k + t.loop-j.j), t.wide-count.ensures)

  smooth : plain (take (t.args.b - t.args.a) (drop t.args.a t.args.text.now)) ≡ true
  smooth = rw (part_slice t.args.a t.args.b t.args.text.now) t.requires.2

pub loop-j-init : goal.loop-j-init
loop-j-init c = reaching_start _ _ _ _ _

pub overflow_add-sum : goal.overflow_add-sum
overflow_add-sum c = omega (arith, small (goal.at.overflow_add-sum c).After-starts_with, c.loop-j.invariant.small, c.loop-j.invariant.within)

pub overflow_add-sum-then-starts_with : goal.overflow_add-sum-then-starts_with
overflow_add-sum-then-starts_with c = omega (arith, small (goal.at.overflow_add-sum-then-starts_with c).After-starts_with, c.loop-j.invariant.small, c.loop-j.invariant.within)

pub loop-j-preserved : goal.loop-j-preserved
loop-j-preserved c = let t = (goal.at.loop-j-preserved c).After-starts_with in
    elim c.if-starts_with.branch [
      | then-starts_with w ↦ rw w.sum-is
          (reaching_hit c.loop-j.invariant c.loop-j-test.true c.requires.3 c.requires.4 (smooth t) c.wide-start.result c.wide-count.result
          c.wide-start.ensures c.wide-count.ensures (sym c.starts_with.ensures ∙ w.if-starts_with.true) (small t))
      | else-starts_with w ↦ rw w.sum-is
          (reaching_miss c.loop-j.invariant c.loop-j-test.true c.requires.3 c.requires.4 (smooth t) c.wide-start.result c.wide-count.result
          c.wide-start.ensures c.wide-count.ensures (sym c.starts_with.ensures ∙ w.if-starts_with.false))
    ]

pub returns : goal.returns
returns c = let a = c.args in
    rw (← part_slice a.a a.b a.text.now) (reaching_end c.loop-j.invariant c.loop-j-test.false)
