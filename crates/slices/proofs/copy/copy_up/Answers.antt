use mathlib.Core.Path.{◌≡◌, refl, ◌∙◌, ap}
use Prim.Native.Nat.{ℕ}
use native.Mathlib.Omega.{arith}
use borrow.Author.Rules.{rules}
use lib.ListN.{drop}
use lib.Seq.{paste}
use Rattle.slices.proofs.PasteLaws.{moved_start, moved_more}
use Rattle.slices.proofs.copy.copy_up.Goals as goal

pub loop-i-init : goal.loop-i-init
loop-i-init g c = moved_start _ _ _

pub loop-i-preserved : goal.loop-i-preserved
loop-i-preserved g c = moved_more c.requires.0 c.requires.1 c.loop-i-test.true c.loop-i.invariant _ (search rules)

pub returns : goal.returns
returns g c = let a = c.args.area.now in
    let e : c.loop-i.i ≡ c.args.k = omega (arith, c.loop-i.auto.i-end, c.loop-i-test.false) in
    (refl, c.loop-i.invariant.now ∙ ap (λ (n : ℕ). paste a c.args.to (drop c.args.from a) n) e)
