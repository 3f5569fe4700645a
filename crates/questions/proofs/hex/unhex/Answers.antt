use mathlib.Core.Path.{◌≡◌, refl, subst}
use Prim.Native.Nat.{◌/◌}
use native.Mathlib.Omega.{arith}
use lib.ListN.{length}
use Rattle.lists.specs.Wrote.{Wrote}
use Rattle.lists.proofs.WriteLaws.{part-start, part_room, part-put, part_end}
use Rattle.questions.specs.Hex.{unhexed}
use Rattle.questions.proofs.HexLaws.{unhex_next, unhex_done, unhex_length}
use Rattle.questions.proofs.hex.unhex.Goals as goal

pub loop-i-init : goal.loop-i-init
loop-i-init c = part-start _ _ (omega (arith, unhex_length c.args.src.now))

pub bounds-dst-i : goal.bounds-dst-i
bounds-dst-i c = part_room (unhex_next c.args.src.now c.loop-i.i _ refl (omega arith)) c.loop-i.invariant

pub loop-i-preserved : goal.loop-i-preserved
loop-i-preserved c = part-put (unhex_next c.args.src.now c.loop-i.i _ c.hex_byte.ensures (omega arith)) c.loop-i.invariant

pub returns : goal.returns
returns c =
    let e : c.loop-i.i ≡ length c.args.src.now / 2 = omega arith in
    subst (λ w. Wrote (unhexed c.args.src.now) c.args.dst.now w c.loop-i.dst) e (part_end (unhex_done c.args.src.now c.loop-i.i e) c.loop-i.invariant)
