use mathlib.Core.Path.{ap}
use native.Mathlib.Omega.{arith}
use mathlib.Core.List.{List}
use Prim.Native.Nat.{ℕ}
use lib.ListN.{length, length-set}
use Rattle.lists.proofs.SliceLaws.{part_slice}
use Rattle.rules.specs.Points.{encoded}
use Rattle.points.proofs.EncodeLaws.{back_start, back_within, back_low, back_room, back_high, back_end, back_out}
use Rattle.points.proofs.encode.encode_in.Goals as goal
use Rattle.points.proofs.encode.encode_in.Goals.{Start}

pub utf8_len-requires : goal.utf8_len-requires
utf8_len-requires c = let s = (goal.at.utf8_len-requires c).Start in
    omega (arith, s.requires.2, ap (λ (l : List ℕ). length (encoded l)) (part_slice s.args.start s.args.end s.args.area.now))

pub overflow_add-r : goal.overflow_add-r
overflow_add-r c = let s = (goal.at.overflow_add-r c).Start in
    omega (arith, s.requires.2, c.utf8_len.ensures, ap (λ (l : List ℕ). length (encoded l)) (part_slice s.args.start s.args.end s.args.area.now))

pub loop-i-init : goal.loop-i-init
loop-i-init c = let s = (goal.at.loop-i-init c).Start in
    let e = ap (λ (l : List ℕ). length (encoded l)) (part_slice s.args.start s.args.end s.args.area.now) in
    back_start _ _ _ _ s.requires.0 s.requires.1 (omega (arith, c.utf8_len.ensures)) (omega (arith, s.requires.2, c.utf8_len.ensures))

pub bounds-area-w : goal.bounds-area-w
bounds-area-w c = let v = c.loop-i.invariant in
    omega (arith, v.long, v.room, back_within v)

pub loop-i-preserved-then-b-lt128 : goal.loop-i-preserved-then-b-lt128
loop-i-preserved-then-b-lt128 c = back_low c.loop-i.invariant (omega arith) c.if-b-lt128.true

pub overflow_sub-w-in-loop-i : goal.overflow_sub-w-in-loop-i
overflow_sub-w-in-loop-i c = omega (arith, back_room c.loop-i.invariant (omega arith) c.if-b-lt128.false)

pub bounds-area-w-in-loop-i : goal.bounds-area-w-in-loop-i
bounds-area-w-in-loop-i c = let v = c.loop-i.invariant in
    omega (arith, v.long, v.room, back_within v)

pub bounds-area-w-in-loop-i-2 : goal.bounds-area-w-in-loop-i-2
bounds-area-w-in-loop-i-2 c = let v = c.loop-i.invariant in
    simp length-set (omega (arith, v.long, v.room, back_within v))

pub loop-i-preserved : goal.loop-i-preserved
loop-i-preserved c = back_high c.loop-i.invariant (omega arith) c.if-b-lt128.false

pub returns-after-loop-i : goal.returns-after-loop-i
returns-after-loop-i c = back_out c.loop-i.invariant c.loop-i-test.false

pub returns-then-w-i : goal.returns-then-w-i
returns-then-w-i c = back_end c.loop-i.invariant (omega arith)
