-- `put_number`: what is written and what is to come are the two parts of the digits.
-- Assumes nothing.
use mathlib.Core.Path.{refl, ap}
use mathlib.Core.List.{[], ◌∷◌}
use Prim.Native.Nat.{◌+◌, ◌/◌, ◌%◌}
use native.Mathlib.Omega.{arith}
use lib.ListN.{length, length-append}
use Rattle.lists.proofs.WriteLaws.{part-from, part_room, part_end}
use Rattle.questions.specs.Numbers.{decimal}
use Rattle.questions.proofs.NumberLaws.{decimal-one, decimal-more}
use Rattle.questions.proofs.PutLaws.{part-wrote}
use Rattle.questions.proofs.numbers.+put_number.Goals as goal

pub put_byte-requires : goal.put_byte-requires
put_byte-requires t c = omega (arith, c.requires, ap length (decimal-one c.args.x c.if-x-lt10.true))

pub returns-then-x-lt10 : goal.returns-then-x-lt10
returns-then-x-lt10 t c = rw (decimal-one _ c.if-x-lt10.true) c.put_byte.ensures

pub put_number-at-requires : goal.put_number-at-requires
put_number-at-requires t c =
    let h = c.if-x-lt10.false in
    let l = length-append (decimal (c.args.x / 10)) ((48 + c.args.x % 10) ∷ []) in
    (omega (arith, c.decreases, h), omega (arith, c.requires, ap length (decimal-more c.args.x h), l))

pub put_byte-requires-2 : goal.put_byte-requires-2
put_byte-requires-2 t c =
    let p = part-from _ _ _ c.requires in
    part_room refl (part-wrote (decimal (c.args.x / 10)) (decimal-more c.args.x c.if-x-lt10.false) c.put_number-at.ensures p)

pub returns : goal.returns
returns t c =
    let p = part-from _ _ _ c.requires in
    let q = part-wrote (decimal (c.args.x / 10)) (decimal-more c.args.x c.if-x-lt10.false) c.put_number-at.ensures p in
    part_end refl (part-wrote ((48 + c.args.x % 10) ∷ []) refl c.put_byte-2.ensures q)
