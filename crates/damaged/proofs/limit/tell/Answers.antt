-- `tell`: two numbers of ten digits at most, and two bytes, have room in the line.
-- Assumes nothing.
use mathlib.Core.Path.{sym}
use mathlib.Core.List.{[], ◌∷◌}
use Prim.Native.Nat.{◌≤◌}
use native.Mathlib.Omega.{arith}
use lib.Seq.{length-take-le}
use Rattle.lists.proofs.ChainLaws.{wrote-end}
use Rattle.questions.specs.Numbers.{decimal}
use Rattle.questions.proofs.NumberLaws.{decimal-length}
use Rattle.damaged.proofs.limit.tell.Goals as goal
use Rattle.damaged.proofs.limit.tell.Goals.{After-put_byte-b, After-put_byte-n, After-put_number-a, After-put_number-e}

refusal-end : (c : After-put_number-a) → c.put_number-a.result ≤ 10
refusal-end c = omega (arith, c.put_number-a.ensures.count, decimal-length c.args.refusal (omega arith))

space-end : (c : After-put_byte-b) → c.put_byte-b.result ≤ 11
space-end c =
    let r : c.put_number-a.result ≤ 10 = omega (arith, c.put_number-a.ensures.count, decimal-length c.args.refusal (omega arith)) in
    omega (arith, r, wrote-end c.put_number-a.result (32 ∷ []) (omega arith) c.put_byte-b.ensures)

texts-end : (c : After-put_number-e) → c.put_number-e.result ≤ 21
texts-end c =
    let n : c.put_number-a.result ≤ 10 = omega (arith, c.put_number-a.ensures.count, decimal-length c.args.refusal (omega arith)) in
    let r : c.put_byte-b.result ≤ 11 = omega (arith, n, wrote-end c.put_number-a.result (32 ∷ []) (omega arith) c.put_byte-b.ensures) in
    omega (arith, r, wrote-end c.put_byte-b.result (decimal c.args.texts) (omega arith) c.put_number-e.ensures, decimal-length c.args.texts (omega arith))

line-end : (c : After-put_byte-n) → c.put_byte-n.result ≤ 22
line-end c =
    let n : c.put_number-a.result ≤ 10 = omega (arith, c.put_number-a.ensures.count, decimal-length c.args.refusal (omega arith)) in
    let s : c.put_byte-b.result ≤ 11 = omega (arith, n, wrote-end c.put_number-a.result (32 ∷ []) (omega arith) c.put_byte-b.ensures) in
    let r : c.put_number-e.result ≤ 21 =
    omega (arith, s, wrote-end c.put_byte-b.result (decimal c.args.texts) (omega arith) c.put_number-e.ensures, decimal-length c.args.texts (omega arith))
    in
    omega (arith, r, wrote-end c.put_number-e.result (10 ∷ []) (omega arith) c.put_byte-n.ensures)

pub put_number-a-requires : goal.put_number-a-requires
put_number-a-requires c = omega (arith, decimal-length c.args.refusal (omega arith))

pub put_byte-b-requires : goal.put_byte-b-requires
put_byte-b-requires c = omega (arith, refusal-end (goal.at.put_byte-b-requires c).After-put_number-a)

pub put_number-e-requires : goal.put_number-e-requires
put_number-e-requires c = omega (arith, space-end (goal.at.put_number-e-requires c).After-put_byte-b, decimal-length c.args.texts (omega arith))

pub put_byte-n-requires : goal.put_byte-n-requires
put_byte-n-requires c = omega (arith, texts-end (goal.at.put_byte-n-requires c).After-put_number-e)

pub slice_bounds-line-end : goal.slice_bounds-line-end
slice_bounds-line-end c = omega (arith, line-end (goal.at.slice_bounds-line-end c).After-put_byte-n)

pub slice_bounds-write_all-end : goal.slice_bounds-write_all-end
slice_bounds-write_all-end c = sym (length-take-le _ _ (omega (arith, line-end (goal.at.slice_bounds-write_all-end c).After-put_byte-n)))
