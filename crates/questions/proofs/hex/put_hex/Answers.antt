-- `put_hex`: the dash, or the pairs.
-- Assumes nothing.
use mathlib.Core.Path.{ap}
use native.Mathlib.Omega.{arith}
use lib.ListN.{length}
use Rattle.questions.proofs.HexLaws.{hexed-none, hexed-some, pairs-length}
use Rattle.questions.proofs.hex.put_hex.Goals as goal

pub put_byte-requires : goal.put_byte-requires
put_byte-requires c = omega (arith, ap length (hexed-none c.args.src.now c.if-src-eq0.true))

pub returns-then-src-eq0 : goal.returns-then-src-eq0
returns-then-src-eq0 c = rw (hexed-none c.args.src.now c.if-src-eq0.true) c.put_byte.ensures

pub put_pairs-requires : goal.put_pairs-requires
put_pairs-requires c = let s = c.args.src.now in
    omega (arith, ap length (hexed-some s c.if-src-eq0.false), pairs-length s)

pub returns : goal.returns
returns c = rw (hexed-some c.args.src.now c.if-src-eq0.false) c.put_pairs.ensures
