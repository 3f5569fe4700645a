use mathlib.Core.Path.{◌≡◌, sym, ap, ◌∙◌}
use Prim.Native.Nat.{ℕ, ◌+◌, ◌/◌, ◌<◌}
use mathlib.Core.List.{List}
use native.Mathlib.Omega.{arith}
use lib.ListN.{length, drop, get_or}
use Rattle.lists.proofs.SliceLaws.{drop-next, drop-done}
use Rattle.rules.specs.Points.{encoded}
use Rattle.rules.proofs.PointLaws.{ascii-encoded}
use Rattle.points.proofs.EncodeLaws.{encoded-next, encoded-end}
use Rattle.points.proofs.encode.utf8_len.Goals as goal

-- the byte at i is one, and one more from 128 on
next : (s : List ℕ) (i : ℕ) → i < length s → get_or s i 0 < 256 → length (encoded (drop i s)) ≡ 1 + get_or s i 0 / 128 + length (encoded (drop (i + 1) s))
next s i h low = encoded-next _ (drop-next s i h) low

-- all below 128
pub returns-then-is_ascii : goal.returns-then-is_ascii
returns-then-is_ascii c = sym (ap length (ascii-encoded c.args.s.now (sym c.is_ascii.ensures ∙ c.if-is_ascii.true)))

pub overflow_add-n-in-loop-b : goal.overflow_add-n-in-loop-b
overflow_add-n-in-loop-b c = omega (arith, c.from.ensures, next c.args.s.now c.loop-b.b-index c.loop-b-test.true (omega (arith, c.type_inv.s c.loop-b.b-index)))

pub loop-b-preserved : goal.loop-b-preserved
loop-b-preserved c = omega (arith, c.from.ensures, next c.args.s.now c.loop-b.b-index c.loop-b-test.true (omega (arith, c.type_inv.s c.loop-b.b-index)))

pub returns : goal.returns
returns c = let l = c.loop-b in
    omega (arith, ap length (encoded-end (drop-done c.args.s.now l.b-index c.loop-b-test.false)))
