-- `questions_fit::limits::limit_of`: a pattern up to infinity's is no NaN's.
-- Assumes nothing.
use mathlib.Core.Path.{◌≡◌, ◌∙◌}
use mathlib.Core.Bool.{false, not}
use Prim.Native.Nat.{ℕ, ◌*◌, ◌%◌, ◌≤◌}
use native.Mathlib.Omega.{arith}
use lib.Dec.{T}
use lib.Ieee.{binary32, nan_bits, ones, hid, top}
use lib.Ieee.Bits.{nan_bits_above}
use borrow.Author.Tests.{le-ltb}
use Rattle.questions_fit.proofs.limits.limit_of.Goals as goal

no_nan : (n : ℕ) → n ≤ 2139095040 → T (not (nan_bits binary32 n))
no_nan n h =
    let k : n % 2147483648 ≤ 2139095040 = omega arith in
    let e : nan_bits binary32 n ≡ false = nan_bits_above binary32 n ∙ le-ltb (ones binary32 * hid binary32) (n % top binary32) k in
    rw e tt

pub float_from_bits-result : goal.float_from_bits-result
float_from_bits-result c = no_nan c.args.bits (omega arith)
