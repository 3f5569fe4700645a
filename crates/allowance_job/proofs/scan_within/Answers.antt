-- `allowance_job::scan_within` meets its contract: used grows by the answer's count, which keeps it below 2^64.
-- Assumes nothing.
use Prim.Native.Nat.{◌-◌, ◌^◌}
use native.Mathlib.Omega.{arith}
use Rattle.allowance.proofs.AllowedLaws.{used_within, used_grows}
use Rattle.allowance_job.proofs.SpentLaws.{spent_done}
use Rattle.allowance_job.proofs.scan_within.Goals as goal

pub overflow_add-result : goal.overflow_add-result
overflow_add-result c = let d = c.scan_left-answer.ensures in
    let l = used_within d (2 ^ 64 - 1) (omega (arith, c.ranges.cap.fits)) (omega (arith, c.ranges.used.fits)) in
    record { fits = omega (arith, l, used_grows d, c.count_of.ensures) }

pub returns : goal.returns
returns c = spent_done c.count_of.ensures c.scan_left-answer.ensures
