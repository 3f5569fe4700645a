-- `detection_part::cut` meets its contract: the part that is lent.
-- Assumes nothing.
use native.Mathlib.Nat.{add-sub_cancel_left}
use mathlib.Core.Path.{ap, refl}
use Prim.Native.Nat.{ℕ}
use lib.ListN.{take, drop}
use Rattle.detection_part.proofs.cut.Goals as goal

pub returns : goal.returns
returns c = let a = c.args in
    record { bytes = ap (λ (k : ℕ). take k (drop a.start a.s.now)) (add-sub_cancel_left a.start a.len); place = refl }
