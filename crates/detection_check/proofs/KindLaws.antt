-- The numbers of a record's kind: one that is no stored text's.
-- Assumes nothing.
use mathlib.Core.Path.{◌≡◌, refl}
use mathlib.Core.Bool.{false}
use Prim.Native.Nat.{ℕ, zero, suc}
use native.Mathlib.Omega.{arith}
use borrow.Author.Tests.{lt-leb}
use Rattle.detection_bodies.proofs.ByteLaws.{and_false}
use Rattle.rules.specs.Bytes.{within}

pub other_kind : (k : ℕ) → (k ≡ 2 → ⊥) → (k ≡ 3 → ⊥) → (k ≡ 4 → ⊥) → within 2 4 k ≡ false
unfolding within
other_kind zero a b c = refl
other_kind (suc zero) a b c = refl
other_kind (suc (suc zero)) a b c = absurd (a refl)
other_kind (suc (suc (suc zero))) a b c = absurd (b refl)
other_kind (suc (suc (suc (suc zero)))) a b c = absurd (c refl)
other_kind (suc (suc (suc (suc (suc k))))) a b c = simp (lt-leb (suc (suc (suc (suc (suc k))))) 4 (omega arith), and_false)
