-- A part of a text put over an output, as far as it reaches; and the exception of a part, which is written only if it has bytes.
-- Assumes nothing.
use mathlib.Core.Path.{◌≡◌, refl, ◌∙◌}
use Prim.Native.Nat.{ℕ, ◌+◌, ◌-◌, ◌≤◌, ◌<◌, min}
use mathlib.Core.List.{List, [], ◌∷◌, ◌++◌}
use native.Mathlib.Omega.{arith}
use lib.ListN.{length, take, drop, length-drop}
use lib.Seq.{paste, take-take, length-take-le}
use Rattle.expression.specs.Writing.{spell_exc}
use Rattle.expression_output.specs.Output.{overlay, capped, Put}
use Rattle.expression_output.proofs.OutputLaws.{overlay-take, overlay_paste}

-- ---- as many of the bytes as fit, copied
pub copied : (o k : ℕ) (bs s : List ℕ) → o < length s → k ≡ min (length bs) (length s - o) → paste s o (drop 0 bs) k ≡ overlay o bs s
copied o k bs s m e = overlay_paste o k bs s (omega arith) (omega arith) ∙ overlay-take o k bs s (omega arith)

-- ---- the exception
pub exception_none : (x : List ℕ) → length x ≡ 0 → spell_exc x ≡ []
unfolding spell_exc
exception_none [] h = refl
exception_none (b ∷ x) h = absurd (omega arith)

pub exception_some : (x : List ℕ) → 0 < length x → spell_exc x ≡ (32 ∷ 87 ∷ 73 ∷ 84 ∷ 72 ∷ 32 ∷ []) ++ x
unfolding spell_exc
exception_some [] h = absurd (omega arith)
exception_some (b ∷ x) h = refl
