-- Against the lowest floor: every score beats it (`beats-lowest`), so what is told is the real value (`judged_exact`).
-- Assumes nothing.
use mathlib.Core.Path.{◌≡◌, ap, ◌∙◌}
use mathlib.Core.Bool.{true, not}
use lib.Dec.{T}
use lib.Ieee.{Float, le}
use lib.Ieee.Fits.{and_l}
use Rattle.rules.specs.declared.Value.{Value}
use Rattle.rules.specs.Table.{nought, one}
use Rattle.rules.specs.Refusal.{unit}
use Rattle.rules.proofs.FloatOrder.{le_not}
use Rattle.floors.specs.declared.Floor.{Floor}
use Rattle.floors.specs.Floors.{beats, lowest, Judged}

pub beats-lowest : (x : Float) → T (unit x) → beats lowest x ≡ true
unfolding beats unit
beats-lowest x u = ap not (le_not nought x (and_l (le nought x) (le x one) u))

pub judged_exact : (floor : Floor) (x r : Value) → floor ≡ lowest → Judged floor x r → r ≡ x
judged_exact floor x r e j = j.real (ap (λ (f : Floor). beats f x.score) e ∙ beats-lowest x.score j.real-unit)
