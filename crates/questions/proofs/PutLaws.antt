-- A row of writes one behind the other: each takes its piece from the front of what is still to come.
-- Assumes nothing.
use mathlib.Core.Path.{◌≡◌, sym}
use mathlib.Core.List.{List, [], ◌++◌}
use Prim.Native.Nat.{ℕ}
use native.Mathlib.Omega.{arith}
use lib.ListN.{take, length-append}
use lib.Seq.{length-take-le}
use Rattle.lists.specs.Wrote.{Wrote, InFront}
use Rattle.lists.proofs.ChainLaws.{front_of}
use Rattle.lists.proofs.WriteLaws.{Part, part_puts}

pub part-wrote : (p : List ℕ) {whole rest rest' d₀ d d' : List ℕ} {w r : ℕ} → rest ≡ p ++ rest' → Wrote (take w d ++ p) d r d' → Part whole rest d₀ d w → Part whole rest' d₀ d' r
part-wrote p {d = d} {w = w} e k h =
    part_puts p e (omega (arith, k.count, length-append (take w d) p, length-take-le w d h.at)) k.bytes h

-- no answer
pub front-none : {out : List ℕ} {d : List ℕ} → out ≡ [] → InFront out 0 d
front-none e = record { within = omega arith; count = rw e; bytes = sym e }

-- a piece written behind what stands at the front
pub front-more : (p : List ℕ) {out d d' : List ℕ} {w r : ℕ} → InFront out w d → Wrote (take w d ++ p) d r d' → InFront (out ++ p) r d'
front-more p f k = rw f.bytes at (front_of k)
