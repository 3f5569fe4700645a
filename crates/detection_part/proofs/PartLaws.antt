-- A part that lies in its book is handed back as it is (`part_fits`); and whether it lies there, asked without a sum (`inside_of`).
-- Assumes nothing.
use mathlib.Core.Path.{◌≡◌, refl}
use mathlib.Core.Bool.{Bool, true, false, cond}
use mathlib.Core.List.{List}
use Prim.Native.Nat.{ℕ, ◌+◌, ◌-◌, ◌≤◌}
use native.Mathlib.Omega.{arith}
use lib.ListN.{length}
use lib.Dec.{leb}
use borrow.Author.Tests.{leb-true, leb-false, le-leb, lt-leb}
use Rattle.rules.specs.declared.Named.{Named}
use Rattle.detection_part.specs.Parts.{fitting}

pub part_fits : (a b : List ℕ) (p : Named) → p.at + p.len ≤ length (cond p.second b a) → fitting a b p ≡ p
part_fits a b p h = rw (le-leb (p.at + p.len) (length (cond p.second b a)) h)

pub inside_of : (start len n : ℕ) → start ≤ n → leb len (n - start) ≡ leb (start + len) n
inside_of start len n h = at (leb (start + len) n) refl
  where
    at : (t : Bool) → leb (start + len) n ≡ t → leb len (n - start) ≡ t
    at true q = let l = leb-true (start + len) n q in le-leb len (n - start) (omega arith)
    at false q = let l = leb-false (start + len) n q in lt-leb len (n - start) (omega arith)
