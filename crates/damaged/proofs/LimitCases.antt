-- The answers to the books of limit.rt, computed from the definitions: 1,024 stored texts are the most that a book may hold.
-- Assumes nothing.
use mathlib.Core.Path.{◌≡◌, refl}
use mathlib.Core.List.{List, [], ◌∷◌, ◌++◌}
use Prim.Native.Nat.{ℕ, zero, suc}
use Rattle.rules.specs.Jobs.{check}
use Rattle.rules.proofs.Opened.{opened}

-- n records of this kind, each with an empty table
texts : ℕ → ℕ → List ℕ
texts kind zero = []
texts kind (suc n) = 8 ∷ 0 ∷ 0 ∷ 0 ∷ kind ∷ 0 ∷ 0 ∷ 0 ∷ 0 ∷ 0 ∷ 0 ∷ 0 ∷ 0 ∷ 0 ∷ texts kind n

-- the licence A, its original and so many alternates
book : ℕ → List ℕ
book alternates = 1 ∷ 0 ∷ 0 ∷ 0 ∷ 1 ∷ 0 ∷ 65 ∷ texts 2 1 ++ texts 3 alternates

most : check (book 1023) ≡ record { refusal = 0; texts = 1024 }
unfolding opened book texts
most = refl

one_more : check (book 1024) ≡ record { refusal = 4; texts = 0 }
unfolding opened book texts
one_more = refl
