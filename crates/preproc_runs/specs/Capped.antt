-- Runs of bytes of one kind cut short: aggressive pass 7 leaves one byte of each, aggressive pass 2 two.
-- Assumes nothing.
use Rattle.std.specs.Prelude.{ℕ, ◌+◌, Bool, cond, List, [], ◌∷◌, ◌++◌, ltb}

-- each run of bytes that pass p becomes as many r as it is long, `most` at most; k: bytes of the run right before
unfoldable pub capped : (ℕ → Bool) → ℕ → ℕ → ℕ → List ℕ → List ℕ
capped p r most k [] = []
capped p r most k (x ∷ xs) =
    cond (p x) (cond (ltb k most) (r ∷ []) []) (x ∷ []) ++ capped p r most (cond (p x) (k + 1) 0) xs
