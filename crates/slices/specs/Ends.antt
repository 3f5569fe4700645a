-- Where a list ends without the bytes of a kind at its end.
-- Assumes nothing.
use Rattle.std.specs.Prelude.{◌≡◌, ℕ, suc, ◌+◌, Bool, ◌&&◌, cond, List, [], ◌∷◌, eqb, drop}
use Rattle.rules.specs.Bytes.{lead}
use Rattle.slices.specs.declared.ends.ByteSpan.{ByteSpan}

-- how many bytes are left without those at the end that pass p
unfoldable pub kept_len : (ℕ → Bool) → List ℕ → ℕ
kept_len p [] = 0
kept_len p (x ∷ xs) = let n = kept_len p xs in cond (eqb n 0 && p x) 0 (suc n)

-- r is where s starts and ends without the bytes around it that pass p
pub record Bare (p : ℕ → Bool) (s : List ℕ) (r : ByteSpan) : Type 0 where
  pub start : r.start ≡ lead p s
  pub end : r.end ≡ lead p s + kept_len p (drop (lead p s) s)
