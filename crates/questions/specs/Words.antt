-- The words of a line: pieces between single spaces.
-- Assumes nothing.
use Rattle.std.specs.Prelude.{◌≡◌, not, List, ℕ, zero, suc, ◌+◌, ◌≤◌, eqb, length, take, drop}
use Rattle.std.proofs.Math.Seq.{slice}
use Rattle.rules.specs.Bytes.{lead}
use Rattle.slices.specs.declared.ends.ByteSpan.{ByteSpan}

-- how many bytes stand before the first b, or to the end
unfoldable pub up_to : ℕ → List ℕ → ℕ
up_to b s = lead (λ x. not (eqb x b)) s

-- word k; none where there are not so many
unfoldable pub word_of : ℕ → List ℕ → List ℕ
word_of zero s = take (up_to 32 s) s
word_of (suc k) s = word_of k (drop (up_to 32 s + 1) s)

-- r is where the next b stands from `at` on, or the end
pub record Marked (b : ℕ) (s : List ℕ) (at r : ℕ) : Type 0 where
  pub from : at ≤ r
  pub within : r ≤ length s
  pub place : r ≡ at + up_to b (drop at s)

-- r is where word k stands
pub record WordAt (k : ℕ) (s : List ℕ) (r : ByteSpan) : Type 0 where
  pub order : r.start ≤ r.end
  pub within : r.end ≤ length s
  pub bytes : slice r.start r.end s ≡ word_of k s
