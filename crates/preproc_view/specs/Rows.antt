-- The passes before and behind the title, and where a result stands.
-- Assumes nothing.
use Rattle.std.specs.Prelude.{◌≡◌, true, false, ◌||◌, List, map, ℕ, ◌≤◌, length}
use Rattle.std.proofs.Math.Seq.{slice}
use Rattle.rules.specs.Bytes.{space, word, keep, runs, trim}
use Rattle.rules.specs.Passes.{vertical, lowered, without_copyright}
use Rattle.slices.specs.declared.ends.ByteSpan.{ByteSpan}

-- 2 to 4
unfoldable pub first_passes : List ℕ → List ℕ
first_passes s = map lowered (keep (λ x. word x || space x) (vertical 0 s))

-- 6 to 8
unfoldable pub last_passes : List ℕ → List ℕ
last_passes s = trim (runs space 32 false (without_copyright true true 0 s))

-- the bytes from r's start up to its end are `out`
pub record StandsAt (out d : List ℕ) (r : ByteSpan) : Type 0 where
  pub from : r.start ≤ r.end
  pub to : r.end ≤ length d
  pub bytes : slice r.start r.end d ≡ out
