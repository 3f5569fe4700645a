-- The test of a text, and its lines.
-- Assumes nothing.
use Rattle.std.specs.Prelude.{◌≡◌, ℕ, ◌≤◌, Bool, true, false, cond, List, length, Option, None, Some, Result, IfOk}
use Rattle.rules.specs.Sizes.{text_most}
use Rattle.rules.specs.Bytes.{within}
use Rattle.rules.specs.Points.{utf8, taken}
use Rattle.rules.specs.Lines.{line_count}
use Rattle.rules.specs.declared.Refusal.{Refusal}
use Rattle.rules.specs.Refusal.{refusal, of_text}
use Rattle.rules.specs.Told.{number_told}

-- the second byte of a character is given
abbrev pub ends : Option ℕ → Bool
ends None = false
ends (Some x) = within 128 191 x

-- the lines of a text that is taken: `w`, as UTF-8; else as ASCII
unfoldable pub taken_lines : Bool → List ℕ → Option ℕ
taken_lines w t = cond (taken w t) (Some (line_count t)) None

-- refusals 1 to 3 under edition e, and L where there is none
pub record AsTested (e : ℕ) (t : List ℕ) (r : Result ℕ Refusal) : Type 0 where
  pub number : number_told r ≡ refusal (of_text e t)
  pub lines : IfOk r (λ n. n ≡ line_count t)

-- all that the passes ask of a text: what an edition lets through is short enough, and UTF-8
pub record Passed (t : List ℕ) : Type 0 where
  pub short : length t ≤ text_most
  pub bytes : utf8 false t ≡ true
