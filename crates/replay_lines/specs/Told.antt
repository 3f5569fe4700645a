-- The answer to a question `lines TEXT` under edition e: the text's lines, as the rules give them, as UTF-8 in hex.
-- Assumes nothing.
use Rattle.std.specs.Prelude.{cond, List, [], ◌∷◌, ◌++◌, ℕ, eqb}
use Rattle.rules.specs.Bytes.{text, starts}
use Rattle.rules.specs.Points.{encoded}
use Rattle.rules.specs.Lines.{lines}
use Rattle.rules.specs.Refusal.{refusal, of_text}
use Rattle.questions.specs.Hex.{hexed}
use Rattle.questions.specs.Fields.{text_of}

-- what stands behind a line: a space, and behind the last the newline
unfoldable pub mark_of : List (List ℕ) → ℕ
mark_of [] = 10
mark_of (l ∷ ls) = 32

unfoldable pub told : List (List ℕ) → List ℕ
told [] = []
told (l ∷ ls) = hexed (encoded l) ++ mark_of ls ∷ told ls

-- a text that is refused gets none
unfoldable pub answer_to : ℕ → List ℕ → List ℕ
answer_to e t = cond (eqb (refusal (of_text e t)) 0) (told (lines e t)) []

-- nor does another question; of a text 2,048 bytes are read
unfoldable pub answer_of : ℕ → List ℕ → List ℕ
answer_of e q = cond (starts (text "lines ") q) (answer_to e (text_of 2048 1 q)) []
