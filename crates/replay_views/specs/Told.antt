-- The answer to a question `view START END TEXT` under edition e: the view's processed text, as the rules give it, as UTF-8 in hex.
-- Assumes nothing.
use Rattle.std.specs.Prelude.{cond, List, [], ◌∷◌, ◌++◌, ℕ}
use Rattle.rules.specs.Bytes.{text, starts}
use Rattle.rules.specs.Points.{encoded}
use Rattle.rules.specs.Lines.{lines}
use Rattle.rules.specs.Passes.{aggressive}
use Rattle.rules.specs.Search.{view, viewed}
use Rattle.questions.specs.Hex.{hexed}
use Rattle.questions.specs.Fields.{text_of, number_of}
use Rattle.questions_fit.specs.Views.{view_fits}

unfoldable pub told : List ℕ → List ℕ
told s = hexed s ++ 10 ∷ []

-- a text that is refused gets none, nor does a view outside the text
unfoldable pub answer_to : ℕ → ℕ → ℕ → List ℕ → List ℕ
answer_to e start end t = cond (view_fits e start end t) (told (encoded (aggressive (viewed (lines e t) (view start end))))) []

-- what the words of a question ask; of a text 2,048 bytes are read
unfoldable pub answer_in : ℕ → List ℕ → List ℕ
answer_in e q = answer_to e (number_of 1 q) (number_of 2 q) (text_of 2048 3 q)

-- another question gets none
unfoldable pub answer_of : ℕ → List ℕ → List ℕ
answer_of e q = cond (starts (text "view ") q) (answer_in e q) []
