-- The answer to a question `score START END TEXT LICENCE` under edition e: a view's score, as the rules give it.
-- Assumes nothing.
use Rattle.std.specs.Prelude.{cond, List, [], ◌∷◌, ◌++◌, ℕ, Float}
use Rattle.std.specs.Float.{binary32}
use Rattle.std.specs.Float.Ieee.{to_bits}
use Rattle.rules.specs.Bytes.{text, starts}
use Rattle.rules.specs.Lines.{lines}
use Rattle.rules.specs.Table.{Table, view_table, value_of}
use Rattle.rules.specs.Search.{view, viewed}
use Rattle.questions.specs.Hex.{hex_pairs}
use Rattle.questions.specs.Numbers.{four_bytes}
use Rattle.questions.specs.Fields.{text_of, number_of}
use Rattle.questions_fit.specs.Views.{view_fits}
use Rattle.replay_tables.specs.Told.{compiles}

-- ---- a score: its bits
unfoldable pub bits_told : Float → List ℕ
bits_told x = hex_pairs (four_bytes (to_bits binary32 x)) ++ 10 ∷ []

-- a view outside its text gets no answer, nor does a licence that compile refuses
unfoldable pub score_over : ℕ → ℕ → ℕ → List ℕ → Table → List ℕ
score_over e start end t u =
    cond (view_fits e start end t) (bits_told (value_of (view_table (viewed (lines e t) (view start end))) u).score) []

unfoldable pub score_for : ℕ → ℕ → ℕ → List ℕ → List ℕ → List ℕ
score_for e start end t licence = cond (compiles e licence) (score_over e start end t (view_table (lines e licence))) []

-- ---- the question; of a text 2,048 bytes are read, and another question gets no answer
unfoldable pub score_asked : ℕ → List ℕ → List ℕ
score_asked e q = score_for e (number_of 1 q) (number_of 2 q) (text_of 2048 3 q) (text_of 2048 4 q)

unfoldable pub answer_of : ℕ → List ℕ → List ℕ
answer_of e q = cond (starts (text "score ") q) (score_asked e q) []
