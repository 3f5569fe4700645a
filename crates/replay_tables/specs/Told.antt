-- The answer to a question `table TEXT` under edition e: the text's table, as the rules give it.
-- Assumes nothing.
use Rattle.std.specs.Prelude.{Bool, cond, List, [], ◌∷◌, ◌++◌, ℕ, eqb}
use Rattle.rules.specs.Bytes.{text, starts}
use Rattle.rules.specs.Lines.{lines}
use Rattle.rules.specs.Prefix.{Counted}
use Rattle.rules.specs.Table.{Table, view_table}
use Rattle.rules.specs.Refusal.{refusal, of_compile}
use Rattle.questions.specs.Hex.{hexed}
use Rattle.questions.specs.Numbers.{decimal}
use Rattle.questions.specs.Fields.{text_of}

-- ---- a table: its total, then each bigram behind its count
unfoldable pub entry_told : Counted → List ℕ
entry_told e = 32 ∷ decimal e.count ++ 58 ∷ hexed e.bytes

unfoldable pub entries_told : List Counted → List ℕ
entries_told [] = []
entries_told (e ∷ es) = entry_told e ++ entries_told es

unfoldable pub table_told : Table → List ℕ
table_told t = (decimal t.total ++ entries_told t.entries) ++ 10 ∷ []

-- a text that compile refuses, with the areas of a text of 2,048 bytes and an output of 49,152, gets no answer
unfoldable pub compiles : ℕ → List ℕ → Bool
compiles e t = eqb (refusal (of_compile e t (record { bytes = 16448; words = 24640 }) 49152)) 0

unfoldable pub table_for : ℕ → List ℕ → List ℕ
table_for e t = cond (compiles e t) (table_told (view_table (lines e t))) []

-- ---- the question; of a text 2,048 bytes are read, and another question gets no answer
unfoldable pub table_asked : ℕ → List ℕ → List ℕ
table_asked e q = table_for e (text_of 2048 1 q)

unfoldable pub answer_of : ℕ → List ℕ → List ℕ
answer_of e q = cond (starts (text "table ") q) (table_asked e q) []
