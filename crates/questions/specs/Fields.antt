-- What a word of a question stands for.
-- Assumes nothing.
use Rattle.std.specs.Prelude.{List, ℕ, ◌*◌, take}
use Rattle.questions.specs.Words.{word_of}
use Rattle.questions.specs.Hex.{unhexed}
use Rattle.questions.specs.Numbers.{read_digits, more_digits}

-- the text that word k is, or the first `room` bytes of it
unfoldable pub text_of : ℕ → ℕ → List ℕ → List ℕ
text_of room k q = unhexed (take (2 * room) (word_of k q))

-- the number that word k is
unfoldable pub number_of : ℕ → List ℕ → ℕ
number_of k q = read_digits more_digits 0 (word_of k q)
