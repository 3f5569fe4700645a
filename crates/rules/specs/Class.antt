-- The class of a code point, for all passes: a constant table of 256 entries gives it. The numbers are chosen so that what a pass drops, keeps
-- or joins into one is a range of classes. By the code point itself are tested only 32 (the spaces before A's `copyright`, and between
-- words), the newline, `c` (C's item), and the letters of the words that are looked for; by bytes, whether a text or a word is UTF-8.
-- Assumes nothing.
use Rattle.std.specs.Prelude.{ℕ, ◌||◌, cond, leb, eqb}
use Rattle.rules.specs.Bytes.{text, within, among, newline, space, upper, lower, digit, quote, dropped}
use Rattle.rules.specs.Lines.{slip}

-- punctuation
unfoldable pub sign_of : ℕ → ℕ
sign_of x =
    cond (eqb x 95) 12  -- `_`
    (cond (quote x) 13
    (cond (eqb x 45) 14  -- `-`
    (cond (among (text "([{") x) 15
    (cond (among (text ")]}") x) 16 17))))

-- of edition e: from edition 2 on the 4 is a digit as the others
unfoldable pub class_of : ℕ → ℕ → ℕ
class_of e x =
    cond (leb 256 x) 0  -- beyond the table
    (cond (eqb x 124) 2  -- `|`, dropped
    (cond (dropped x) 1
    (cond (among (text "/\\") x) 3
    (cond (slip e x) 4  -- the digit 4, where pass 4 takes it
    (cond (among (text "\t ") x || eqb x 160) 5
    (cond (newline x) 6
    (cond (within 11 13 x) 7
    (cond (space x) 8  -- U+0085: a space, and nothing else
    (cond (digit x) 9
    (cond (lower x) 10 (cond (upper x) 11 (sign_of x))))))))))))
