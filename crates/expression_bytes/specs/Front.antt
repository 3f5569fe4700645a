-- What stands at the front of a text: a byte, a byte of an identifier, how much of a word.
-- Assumes nothing.
use Rattle.std.specs.Prelude.{ℕ, suc, ◌+◌, Bool, false, cond, List, [], ◌∷◌, eqb}
use Rattle.expression.specs.Reading.{id_byte, Tree, Level, Verdict, whole, at_ended, finish, follow, run}

unfoldable pub head_is : ℕ → List ℕ → Bool
head_is b [] = false
head_is b (x ∷ xs) = eqb x b

unfoldable pub head_id : List ℕ → Bool
head_id [] = false
head_id (x ∷ xs) = id_byte x

-- how many bytes of ws the text s begins with
unfoldable pub spelt : List ℕ → List ℕ → ℕ
spelt [] s = 0
spelt (w ∷ ws) [] = 0
spelt (w ∷ ws) (x ∷ s) = cond (eqb x w) (suc (spelt ws s)) 0

-- the verdict behind an operand t, before a blank or a parenthesis is read
unfoldable pub ending : Tree → List ℕ → Level → List Level → ℕ → Verdict
ending t [] l fs p = finish (whole l t) fs p
ending t (b ∷ bs) l fs p = follow p (λ c' l' fs'. run bs c' l' fs' (p + 1)) (at_ended t l fs b)
