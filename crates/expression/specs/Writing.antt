-- What a tree of an expression amounts to: how it is written, and whether a list of accepted parts satisfies it.
-- Assumes nothing.
use Rattle.std.specs.Prelude.{ℕ, ◌+◌, Bool, true, false, ◌&&◌, ◌||◌, cond, List, [], ◌∷◌, ◌++◌, map}
use Rattle.rules.specs.Bytes.{within, same, split}
use Rattle.expression.specs.Reading.{Part, part, Tree, leaf, and, or, Verdict, accepted, refused, verdict}

-- ---- writing: single spaces, parentheses only round an OR under an AND
unfoldable pub spell_exc : List ℕ → List ℕ
spell_exc [] = []
spell_exc (x ∷ xs) = 32 ∷ 87 ∷ 73 ∷ 84 ∷ 72 ∷ 32 ∷ x ∷ xs

unfoldable pub spell_part : Part → List ℕ
spell_part (part w plus x) = w ++ (cond plus (43 ∷ []) [] ++ spell_exc x)

unfoldable pub is_or : Tree → Bool
is_or (leaf p) = false
is_or (and a b) = false
is_or (or a b) = true

unfoldable pub wrap : Bool → List ℕ → List ℕ
wrap true s = 40 ∷ (s ++ 41 ∷ [])
wrap false s = s

unfoldable pub spell : Tree → List ℕ
spell (leaf p) = spell_part p
spell (and a b) = wrap (is_or a) (spell a) ++ 32 ∷ 65 ∷ 78 ∷ 68 ∷ 32 ∷ wrap (is_or b) (spell b)
spell (or a b) = spell a ++ 32 ∷ 79 ∷ 82 ∷ 32 ∷ spell b

-- a text is already as it would be written
unfoldable pub neat_as : List ℕ → Verdict → Bool
neat_as s (accepted t) = same (spell t) s
neat_as s (refused k p) = false

unfoldable pub neat : List ℕ → Bool
neat s = neat_as s (verdict s)

-- ---- satisfaction: a part is met by its equal, letter case aside
unfoldable pub lowered : ℕ → ℕ
lowered x = cond (within 65 90 x) (x + 32) x

unfoldable pub alike : List ℕ → List ℕ → Bool
alike v w = same (map lowered v) (map lowered w)

unfoldable pub agree : Bool → Bool → Bool
agree true b = b
agree false true = false
agree false false = true

unfoldable pub meets : Part → Part → Bool
meets (part v plus x) (part w more y) = alike v w && agree plus more && alike x y

-- a list has a part a line, each as it would be written; a line that is none accepts nothing
unfoldable pub met : Part → List ℕ → Verdict → Bool
met p s (accepted (leaf q)) = same (spell_part q) s && meets p q
met p s (accepted (and a b)) = false
met p s (accepted (or a b)) = false
met p s (refused k i) = false

unfoldable pub met_in : Part → List (List ℕ) → Bool
met_in p [] = false
met_in p (l ∷ ls) = let more = met_in p ls in met p l (verdict l) || more

unfoldable pub satisfied : List ℕ → Tree → Bool
satisfied list (leaf p) = met_in p (split 10 list)
satisfied list (and a b) = satisfied list a && satisfied list b
satisfied list (or a b) = satisfied list a || satisfied list b

unfoldable pub opened : Unit {0}
unfolding spell_exc spell_part is_or wrap spell neat_as neat lowered alike agree meets met met_in satisfied
opened = tt
