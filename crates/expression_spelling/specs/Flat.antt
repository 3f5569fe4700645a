-- The tree that a written text is read as: chains lean to the left. And the test that every AND and OR has blanks on both sides.
-- Assumes nothing.
use Rattle.std.specs.Prelude.{ℕ, Bool, true, not, ◌&&◌, ◌||◌, List, [], ◌∷◌, eqb}
use Rattle.expression.specs.Reading.{Tree, leaf, and, or}

-- ---- a chain joined to what stands before it
unfoldable pub and_chain : Tree → Tree → Tree
and_chain a (leaf p) = and a (leaf p)
and_chain a (and b c) = and (and_chain a b) c
and_chain a (or b c) = and a (or b c)

unfoldable pub or_chain : Tree → Tree → Tree
or_chain a (leaf p) = or a (leaf p)
or_chain a (and b c) = or a (and b c)
or_chain a (or b c) = or (or_chain a b) c

unfoldable pub flat : Tree → Tree
flat (leaf p) = leaf p
flat (and a b) = and_chain (flat a) (flat b)
flat (or a b) = or_chain (flat a) (flat b)

-- ---- two bytes that may stand side by side: no ) before A or O, no D or R before (
unfoldable pub apart : ℕ → ℕ → Bool
apart x y = not ((eqb x 41 && (eqb y 65 || eqb y 79)) || ((eqb x 68 || eqb x 82) && eqb y 40))

unfoldable pub spaced_out : List ℕ → Bool
spaced_out [] = true
spaced_out (x ∷ []) = true
spaced_out (x ∷ y ∷ ys) = let more = spaced_out (y ∷ ys) in apart x y && more

unfoldable pub opened : Unit {0}
unfolding and_chain or_chain flat apart spaced_out
opened = tt
