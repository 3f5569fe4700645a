-- What the definitions of this crate compute on small texts: which are spaced out, and what a written text is read as.
-- Assumes nothing.
use Prim.Native.Nat.{ℕ}
use Prim.Native.String.{String}
use mathlib.Core.Path.{◌≡◌, refl}
use mathlib.Core.Bool.{Bool, true, false}
use mathlib.Core.List.{List, [], ◌∷◌}
use Rattle.rules.specs.Bytes.{text, same, order, within, starts}
use Rattle.expression.specs.Reading as reading
use Rattle.expression.specs.Writing as writing
use Rattle.expression.specs.Reading.{part, Tree, leaf, and, or, Verdict, accepted, verdict}
use Rattle.expression.specs.Writing.{spell}
use Rattle.expression_spelling.specs.Flat as flattening
use Rattle.expression_spelling.specs.Flat.{flat, spaced_out}

spaced : String → Bool
spaced s = spaced_out (text s)

spaced_got : List Bool
spaced_got =
    spaced "" ∷ spaced "a" ∷ spaced "(a OR b) AND (c OR d)" ∷ spaced "(a OR b)AND (c OR d)" ∷ spaced "(a OR b) AND(c OR d)" ∷
    spaced "(a)OR b" ∷ spaced "a OR(b)" ∷ spaced "((a))" ∷ spaced "a  AND  b" ∷ []

spaced_hold : spaced_got ≡ true ∷ true ∷ true ∷ false ∷ false ∷ false ∷ false ∷ true ∷ true ∷ []
unfolding flattening.opened spaced spaced_got text
spaced_hold = refl

-- a AND (b AND (c OR (d OR e)))
one : ℕ → Tree
one x = leaf (part (x ∷ []) false [])

nested : Tree
nested = and (one 97) (and (one 98) (or (one 99) (or (one 100) (one 101))))

nested_read : verdict (text "a AND(b AND(c OR(d OR e)))") ≡ accepted nested
unfolding reading.opened one nested text same order within starts
nested_read = refl

nested_written : spell nested ≡ text "a AND b AND (c OR d OR e)"
unfolding writing.opened one nested text
nested_written = refl

nested_again : verdict (text "a AND b AND (c OR d OR e)") ≡ accepted (flat nested)
unfolding reading.opened flattening.opened one nested text same order within starts
nested_again = refl
