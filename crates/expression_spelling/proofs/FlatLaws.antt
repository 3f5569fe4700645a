-- A tree and its flat form: satisfied by the same lists (`spell-same`), written alike (`spell-flat`), with the same parts and operators in their order
-- (`spell-order`), and both an OR or neither (`flat-or`).
-- Assumes nothing.
use mathlib.Core.Path.{◌≡◌, refl, ◌∙◌}
use Prim.Native.Nat.{ℕ}
use mathlib.Core.Bool.{true, false, ◌&&◌, ◌||◌, and_assoc, or_assoc}
use mathlib.Core.List.{List, [], ◌∷◌, ◌++◌, append_assoc}
use Rattle.expression.specs.Reading.{Part, Tree, leaf, and, or}
use Rattle.expression.specs.Writing.{satisfied, spell, wrap, is_or}
use Rattle.expression_spelling.specs.Flat.{and_chain, or_chain, flat}

-- ---- satisfied alike
module _ (list : List ℕ) where
  and_same : (a b : Tree) → satisfied list (and_chain a b) ≡ (satisfied list a && satisfied list b)
  unfolding satisfied and_chain
  and_same a (leaf p) = refl
  and_same a (and b c) = rw (and_same a b) (and_assoc (satisfied list a) (satisfied list b) (satisfied list c))
  and_same a (or b c) = refl

  or_same : (a b : Tree) → satisfied list (or_chain a b) ≡ (satisfied list a || satisfied list b)
  unfolding satisfied or_chain
  or_same a (leaf p) = refl
  or_same a (and b c) = refl
  or_same a (or b c) = rw (or_same a b) (or_assoc (satisfied list a) (satisfied list b) (satisfied list c))

  pub spell-same : (e : Tree) → satisfied list (flat e) ≡ satisfied list e
  unfolding satisfied flat
  spell-same (leaf p) = refl
  spell-same (and a b) = and_same (flat a) (flat b) ∙ rw (spell-same a, spell-same b)
  spell-same (or a b) = or_same (flat a) (flat b) ∙ rw (spell-same a, spell-same b)

-- ---- written alike
pub and-or : (a b : Tree) → is_or (and_chain a b) ≡ false
unfolding is_or and_chain
and-or a (leaf p) = refl
and-or a (and b c) = refl
and-or a (or b c) = refl

pub or-or : (a b : Tree) → is_or (or_chain a b) ≡ true
unfolding is_or or_chain
or-or a (leaf p) = refl
or-or a (and b c) = refl
or-or a (or b c) = refl

pub flat-or : (e : Tree) → is_or (flat e) ≡ is_or e
unfolding is_or flat
flat-or (leaf p) = refl
flat-or (and a b) = and-or (flat a) (flat b)
flat-or (or a b) = or-or (flat a) (flat b)

spell-and : (a b : Tree) → spell (and_chain a b) ≡ wrap (is_or a) (spell a) ++ 32 ∷ 65 ∷ 78 ∷ 68 ∷ 32 ∷ wrap (is_or b) (spell b)
unfolding spell and_chain is_or wrap
spell-and a (leaf p) = refl
spell-and a (and b c) =
    let joined : Tree → List ℕ = λ t. 32 ∷ 65 ∷ 78 ∷ 68 ∷ 32 ∷ wrap (is_or t) (spell t) in
    rw (and-or a b, spell-and a b) (append_assoc (wrap (is_or a) (spell a)) (joined b) (joined c))
spell-and a (or b c) = refl

spell-or : (a b : Tree) → spell (or_chain a b) ≡ spell a ++ 32 ∷ 79 ∷ 82 ∷ 32 ∷ spell b
unfolding spell or_chain
spell-or a (leaf p) = refl
spell-or a (and b c) = refl
spell-or a (or b c) = rw (spell-or a b) (append_assoc (spell a) (32 ∷ 79 ∷ 82 ∷ 32 ∷ spell b) (32 ∷ 79 ∷ 82 ∷ 32 ∷ spell c))

pub spell-flat : (e : Tree) → spell (flat e) ≡ spell e
unfolding spell flat
spell-flat (leaf p) = refl
spell-flat (and a b) = spell-and (flat a) (flat b) ∙ rw (flat-or a, flat-or b, spell-flat a, spell-flat b)
spell-flat (or a b) = spell-or (flat a) (flat b) ∙ rw (spell-flat a, spell-flat b)

-- ---- parts and operators, in their order
pub data Sign : Type 0 where
  one-part : Part → Sign
  an_and : Sign
  an_or : Sign

unfoldable pub signs : Tree → List Sign
signs (leaf p) = one-part p ∷ []
signs (and a b) = signs a ++ an_and ∷ signs b
signs (or a b) = signs a ++ an_or ∷ signs b

and-order : (a b : Tree) → signs (and_chain a b) ≡ signs a ++ an_and ∷ signs b
unfolding signs and_chain
and-order a (leaf p) = refl
and-order a (and b c) = rw (and-order a b) (append_assoc (signs a) (an_and ∷ signs b) (an_and ∷ signs c))
and-order a (or b c) = refl

or-order : (a b : Tree) → signs (or_chain a b) ≡ signs a ++ an_or ∷ signs b
unfolding signs or_chain
or-order a (leaf p) = refl
or-order a (and b c) = refl
or-order a (or b c) = rw (or-order a b) (append_assoc (signs a) (an_or ∷ signs b) (an_or ∷ signs c))

pub spell-order : (e : Tree) → signs (flat e) ≡ signs e
unfolding signs flat
spell-order (leaf p) = refl
spell-order (and a b) = and-order (flat a) (flat b) ∙ rw (spell-order a, spell-order b)
spell-order (or a b) = or-order (flat a) (flat b) ∙ rw (spell-order a, spell-order b)
