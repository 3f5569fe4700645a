-- What a tree that is read is written as is read again, as its flat form, and needs no more room (`spell_derived`). A tree that is read is written
-- with so many parentheses open at once (`Fits`), and its chains are read one operand after the other.
-- Assumes nothing.
use mathlib.Core.Path.{◌≡◌, refl, ap, ◌∙◌}
use Prim.Native.Nat.{ℕ, suc}
use mathlib.Core.Bool.{Bool, true, false}
use mathlib.Core.List.{List, [], ◌∷◌, ◌++◌, append_assoc}
use Rattle.expression.specs.Reading.{Part, part, Tree, leaf, and, or, and_word, or_word}
use Rattle.expression.specs.Writing.{spell, spell_part, wrap, is_or}
use Rattle.expression.specs.Annex.{Simple, ExceptionId, Ends, Begins, Rank, operand, ands, ors, Reads}
use Rattle.expression.proofs.PartLaws.{part-plain, part-exc}
use Rattle.expression_annex.proofs.AnnexLaws.{front-blank, back_blank}
use Rattle.expression_spelling.specs.Flat.{and_chain, or_chain, flat}
use Rattle.expression_spelling.proofs.FlatLaws.{flat-or}

-- ---- a tree fits a room: under an AND (true), where an OR wants parentheses, or not
pub data Fits : Bool → ℕ → Tree → Type 0 where
  simple : {under : Bool} {d : ℕ} {w : List ℕ} {plus : Bool} → Simple w plus → Fits under d (leaf (part w plus []))
  with-exc : {under : Bool} {d : ℕ} {w x : List ℕ} {plus : Bool} → Simple w plus → ExceptionId x → Fits under d (leaf (part w plus x))
  both : {under : Bool} {d : ℕ} {a b : Tree} → Fits true d a → Fits true d b → Fits under d (and a b)
  either : {d : ℕ} {a b : Tree} → Fits false d a → Fits false d b → Fits false d (or a b)
  group : {d : ℕ} {a b : Tree} → Fits false d a → Fits false d b → Fits true (suc d) (or a b)

more_room : {under : Bool} {d : ℕ} {t : Tree} → Fits under d t → Fits under (suc d) t
more_room (Fits.simple h) = Fits.simple h
more_room (Fits.with-exc h x) = Fits.with-exc h x
more_room (Fits.both a b) = Fits.both (more_room a) (more_room b)
more_room (Fits.either a b) = Fits.either (more_room a) (more_room b)
more_room (Fits.group a b) = Fits.group (more_room a) (more_room b)

-- parentheses that are not wanted only make room
grouped : {d : ℕ} {t : Tree} → Fits false d t → Fits true (suc d) t
grouped (Fits.simple h) = Fits.simple h
grouped (Fits.with-exc h x) = Fits.with-exc h x
grouped (Fits.both a b) = Fits.both (more_room a) (more_room b)
grouped (Fits.either a b) = Fits.group a b

loose : {d : ℕ} {t : Tree} → Fits true d t → Fits false d t
loose (Fits.simple h) = Fits.simple h
loose (Fits.with-exc h x) = Fits.with-exc h x
loose (Fits.both a b) = Fits.both a b
loose (Fits.group a b) = Fits.either (more_room a) (more_room b)

abbrev under : Rank → Bool
under Rank.operand = true
under Rank.ands = true
under Rank.ors = false

pub reads_fits : {r : Rank} {d : ℕ} {s : List ℕ} {t : Tree} → Reads r d s t → Fits (under r) d t
reads_fits (Reads.simple h) = Fits.simple h
reads_fits (Reads.with-exc a b h x) = Fits.with-exc h x
reads_fits (Reads.group h) = grouped (reads_fits h)
reads_fits (Reads.before h) = reads_fits h
reads_fits (Reads.behind h) = reads_fits h
reads_fits (Reads.one-and h) = reads_fits h
reads_fits (Reads.more-and h e k b) = Fits.both (reads_fits h) (reads_fits k)
reads_fits (Reads.one-or h) = loose (reads_fits h)
reads_fits (Reads.more-or h e k b) = Fits.either (reads_fits h) (loose (reads_fits k))

-- ---- chains
and_chain_lem : (x y z : Tree) → and_chain x (and_chain y z) ≡ and_chain (and_chain x y) z
unfolding and_chain
and_chain_lem x y (leaf p) = refl
and_chain_lem x y (and a b) = ap (λ c. and c b) (and_chain_lem x y a)
and_chain_lem x y (or a b) = refl

or_chain_lem : (x y z : Tree) → or_chain x (or_chain y z) ≡ or_chain (or_chain x y) z
unfolding or_chain
or_chain_lem x y (leaf p) = refl
or_chain_lem x y (and a b) = refl
or_chain_lem x y (or a b) = ap (λ c. or c b) (or_chain_lem x y a)

and_one : (x a b : Tree) → and_chain x (or_chain a b) ≡ and x (or_chain a b)
unfolding and_chain or_chain
and_one x a (leaf p) = refl
and_one x a (and b c) = refl
and_one x a (or b c) = refl

or-one : (x t : Tree) → is_or t ≡ false → or_chain x t ≡ or x t
unfolding or_chain is_or
or-one x (leaf p) e = refl
or-one x (and b c) e = refl
or-one x (or b c) e = cc

-- ---- what is written, alone and behind a chain
record AndSpelled (d : ℕ) (t : Tree) : Type 0 where
  alone : Reads ands d (wrap (is_or t) (spell t)) (flat t)
  after : (s : List ℕ) (x : Tree) → Reads ands d s x → Reads ands d (s ++ 32 ∷ 65 ∷ 78 ∷ 68 ∷ 32 ∷ wrap (is_or t) (spell t)) (and_chain x (flat t))

record OrSpelled (d : ℕ) (t : Tree) : Type 0 where
  alone : Reads ors d (spell t) (flat t)
  after : (s : List ℕ) (x : Tree) → Reads ors d s x → Reads ors d (s ++ 32 ∷ 79 ∷ 82 ∷ 32 ∷ spell t) (or_chain x (flat t))

and-join : {d : ℕ} {s u : List ℕ} {x t : Tree} → Reads ands d s x → Reads operand d u t → Reads ands d (s ++ 32 ∷ 65 ∷ 78 ∷ 68 ∷ 32 ∷ u) (and x t)
and-join {s = s} {u = u} h k =
    rw (append_assoc s (32 ∷ []) (and_word ++ (32 ∷ u))) at (Reads.more-and (back_blank h) (Ends.blank s) (Reads.before k) (Begins.blank u))

or-join : {d : ℕ} {s u : List ℕ} {x t : Tree} → Reads ors d s x → Reads ands d u t → Reads ors d (s ++ 32 ∷ 79 ∷ 82 ∷ 32 ∷ u) (or x t)
or-join {s = s} {u = u} h k =
    rw (append_assoc s (32 ∷ []) (or_word ++ (32 ∷ u))) at (Reads.more-or (back_blank h) (Ends.blank s) (front-blank k) (Begins.blank u))

leaf_spelled : {d : ℕ} {p : Part} → Reads operand d (spell_part p) (leaf p) → AndSpelled d (leaf p)
unfolding spell wrap is_or flat and_chain
leaf_spelled h = record { alone = Reads.one-and h; after = λ s x k. and-join k h }

both_spelled : {d : ℕ} {a b : Tree} → AndSpelled d a → AndSpelled d b → AndSpelled d (and a b)
unfolding spell wrap is_or flat
both_spelled {d = d} {a = a} {b = b} h k = record {
  alone = k.after (wrap (is_or a) (spell a)) (flat a) h.alone;
  after = λ s x i. behind s x (k.after (s ++ joined a) (and_chain x (flat a)) (h.after s x i));
}
  where
    joined : Tree → List ℕ
    joined t = 32 ∷ 65 ∷ 78 ∷ 68 ∷ 32 ∷ wrap (is_or t) (spell t)

    behind : (s : List ℕ) (x : Tree) → Reads ands d ((s ++ joined a) ++ joined b) (and_chain (and_chain x (flat a)) (flat b))
        → Reads ands d (s ++ (joined a ++ joined b)) (and_chain x (and_chain (flat a) (flat b)))
    behind s x i = rw (and_chain_lem x (flat a) (flat b), ← (append_assoc s (joined a) (joined b))) i

either_spelled : {d : ℕ} {a b : Tree} → OrSpelled d a → OrSpelled d b → OrSpelled d (or a b)
unfolding spell flat
either_spelled {d = d} {a = a} {b = b} h k = record {
  alone = k.after (spell a) (flat a) h.alone;
  after = λ s x i. behind s x (k.after (s ++ joined a) (or_chain x (flat a)) (h.after s x i));
}
  where
    joined : Tree → List ℕ
    joined t = 32 ∷ 79 ∷ 82 ∷ 32 ∷ spell t

    behind : (s : List ℕ) (x : Tree) → Reads ors d ((s ++ joined a) ++ joined b) (or_chain (or_chain x (flat a)) (flat b))
        → Reads ors d (s ++ (joined a ++ joined b)) (or_chain x (or_chain (flat a) (flat b)))
    behind s x i = rw (or_chain_lem x (flat a) (flat b), ← (append_assoc s (joined a) (joined b))) i

group_spelled : {d : ℕ} {a b : Tree} → OrSpelled d (or a b) → AndSpelled (suc d) (or a b)
unfolding wrap is_or flat
group_spelled {a = a} {b = b} h = record {
  alone = Reads.one-and (Reads.group h.alone);
  after = λ s x i. rw (and_one x (flat a) (flat b)) (and-join i (Reads.group h.alone));
}

or_spelled : {d : ℕ} {t : Tree} → is_or t ≡ false → AndSpelled d t → OrSpelled d t
unfolding wrap
or_spelled {d = d} {t = t} e h = record {
  alone = Reads.one-or bare;
  after = λ s x i. rw (or-one x (flat t) (flat-or t ∙ e)) (or-join i bare);
}
  where
    bare : Reads ands d (spell t) (flat t)
    bare = rw e at h.alone

abbrev Spelled : Bool → ℕ → Tree → Type 0
Spelled true d t = AndSpelled d t
Spelled false d t = OrSpelled d t

either_way : (under : Bool) {d : ℕ} {t : Tree} → is_or t ≡ false → AndSpelled d t → Spelled under d t
either_way true e h = h
either_way false e h = or_spelled e h

part_spelled : {d : ℕ} {w : List ℕ} {plus : Bool} → Simple w plus → AndSpelled d (leaf (part w plus []))
part_spelled {w = w} {plus = plus} h = leaf_spelled (rw (part-plain w plus) (Reads.simple h))

exc_spelled : {d : ℕ} {w x : List ℕ} {plus : Bool} → Simple w plus → ExceptionId x → AndSpelled d (leaf (part w plus x))
exc_spelled {w = w} {x = x} {plus = plus} h k = leaf_spelled (rw (part-exc w plus x k.string.some) (Reads.with-exc 0 0 h k))

fits_spelled : {u : Bool} {d : ℕ} {t : Tree} → Fits u d t → Spelled u d t
unfolding is_or
fits_spelled (Fits.simple {under = u} h) = either_way u refl (part_spelled h)
fits_spelled (Fits.with-exc {under = u} h x) = either_way u refl (exc_spelled h x)
fits_spelled (Fits.both {under = u} a b) = either_way u refl (both_spelled (fits_spelled a) (fits_spelled b))
fits_spelled (Fits.either a b) = either_spelled (fits_spelled a) (fits_spelled b)
fits_spelled (Fits.group a b) = group_spelled (either_spelled (fits_spelled a) (fits_spelled b))

pub spell_derived : {d : ℕ} {s : List ℕ} {t : Tree} → Reads ors d s t → Reads ors d (spell t) (flat t)
spell_derived h = (fits_spelled (reads_fits h)).alone
