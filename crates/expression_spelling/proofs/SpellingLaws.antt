-- Writing, by the verdict: what is written of an accepted text is accepted, as the flat form of its tree (`spell-reads`), is written alike again
-- (`spell_twice`), is satisfied by the same lists (`same-satisfied`), is at most a fifth longer (`spelled_short`, `spelled_fits`), and is the text
-- itself exactly if the text is spaced out and as long (`neat_spelled`, `neat-is`).
-- Assumes nothing.
use mathlib.Core.Path.{◌≡◌, ap, ◌∙◌}
use Prim.Native.Nat.{ℕ, ◌+◌, ◌*◌, ◌/◌, ◌≤◌}
use mathlib.Core.Bool.{◌&&◌}
use mathlib.Core.List.{List}
use lib.Dec.{eqb}
use lib.ListN.{length}
use Rattle.rules.specs.Bytes.{same}
use Rattle.expression.specs.Reading.{Tree, accepted, verdict}
use Rattle.expression.specs.Writing.{spell, satisfied, neat, neat_as}
use Rattle.expression_annex.proofs.SoundLaws.{reads-told, reads-one}
use Rattle.expression_annex.proofs.CompleteLaws.{told-reads}
use Rattle.expression_spelling.specs.Flat.{flat, spaced_out}
use Rattle.expression_spelling.proofs.FlatLaws.{spell-flat, spell-same}
use Rattle.expression_spelling.proofs.DerivedLaws.{spell_derived}
use Rattle.expression_spelling.proofs.ShortLaws.{spell-short, spell_fits}
use Rattle.expression_spelling.proofs.NeatLaws.{neat_derived}

pub spell-reads : (s : List ℕ) (t : Tree) → verdict s ≡ accepted t → verdict (spell t) ≡ accepted (flat t)
spell-reads s t h = reads-told (spell_derived (told-reads s t h))

-- and as nothing else
read-flat : (s : List ℕ) (t : Tree) → verdict s ≡ accepted t → (u : Tree) → verdict (spell t) ≡ accepted u → u ≡ flat t
read-flat s t h u k = reads-one (told-reads (spell t) u k) (spell_derived (told-reads s t h))

pub spell_twice : (s : List ℕ) (t : Tree) → verdict s ≡ accepted t → (u : Tree) → verdict (spell t) ≡ accepted u → spell u ≡ spell t
spell_twice s t h u k = ap spell (read-flat s t h u k) ∙ spell-flat t

pub same-satisfied : (list s : List ℕ) (t : Tree) → verdict s ≡ accepted t → (u : Tree) → verdict (spell t) ≡ accepted u
    → satisfied list u ≡ satisfied list t
same-satisfied list s t h u k = ap (satisfied list) (read-flat s t h u k) ∙ spell-same list t

pub spelled_short : (s : List ℕ) (t : Tree) → verdict s ≡ accepted t → 5 * length (spell t) ≤ 6 * length s
spelled_short s t h = spell-short (told-reads s t h)

pub spelled_fits : (s : List ℕ) (t : Tree) → verdict s ≡ accepted t → length (spell t) ≤ length s + length s / 5
spelled_fits s t h = spell_fits (told-reads s t h)

pub neat_spelled : (s : List ℕ) (t : Tree) → verdict s ≡ accepted t → same (spell t) s ≡ (spaced_out s && eqb (length (spell t)) (length s))
neat_spelled s t h = neat_derived (told-reads s t h)

pub neat-is : (s : List ℕ) (t : Tree) → verdict s ≡ accepted t → neat s ≡ (spaced_out s && eqb (length (spell t)) (length s))
unfolding neat neat_as
neat-is s t h = ap (neat_as s) h ∙ neat_spelled s t h
