-- The parts of a tree that is read are simple expressions, with an exception or none (`tree_form`, `leaf_form`); and such a part, as it is written, is
-- read as that part (`part-reads`).
-- Assumes nothing.
use mathlib.Core.Path.{◌≡◌, refl, ap, ◌∙◌}
use Prim.Native.Nat.{ℕ}
use mathlib.Core.Bool.{Bool, true, false}
use mathlib.Core.List.{List, [], ◌∷◌}
use native.Mathlib.Omega.{arith}
use Rattle.rules.specs.Bytes.{every, same, order}
use Rattle.expression.specs.Reading.{id_byte, is_word, part, Tree, leaf, and, or, accepted, verdict}
use Rattle.expression.specs.Writing.{spell_part}
use Rattle.expression.specs.Annex.{ExceptionId, Simple, Rank, Reads}
use Rattle.expression.proofs.PartLaws.{part-plain, part-exc}
use Rattle.expression_annex.proofs.SoundLaws.{reads-told}
use Rattle.expression_annex.proofs.CompleteLaws.{told-reads}

-- the exception: none is empty
pub record Form (w : List ℕ) (plus : Bool) (x : List ℕ) : Type 0 where
  pub simple : Simple w plus
  pub exc-bytes : every id_byte x ≡ true
  pub exc-no-word : is_word x ≡ false

abbrev pub Sound : Tree → Type 0
Sound (leaf (part w plus x)) = Form w plus x
Sound (and a b) = Sound a × Sound b
Sound (or a b) = Sound a × Sound b

reads_form : {r : Rank} {d : ℕ} {s : List ℕ} {t : Tree} → Reads r d s t → Sound t
unfolding every is_word same order
reads_form (Reads.simple h) = record { simple = h; exc-bytes = refl; exc-no-word = refl }
reads_form (Reads.with-exc a b h x) = record { simple = h; exc-bytes = x.string.bytes; exc-no-word = x.no_word }
reads_form (Reads.group h) = reads_form h
reads_form (Reads.before h) = reads_form h
reads_form (Reads.behind h) = reads_form h
reads_form (Reads.one-and h) = reads_form h
reads_form (Reads.more-and h e k b) = (reads_form h, reads_form k)
reads_form (Reads.one-or h) = reads_form h
reads_form (Reads.more-or h e k b) = (reads_form h, reads_form k)

pub tree_form : (s : List ℕ) (t : Tree) → verdict s ≡ accepted t → Sound t
tree_form s t e = reads_form (told-reads s t e)

pub leaf_form : (s w : List ℕ) (plus : Bool) (x : List ℕ) → verdict s ≡ accepted (leaf (part w plus x)) → Form w plus x
leaf_form s w plus x e = tree_form s (leaf (part w plus x)) e

pub part-reads : (w : List ℕ) (plus : Bool) (x : List ℕ) → Form w plus x → verdict (spell_part (part w plus x)) ≡ accepted (leaf (part w plus x))
part-reads w plus [] f = ap verdict (part-plain w plus) ∙ reads-told (Reads.one-or (Reads.one-and (Reads.simple f.simple)))
part-reads w plus (y ∷ ys) f =
    let x : ExceptionId (y ∷ ys) = record { string = record { bytes = f.exc-bytes; some = omega arith }; no_word = f.exc-no-word } in
    ap verdict (part-exc w plus (y ∷ ys) (omega arith)) ∙ reads-told (Reads.one-or (Reads.one-and (Reads.with-exc 0 0 f.simple x)))
