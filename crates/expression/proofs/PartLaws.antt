-- Parts: as they are written they are the annex's, with the fewest blanks (`part-plain`, `part-exc`), and their last byte is an identifier's or +
-- (`part-last`, `exc-last`), while what stands before an operator ends in a blank or a parenthesis (`ends_last`).
-- Assumes nothing.
use mathlib.Core.Path.{◌≡◌, refl, sym, ap, ◌∙◌}
use Prim.Native.Nat.{ℕ, suc, ◌<◌}
use native.Mathlib.Omega.{arith}
use mathlib.Core.Bool.{Bool, true, false, ◌||◌, cond}
use mathlib.Core.List.{List, [], ◌∷◌, ◌++◌, append_assoc, append-nil}
use lib.ListN.{length}
use lib.Dec.{eqb}
use Rattle.rules.specs.Bytes.{every, within}
use Rattle.expression.specs.Reading.{id_byte, license_ref, with_word, part}
use Rattle.expression.specs.Writing.{spell_part, spell_exc}
use Rattle.expression.specs.Annex.{Idstring, ExceptionId, LicenseRef, Simple, Ends, plussed, blanks, excepted}
use Rattle.expression.proofs.WordLaws.{id_not}
use Rattle.expression.proofs.EveryLaws.{every_cons}

-- ---- the last byte, or z of an empty text
abbrev pub last_of : ℕ → List ℕ → ℕ
last_of z [] = z
last_of z (x ∷ xs) = last_of x xs

pub last-append : (z : ℕ) (a b : List ℕ) → last_of z (a ++ b) ≡ last_of (last_of z a) b
last-append z [] b = refl
last-append z (x ∷ a) b = last-append x a b

-- ---- bytes that no part begins or ends with
pub record Strange (p : ℕ → Bool) : Type 0 where
  pub no-id : (x : ℕ) → id_byte x ≡ true → p x ≡ false
  pub no_plus : p 43 ≡ false

-- as those that AND and OR stand behind
abbrev pub shuts : ℕ → Bool
shuts x = eqb x 32 || eqb x 41

pub shuts_strange : Strange shuts
unfolding id_byte within
shuts_strange = record { no-id = λ x e. rw (id_not x 32 refl e, id_not x 41 refl e); no_plus = refl }

module _ (p : ℕ → Bool) (n : Strange p) where
  ids_last : (z : ℕ) (w : List ℕ) → id_byte z ≡ true → every id_byte w ≡ true → p (last_of z w) ≡ false
  ids_last z [] h k = n.no-id z h
  ids_last z (x ∷ w) h k = let i = every_cons id_byte x w k in ids_last x w i.0 i.1

  string-last : (w : List ℕ) → Idstring w → (z : ℕ) → p (last_of z w) ≡ false
  string-last [] i z = absurd (omega (arith, i.some))
  string-last (x ∷ w) i z = let k = every_cons id_byte x w i.bytes in ids_last x w k.0 k.1

  ref-last : {w : List ℕ} → LicenseRef w → (z : ℕ) → p (last_of z w) ≡ false
  ref-last (LicenseRef.here {w = w} i) z = string-last w i 45
  ref-last (LicenseRef.there {v = v} {w = w} i j) z = rw (last-append 45 v (58 ∷ (license_ref ++ w))) (string-last w j 45)

  -- a simple expression's
  pub part-last : {w : List ℕ} {plus : Bool} → Simple w plus → (z : ℕ) → p (last_of z (plussed w plus)) ≡ false
  unfolding plussed
  part-last (Simple.id {w = w} h) z = rw (append-nil w) (string-last w h.string z)
  part-last (Simple.later {w = w} h) z = rw (last-append z w (43 ∷ [])) n.no_plus
  part-last (Simple.ref {w = w} h) z = rw (append-nil w) (ref-last h z)

  -- and with an exception
  pub exc-last : {x : List ℕ} (w : List ℕ) (plus : Bool) (a b : ℕ) → ExceptionId x → (z : ℕ) → p (last_of z (excepted w plus a b x)) ≡ false
  unfolding excepted
  exc-last {x = x} w plus a b k z =
      let tail = with_word ++ (blanks (suc b) ++ x) in
      let same = last-append z (plussed w plus) (blanks (suc a) ++ tail) ∙ last-append (last_of z (plussed w plus)) (blanks (suc a)) tail
      ∙ last-append 72 (blanks (suc b)) x in
      ap p same ∙ string-last x k.string (last_of 72 (blanks (suc b)))

-- ---- before an operator
pub ends_last : {s : List ℕ} → Ends s → (z : ℕ) → shuts (last_of z s) ≡ true
ends_last (Ends.blank s) z = rw (last-append z s (32 ∷ []))
ends_last (Ends.paren s) z = rw (last-append z s (41 ∷ []))

-- ---- a part as it is written
pub part-plain : (w : List ℕ) (plus : Bool) → spell_part (part w plus []) ≡ plussed w plus
unfolding spell_part spell_exc plussed
part-plain w plus = rw (append-nil {A = ℕ} (cond plus (43 ∷ []) []))

pub part-exc : (w : List ℕ) (plus : Bool) (x : List ℕ) → 0 < length x → spell_part (part w plus x) ≡ excepted w plus 0 0 x
unfolding spell_part spell_exc plussed excepted blanks
part-exc w plus [] l = absurd (omega arith)
part-exc w plus (y ∷ ys) l = sym (append_assoc w (cond plus (43 ∷ []) []) (32 ∷ 87 ∷ 73 ∷ 84 ∷ 72 ∷ 32 ∷ y ∷ ys))
