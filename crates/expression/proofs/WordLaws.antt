-- Words, fronts and identifier bytes: what holds of each word holds of what is taken for a word, and of each front of what only more can follow; a
-- byte of an identifier is no other; and a text that stands at the front of another.
-- Assumes nothing.
use mathlib.Core.Path.{◌≡◌, refl, sym, ap, ap₂, ◌∙◌}
use Prim.Native.Nat.{ℕ}
use mathlib.Core.Bool.{Bool, true, false, cond, ◌||◌, false≢true}
use mathlib.Core.List.{List, [], ◌∷◌, ◌++◌}
use native.Mathlib.Omega.{arith}
use borrow.Author.Tests.{eq-eqb, ne_eqb, eqb-true}
use lib.Dec.{eqb}
use lib.ListN.{length, drop}
use Rattle.rules.specs.Bytes.{same, starts}
use Rattle.rules.proofs.BoolLaws.{and_left, and_right, and_both}
use Rattle.rules.proofs.PrefixLaws.{same_true}
use Rattle.expression.specs.Reading.{id_byte, and_word, or_word, with_word, license_ref, document_ref, is_word, bare, license, reference, document}
use Rattle.expression.specs.Reading.{kind_of}
pub use Rattle.rules.proofs.PrefixLaws.{same_self}

-- ---- bytes and texts
pub id_not : (b x : ℕ) → id_byte x ≡ false → id_byte b ≡ true → eqb b x ≡ false
id_not b x n h = ne_eqb b x (λ e. false≢true (sym n ∙ ap id_byte (sym e) ∙ h))

pub same-is : (v w : List ℕ) → same v w ≡ true → w ≡ v
same-is v w e = sym (same_true v w e)

pub starts_self : (w : List ℕ) → starts w w ≡ true
unfolding starts
starts_self [] = refl
starts_self (x ∷ w) = and_both (eqb x x) (starts w w) (eq-eqb x x refl) (starts_self w)

pub starts-cut : (w s : List ℕ) → starts w s ≡ true → s ≡ w ++ drop (length w) s
unfolding starts
starts-cut [] s e = refl
starts-cut (x ∷ w) [] e = absurd (false≢true e)
starts-cut (x ∷ w) (y ∷ s) e = ap₂ ◌∷◌ (sym (eqb-true x y (and_left (eqb x y) (starts w s) e))) (starts-cut w s (and_right (eqb x y) (starts w s) e))

-- ---- words
-- what holds of the three words holds of a word
pub word-is : (P : List ℕ → Type 0) → P and_word → P or_word → P with_word → (w : List ℕ) → is_word w ≡ true → P w
unfolding is_word
word-is P a o t w e = pick (same and_word w) refl (same or_word w) refl e where
  pick : (x : Bool) → same and_word w ≡ x → (y : Bool) → same or_word w ≡ y → (x || y || same with_word w) ≡ true → P w
  pick true f y h k = rw (same-is and_word w f) a
  pick false f true h k = rw (same-is or_word w h) o
  pick false f false h k = rw (same-is with_word w k) t

-- and what holds of the two fronts too holds of identifier bytes that only more of them can follow
pub bare-is : (P : List ℕ → Type 0) → P document_ref → P license_ref → P and_word → P or_word → P with_word → (w : List ℕ) → kind_of w ≡ bare → P w
unfolding kind_of
bare-is P d l a o t w e = pick (same document_ref w) refl (same license_ref w) refl (is_word w) refl (starts document_ref w) (starts license_ref w) e where
  pick : (x : Bool) → same document_ref w ≡ x → (y : Bool) → same license_ref w ≡ y → (z : Bool) → is_word w ≡ z → (i j : Bool)
      → cond (x || y || z) bare (cond i document (cond j reference license)) ≡ bare → P w
  pick true f y g z h i j k = rw (same-is document_ref w f) d
  pick false f true g z h i j k = rw (same-is license_ref w g) l
  pick false f false g true h i j k = word-is P a o t w h
  pick false f false g false h true j k = let z : ◌≡◌ {A = ℕ} 0 1 = cc in absurd (omega arith)
  pick false f false g false h false true k = let z : ◌≡◌ {A = ℕ} 0 1 = cc in absurd (omega arith)
  pick false f false g false h false false k = let z : ◌≡◌ {A = ℕ} 0 1 = cc in absurd (omega arith)
