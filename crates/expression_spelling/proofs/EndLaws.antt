-- The first and the last byte of a text that is read: those of its outer operands, for it is not empty (`some`). A part's first is no blank and no
-- parenthesis (`part-first`, `exc-first`).
-- Assumes nothing.
use mathlib.Core.Path.{◌≡◌, refl, sym, ap, ◌∙◌}
use Prim.Native.Nat.{ℕ, suc, ◌<◌}
use native.Mathlib.Omega.{arith}
use mathlib.Core.Bool.{Bool, true, false, cond, false≢true}
use mathlib.Core.List.{List, [], ◌∷◌, ◌++◌}
use lib.ListN.{length, length-append}
use Rattle.rules.specs.Bytes.{every, within}
use Rattle.expression.specs.Reading.{Tree, id_byte, and_word, or_word, with_word}
use Rattle.expression.specs.Annex.{LicenseRef, Simple, Begins, Rank, Reads, plussed, blanks, excepted}
use Rattle.expression.proofs.EveryLaws.{every_cons}
use Rattle.expression.proofs.PartLaws.{last_of, last-append, Strange}

-- a test has one answer
pub clash : {t : Bool} → t ≡ true → t ≡ false → ⊥
clash h k = false≢true (sym k ∙ h)

unfoldable pub first : (ℕ → Bool) → List ℕ → Bool
first p [] = false
first p (x ∷ xs) = p x

abbrev pub last : (ℕ → Bool) → List ℕ → Bool
last p s = p (last_of 0 s)

pub first_of : (p : ℕ → Bool) (s u : List ℕ) → 0 < length s → first p (s ++ u) ≡ first p s
unfolding first
first_of p [] u l = absurd (omega arith)
first_of p (x ∷ xs) u l = refl

pub last-of : (p : ℕ → Bool) (s u : List ℕ) → 0 < length u → last p (s ++ u) ≡ last p u
last-of p s [] l = absurd (omega arith)
last-of p s (x ∷ u) l = ap p (last-append 0 s (x ∷ u))

-- ---- a text that is read is not empty
pub longer : (s u : List ℕ) → 0 < length u → 0 < length (s ++ u)
longer s u l = rw (length-append s u) (omega arith)

pub simple-some : {w : List ℕ} {plus : Bool} → Simple w plus → 0 < length w
simple-some (Simple.id h) = h.string.some
simple-some (Simple.later h) = h.string.some
simple-some (Simple.ref (LicenseRef.here h)) = omega arith
simple-some (Simple.ref (LicenseRef.there h k)) = omega arith

shorter : (s u : List ℕ) → 0 < length s → 0 < length (s ++ u)
shorter s u l = rw (length-append s u) (omega arith)

pub some : {r : Rank} {d : ℕ} {s : List ℕ} {t : Tree} → Reads r d s t → 0 < length s
unfolding plussed excepted
some (Reads.simple {w = w} {plus = plus} h) = shorter w (cond plus (43 ∷ []) []) (simple-some h)
some (Reads.with-exc {w = w} {x = x} {plus = plus} a b h k) =
    shorter (plussed w plus) (blanks (suc a) ++ (with_word ++ (blanks (suc b) ++ x))) (shorter w (cond plus (43 ∷ []) []) (simple-some h))
some (Reads.group h) = omega arith
some (Reads.before h) = omega arith
some (Reads.behind {s = s} h) = shorter s (32 ∷ []) (some h)
some (Reads.one-and h) = some h
some (Reads.more-and {s = s} {u = u} h e k b) = shorter s (and_word ++ u) (some h)
some (Reads.one-or h) = some h
some (Reads.more-or {s = s} {u = u} h e k b) = shorter s (or_word ++ u) (some h)

-- ---- the first byte is an identifier's
string-first : (p : ℕ → Bool) → Strange p → (w : List ℕ) → every id_byte w ≡ true → 0 < length w → first p w ≡ false
unfolding first every
string-first p n [] e l = absurd (omega arith)
string-first p n (x ∷ xs) e l = n.no-id x (every_cons id_byte x xs e).0

pub plussed-some : {w : List ℕ} {plus : Bool} → Simple w plus → 0 < length (plussed w plus)
unfolding plussed
plussed-some {w = w} {plus = plus} h = shorter w (cond plus (43 ∷ []) []) (simple-some h)

module _ (p : ℕ → Bool) (n : Strange p) where
  simple-first : {w : List ℕ} {plus : Bool} → Simple w plus → first p w ≡ false
  unfolding first id_byte within
  simple-first (Simple.id {w = w} h) = string-first p n w h.string.bytes h.string.some
  simple-first (Simple.later {w = w} h) = string-first p n w h.string.bytes h.string.some
  simple-first (Simple.ref (LicenseRef.here h)) = n.no-id 76 refl
  simple-first (Simple.ref (LicenseRef.there h k)) = n.no-id 68 refl

  -- a simple expression's
  pub part-first : {w : List ℕ} {plus : Bool} → Simple w plus → first p (plussed w plus) ≡ false
  unfolding plussed
  part-first {w = w} {plus = plus} h = first_of p w (cond plus (43 ∷ []) []) (simple-some h) ∙ simple-first h

  -- and with an exception
  pub exc-first : {w : List ℕ} {plus : Bool} (a b : ℕ) (x : List ℕ) → Simple w plus → first p (excepted w plus a b x) ≡ false
  unfolding excepted
  exc-first {w = w} {plus = plus} a b x h =
      first_of p (plussed w plus) (blanks (suc a) ++ (with_word ++ (blanks (suc b) ++ x))) (plussed-some h) ∙ part-first h

-- ---- at an operator
pub begins_first : (p : ℕ → Bool) → p 32 ≡ true → p 40 ≡ true → {s : List ℕ} → Begins s → first p s ≡ true
unfolding first
begins_first p b c (Begins.blank s) = b
begins_first p b c (Begins.paren s) = c
