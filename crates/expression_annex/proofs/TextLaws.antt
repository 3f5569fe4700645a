-- Small laws of texts, which both directions need: identifier bytes, what a text begins with and ends in, and which kind of identifier a text is.
-- Assumes nothing.
use mathlib.Core.Path.{◌≡◌, refl, sym, ap, ◌∙◌}
use Prim.Native.Nat.{ℕ, zero, suc}
use mathlib.Core.Bool.{Bool, true, false, ◌||◌, cond, false≢true}
use mathlib.Core.List.{List, [], ◌∷◌, ◌++◌, append_assoc, append-nil}
use native.Mathlib.Omega.{arith}
use borrow.Author.Tests.{eqb-true}
use lib.Dec.{eqb}
use lib.ListN.{length, drop, length-append}
use Rattle.rules.specs.Bytes.{every, starts, same, order, within}
use Rattle.rules.proofs.BoolLaws.{and_both}
use Rattle.rules.proofs.PrefixLaws.{same_self, same_true}
use Rattle.expression.specs.Reading.{id_byte, is_word, license_ref, document_ref, Kind, bare, license, reference, document, kind_of}
use Rattle.expression.specs.Annex.{Idstring, LicenseId, LicenseRef, Simple, Ends, Begins, blanks}
use Rattle.expression.proofs.WordLaws.{starts_self, starts-cut}
use Rattle.expression.proofs.EveryLaws.{every-both, every_back}
use Rattle.expression.proofs.PartLaws.{last_of, last-append, shuts, ends_last}

-- ---- identifier bytes
pub id-one : (b : ℕ) → id_byte b ≡ true → Idstring (b ∷ [])
unfolding every
id-one b h = record { bytes = and_both (id_byte b) true h refl; some = omega arith }

pub id-more : (w : List ℕ) (b : ℕ) → Idstring w → id_byte b ≡ true → Idstring (w ++ b ∷ [])
id-more w b i h =
    record { bytes = every-both id_byte w (b ∷ []) i.bytes (id-one b h).bytes; some = rw (length-append w (b ∷ [])) (omega arith) }

-- fronts are of identifier bytes
pub front-id : (w : List ℕ) → Idstring w → Idstring (license_ref ++ w) × Idstring (document_ref ++ w)
unfolding every id_byte within
front-id w i = (
  record { bytes = every-both id_byte license_ref w refl i.bytes; some = omega arith },
  record { bytes = every-both id_byte document_ref w refl i.bytes; some = omega arith },
)

-- ---- what a text ends in
pub ends-append : (k : List ℕ) {s : List ℕ} → Ends s → Ends (k ++ s)
ends-append k (Ends.blank s) = rw (← append_assoc k s (32 ∷ [])) (Ends.blank (k ++ s))
ends-append k (Ends.paren s) = rw (← append_assoc k s (41 ∷ [])) (Ends.paren (k ++ s))

pub last-ends : (x : ℕ) (xs : List ℕ) → shuts (last_of x xs) ≡ true → Ends (x ∷ xs)
last-ends x [] h = one (eqb x 32) refl (eqb x 41) refl h where
  one : (a : Bool) → eqb x 32 ≡ a → (b : Bool) → eqb x 41 ≡ b → a || b ≡ true → Ends (x ∷ [])
  one true e b f h = rw (eqb-true x 32 e) (Ends.blank [])
  one false e true f h = rw (eqb-true x 41 f) (Ends.paren [])
  one false e false f h = absurd (false≢true h)
last-ends x (y ∷ ys) h = ends-append (x ∷ []) (last-ends y ys h)

-- ---- and begins with
pub begins_more : {u : List ℕ} (v : List ℕ) → Begins u → Begins (u ++ v)
begins_more v (Begins.blank s) = Begins.blank (s ++ v)
begins_more v (Begins.paren s) = Begins.paren (s ++ v)

begins_as : {x : ℕ} {a : List ℕ} (b : List ℕ) → Begins (x ∷ a) → Begins (x ∷ b)
begins_as b (Begins.blank s) = Begins.blank b
begins_as b (Begins.paren s) = Begins.paren b

-- of a text in two, where the first is not empty
pub begins_front : (u v : List ℕ) → Ends u → Begins (u ++ v) → Begins u
begins_front [] v e h = absurd (false≢true (ends_last e 0))
begins_front (x ∷ u) v e h = begins_as u h

pub ends_back : (a : List ℕ) {u : List ℕ} → Begins u → Ends (a ++ u) → Ends u
ends_back a (Begins.blank s) e = last-ends 32 s (rw (last-append 0 a (32 ∷ s)) at (ends_last e 0))
ends_back a (Begins.paren s) e = last-ends 40 s (rw (last-append 0 a (40 ∷ s)) at (ends_last e 0))

-- ---- fronts
no_same : (f w : List ℕ) → starts f w ≡ false → same f w ≡ false
no_same f w h = go (same f w) refl where
  go : (t : Bool) → same f w ≡ t → t ≡ false
  go true e = absurd (false≢true (sym h ∙ rw (same_true f w e) (starts_self w)))
  go false e = refl

-- what stands behind a front, of an identifier that is more than it
pub record Behind (f w : List ℕ) : Type 0 where
  pub rest : List ℕ
  pub string : Idstring rest
  pub text : w ≡ f ++ rest

behind : (f w : List ℕ) → every id_byte w ≡ true → starts f w ≡ true → same f w ≡ false → Behind f w
behind f w i h n = go (drop (length f) w) (starts-cut f w h) where
  go : (v : List ℕ) → w ≡ f ++ v → Behind f w
  go [] e = let q : w ≡ f = e ∙ append-nil f in absurd (false≢true (sym n ∙ rw q (same_self f)))
  go (x ∷ v) e = record { rest = x ∷ v; string = record { bytes = every_back id_byte f (x ∷ v) (rw e at i); some = omega arith }; text = e }

-- ---- the kind of an identifier
pub kind-license : (w : List ℕ) → LicenseId w → kind_of w ≡ license
unfolding kind_of
kind-license w h = rw (no_same document_ref w h.no-document, no_same license_ref w h.no_ref, h.no_word, h.no-document, h.no_ref)

pub kind-reference : (w : List ℕ) → Idstring w → kind_of (license_ref ++ w) ≡ reference
unfolding kind_of is_word same order starts
kind-reference [] h = absurd (omega (arith, h.some))
kind-reference (x ∷ w) h = refl

pub kind-document : (w : List ℕ) → Idstring w → kind_of (document_ref ++ w) ≡ document
unfolding kind_of is_word same order starts
kind-document [] h = absurd (omega (arith, h.some))
kind-document (x ∷ w) h = refl

-- and back: what a kind says of the tests that it is made of
kind-of : Bool → Bool → Bool → Bool → Bool → Kind
kind-of a b c d e = cond (a || b || c) bare (cond d document (cond e reference license))

abbrev Says : Kind → Bool → Bool → Bool → Bool → Bool → Type 0
Says bare a b c d e = Unit
Says license a b c d e = (c ≡ false) × (d ≡ false) × (e ≡ false)
Says reference a b c d e = (b ≡ false) × (e ≡ true)
Says document a b c d e = (a ≡ false) × (d ≡ true)

says : (a b c d e : Bool) → Says (kind-of a b c d e) a b c d e
unfolding kind-of
says true b c d e = tt
says false true c d e = tt
says false false true d e = tt
says false false false true e = (refl, refl)
says false false false false true = (refl, refl)
says false false false false false = (refl, refl, refl)

kind_says : (w : List ℕ) (k : Kind) → kind_of w ≡ k →
    Says k (same document_ref w) (same license_ref w) (is_word w) (starts document_ref w) (starts license_ref w)
unfolding kind_of kind-of
kind_says w k e = rw (← e) (says (same document_ref w) (same license_ref w) (is_word w) (starts document_ref w) (starts license_ref w))

pub license_back : (w : List ℕ) → Idstring w → kind_of w ≡ license → LicenseId w
license_back w i e =
    let s = kind_says w license e in
    record { string = i; no_word = s.0; no-document = s.1; no_ref = s.2 }

pub reference-simple : (w : List ℕ) → Idstring w → kind_of w ≡ reference → Simple w false
reference-simple w i e =
    let s = kind_says w reference e in
    let b = behind license_ref w i.bytes s.1 s.0 in
    Simple.ref {w = w} (rw b.text (LicenseRef.here b.string))

pub document_back : (w : List ℕ) → Idstring w → kind_of w ≡ document → Behind document_ref w
document_back w i e = let s = kind_says w document e in behind document_ref w i.bytes s.1 s.0

-- ---- three texts and a fourth
pub three_more : (p q r u : List ℕ) → (p ++ (q ++ r)) ++ u ≡ p ++ (q ++ (r ++ u))
three_more p q r u = rw (append_assoc p (q ++ r) u, append_assoc q r u)

-- ---- blanks
pub blanks-more : (n : ℕ) (s : List ℕ) → blanks n ++ 32 ∷ s ≡ blanks (suc n) ++ s
unfolding blanks
blanks-more zero s = refl
blanks-more (suc n) s = ap {B = List ℕ} (λ r. 32 ∷ r) (blanks-more n s)
