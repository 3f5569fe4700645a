-- Which texts are spaced out: their pieces (`spaced-front`, `spaced_back`), and whatever is written (`spell-spaced`).
-- Assumes nothing.
use mathlib.Core.Path.{◌≡◌, refl}
use Prim.Native.Nat.{ℕ}
use mathlib.Core.Bool.{Bool, true, false, not, ◌&&◌, ◌||◌}
use mathlib.Core.List.{List, [], ◌∷◌, ◌++◌, append-nil}
use lib.Dec.{eqb}
use Rattle.rules.specs.Bytes.{every, within}
use Rattle.rules.proofs.BoolLaws.{and_left, and_right, and_both}
use Rattle.expression.specs.Reading.{part, Tree, id_byte, license_ref, document_ref}
use Rattle.expression.specs.Writing.{spell, spell_part, spell_exc, wrap, is_or}
use Rattle.expression.specs.Annex.{LicenseRef, Simple, ors, Reads}
use Rattle.expression.proofs.WordLaws.{id_not}
use Rattle.expression_spelling.specs.Flat.{apart, spaced_out}
use Rattle.expression_spelling.proofs.DerivedLaws.{Fits, reads_fits}

-- ---- pieces
pub spaced_back : (xs ys : List ℕ) → spaced_out (xs ++ ys) ≡ true → spaced_out ys ≡ true
unfolding spaced_out
spaced_back [] ys h = h
spaced_back (x ∷ []) [] h = h
spaced_back (x ∷ []) (y ∷ ys) h = and_right (apart x y) (spaced_out (y ∷ ys)) h
spaced_back (x ∷ z ∷ xs) ys h = spaced_back (z ∷ xs) ys (and_right (apart x z) (spaced_out ((z ∷ xs) ++ ys)) h)

pub spaced-front : (xs ys : List ℕ) → spaced_out (xs ++ ys) ≡ true → spaced_out xs ≡ true
unfolding spaced_out
spaced-front [] ys h = refl
spaced-front (x ∷ []) ys h = refl
spaced-front (x ∷ z ∷ xs) ys h =
    and_both (apart x z) (spaced_out (z ∷ xs)) (and_left (apart x z) (spaced_out ((z ∷ xs) ++ ys)) h)
    (spaced-front (z ∷ xs) ys (and_right (apart x z) (spaced_out ((z ∷ xs) ++ ys)) h))

pub spaced-at : (xs : List ℕ) (a b : ℕ) (ys : List ℕ) → spaced_out (xs ++ (a ∷ b ∷ ys)) ≡ true → apart a b ≡ true
unfolding spaced_out
spaced-at xs a b ys h = and_left (apart a b) (spaced_out (b ∷ ys)) (spaced_back xs (a ∷ b ∷ ys) h)

-- ---- a byte behind anything, or before it
neither : (p q : Bool) → not ((p && false) || (q && false)) ≡ true
neither true true = refl
neither true false = refl
neither false true = refl
neither false false = refl

-- no A, no O, no (
apart-behind : (c : ℕ) → (eqb c 65 || eqb c 79) ≡ false → eqb c 40 ≡ false → (x : ℕ) → apart x c ≡ true
unfolding apart
apart-behind c h k x = rw (h, k) (neither (eqb x 41) (eqb x 68 || eqb x 82))

spaced-join : (c : ℕ) → (eqb c 65 || eqb c 79) ≡ false → eqb c 40 ≡ false → (xs ys : List ℕ)
    → spaced_out xs ≡ true → spaced_out (c ∷ ys) ≡ true → spaced_out (xs ++ c ∷ ys) ≡ true
unfolding spaced_out
spaced-join c n m [] ys h k = k
spaced-join c n m (x ∷ []) ys h k = and_both (apart x c) (spaced_out (c ∷ ys)) (apart-behind c n m x) k
spaced-join c n m (x ∷ z ∷ xs) ys h k =
    and_both (apart x z) (spaced_out ((z ∷ xs) ++ c ∷ ys)) (and_left (apart x z) (spaced_out (z ∷ xs)) h)
    (spaced-join c n m (z ∷ xs) ys (and_right (apart x z) (spaced_out (z ∷ xs)) h) k)

-- no ), no D, no R
spaced-after : (c : ℕ) → eqb c 41 ≡ false → (eqb c 68 || eqb c 82) ≡ false → (ys : List ℕ) → spaced_out ys ≡ true → spaced_out (c ∷ ys) ≡ true
unfolding spaced_out apart
spaced-after c n m [] h = refl
spaced-after c n m (y ∷ ys) h = rw (n, m) h

-- ---- parts
apart_ids : (x y : ℕ) → id_byte x ≡ true → id_byte y ≡ true → apart x y ≡ true
unfolding apart id_byte within
apart_ids x y h k = rw (id_not x 41 refl h, id_not y 40 refl k) (neither false (eqb x 68 || eqb x 82))

spaced_ids : (w : List ℕ) → every id_byte w ≡ true → spaced_out w ≡ true
unfolding spaced_out every
spaced_ids [] e = refl
spaced_ids (x ∷ []) e = refl
spaced_ids (x ∷ y ∷ ys) e =
    let rest = and_right (id_byte x) (every id_byte (y ∷ ys)) e in
    and_both (apart x y) (spaced_out (y ∷ ys))
    (apart_ids x y (and_left (id_byte x) (every id_byte (y ∷ ys)) e) (and_left (id_byte y) (every id_byte ys) rest))
    (spaced_ids (y ∷ ys) rest)

spaced-simple : {w : List ℕ} {plus : Bool} → Simple w plus → spaced_out w ≡ true
unfolding every id_byte within
spaced-simple (Simple.id {w = w} h) = spaced_ids w h.string.bytes
spaced-simple (Simple.later {w = w} h) = spaced_ids w h.string.bytes
spaced-simple (Simple.ref (LicenseRef.here {w = w} h)) = spaced_ids (license_ref ++ w) h.bytes
spaced-simple (Simple.ref (LicenseRef.there {v = v} {w = w} h k)) =
    spaced-join 58 refl refl (document_ref ++ v) (license_ref ++ w) (spaced_ids (document_ref ++ v) h.bytes)
    (spaced-after 58 refl refl (license_ref ++ w) (spaced_ids (license_ref ++ w) k.bytes))

spaced-exc : (x : List ℕ) → spaced_out x ≡ true → spaced_out (spell_exc x) ≡ true
unfolding spell_exc spaced_out apart
spaced-exc [] h = refl
spaced-exc (y ∷ ys) h = h

spaced-part : (w : List ℕ) (plus : Bool) (x : List ℕ) → spaced_out w ≡ true → spaced_out x ≡ true → spaced_out (spell_part (part w plus x)) ≡ true
unfolding spell_part spell_exc
spaced-part w true x h k = spaced-join 43 refl refl w (spell_exc x) h (spaced-after 43 refl refl (spell_exc x) (spaced-exc x k))
spaced-part w false [] h k = rw (append-nil w) h
spaced-part w false (y ∷ ys) h k = spaced-join 32 refl refl w (87 ∷ 73 ∷ 84 ∷ 72 ∷ 32 ∷ y ∷ ys) h (spaced-exc (y ∷ ys) k)

-- ---- what is written
spaced-wrap : (o : Bool) (s : List ℕ) → spaced_out s ≡ true → spaced_out (wrap o s) ≡ true
unfolding wrap spaced_out
spaced-wrap true s h = spaced-after 40 refl refl (s ++ 41 ∷ []) (spaced-join 41 refl refl s [] h refl)
spaced-wrap false s h = h

spaced-words : (v w : List ℕ) → spaced_out v ≡ true → spaced_out w ≡ true
    → (spaced_out (v ++ 32 ∷ 65 ∷ 78 ∷ 68 ∷ 32 ∷ w) ≡ true) × (spaced_out (v ++ 32 ∷ 79 ∷ 82 ∷ 32 ∷ w) ≡ true)
unfolding spaced_out apart
spaced-words v w h k =
    let right = spaced-after 32 refl refl w k in
    (spaced-join 32 refl refl v (65 ∷ 78 ∷ 68 ∷ 32 ∷ w) h right, spaced-join 32 refl refl v (79 ∷ 82 ∷ 32 ∷ w) h right)

fits_spaced : {u : Bool} {d : ℕ} {t : Tree} → Fits u d t → spaced_out (spell t) ≡ true
unfolding spell spaced_out
fits_spaced (Fits.simple {w = w} {plus = plus} h) = spaced-part w plus [] (spaced-simple h) refl
fits_spaced (Fits.with-exc {w = w} {x = x} {plus = plus} h k) = spaced-part w plus x (spaced-simple h) (spaced_ids x k.string.bytes)
fits_spaced (Fits.both {a = a} {b = b} h k) =
    (spaced-words (wrap (is_or a) (spell a)) (wrap (is_or b) (spell b))
    (spaced-wrap (is_or a) (spell a) (fits_spaced h)) (spaced-wrap (is_or b) (spell b) (fits_spaced k))).0
fits_spaced (Fits.either {a = a} {b = b} h k) = (spaced-words (spell a) (spell b) (fits_spaced h) (fits_spaced k)).1
fits_spaced (Fits.group {a = a} {b = b} h k) = (spaced-words (spell a) (spell b) (fits_spaced h) (fits_spaced k)).1

pub spell-spaced : {d : ℕ} {s : List ℕ} {t : Tree} → Reads ors d s t → spaced_out (spell t) ≡ true
spell-spaced h = fits_spaced (reads_fits h)
