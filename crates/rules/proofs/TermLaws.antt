-- The words of a view in UTF-8 are words of a table: of edition 3 always, of another edition where its lines are ASCII (`table-words`).
-- Assumes nothing.
use mathlib.Core.Path.{◌≡◌, refl, sym, ap, ◌∙◌}
use mathlib.Core.Bool.{Bool, true, false, ◌&&◌, false≢true}
use mathlib.Core.List.{List, [], ◌∷◌, map}
use Prim.Native.Nat.{ℕ, suc, ◌+◌, ◌/◌, ◌%◌, ◌≤◌, ◌<◌}
use native.Mathlib.Omega.{arith}
use lib.Dec.{ltb, eqb}
use lib.ListN.{length}
use borrow.Author.Tests.{ne_eqb, le-leb, lt-leb, lt-ltb, le-ltb, ltb-true, ltb-false}
use Rattle.rules.specs.Bytes.{within, among, lower, digit, every, on_first, split}
use Rattle.rules.specs.Points.{opens, utf8, ascii, taken, points, encoded}
use Rattle.rules.specs.Book.{term}
use Rattle.rules.specs.Passes.{aggressive}
use Rattle.rules.proofs.BoolLaws.{and_left, and_right, and_both}
use Rattle.rules.proofs.DownLaws.{Each}
use Rattle.rules.proofs.PointLaws.{low-opens, ascii-encoded, ascii-points, points-encoded}
use Rattle.rules.proofs.EveryLaws.{AsciiLines, ascii-view, ascii-words}
use Rattle.rules.proofs.WordLaws.{term_byte, point_term, Words, aggressive-words}

-- ---- what is written is such UTF-8
low-utf8 : (x : ℕ) (s : List ℕ) → ltb x 128 ≡ true → utf8 false s ≡ true → utf8 false (x ∷ s) ≡ true
unfolding utf8
low-utf8 x s q e = rw (q, low-opens x q) e

two_utf8 : (x : ℕ) (s : List ℕ) → 128 ≤ x → x < 256 → utf8 false s ≡ true → utf8 false ((192 + x / 64) ∷ (128 + x % 64) ∷ s) ≡ true
unfolding utf8 opens within
two_utf8 x s l k e =
    rw (
      le-leb 194 (192 + x / 64) (omega arith),
      le-leb (192 + x / 64) 195 (omega arith),
      le-ltb (192 + x / 64) 128 (omega arith),
      le-leb 128 (128 + x % 64) (omega arith),
      le-leb (128 + x % 64) 191 (omega arith),
    ) e

pub encoded-utf8 : (s : List ℕ) → every (λ x. ltb x 256) s ≡ true → utf8 false (encoded s) ≡ true
unfolding every encoded utf8
encoded-utf8 [] h = refl
encoded-utf8 (x ∷ s) h = at (ltb x 128) refl (ltb-true x 256 (and_left (ltb x 256) (every (λ y. ltb y 256) s) h)) (encoded-utf8 s (and_right (ltb x 256) (every (λ y. ltb y 256) s) h))
  where
    at : (t : Bool) → ltb x 128 ≡ t → x < 256 → utf8 false (encoded s) ≡ true → utf8 false (encoded (x ∷ s)) ≡ true
    at true q k e = rw q (low-utf8 x (encoded s) q e)
    at false q k e = rw q (two_utf8 x (encoded s) (ltb-false x 128 q) k e)

-- ---- pieces between bytes below 128
low_first : (x : ℕ) → ltb x 128 ≡ true → (ls : List (List ℕ)) → map encoded (on_first x ls) ≡ on_first x (map encoded ls)
unfolding on_first encoded
low_first x q [] = rw q
low_first x q (l ∷ ls) = rw q

high-first : (x : ℕ) → ltb x 128 ≡ false → (ls : List (List ℕ)) → map encoded (on_first x ls) ≡ on_first (192 + x / 64) (on_first (128 + x % 64) (map encoded ls))
unfolding on_first encoded
high-first x q [] = rw q
high-first x q (l ∷ ls) = rw q

pub split-encoded : (c : ℕ) → c < 128 → (s : List ℕ) → split c (encoded s) ≡ map encoded (split c s)
unfolding split encoded
split-encoded c k [] = refl
split-encoded c k (x ∷ s) = at (ltb x 128) refl (split-encoded c k s)
  where
    low : (t : Bool) → eqb x c ≡ t → ltb x 128 ≡ true → split c (encoded s) ≡ map encoded (split c s) → split c (x ∷ encoded s) ≡ map encoded (split c (x ∷ s))
    low true q l e = rw q (ap (λ (ls : List (List ℕ)). [] ∷ ls) e)
    low false q l e = rw q (ap (on_first x) e ∙ sym (low_first x l (split c s)))

    at : (t : Bool) → ltb x 128 ≡ t → split c (encoded s) ≡ map encoded (split c s) → split c (encoded (x ∷ s)) ≡ map encoded (split c (x ∷ s))
    at true q e = rw q (low (eqb x c) refl q e)
    at false q e =
        let l = ltb-false x 128 q in
        rw (q, ne_eqb (192 + x / 64) c (λ z. omega arith), ne_eqb (128 + x % 64) c (λ z. omega arith), ne_eqb x c (λ z. omega arith))
        (ap (λ (ls : List (List ℕ)). on_first (192 + x / 64) (on_first (128 + x % 64) ls)) e ∙ sym (high-first x q (split c s)))

-- ---- a word
-- its code points are below 256
high-term : (x : ℕ) → 256 ≤ x → term_byte x ≡ false
unfolding lower digit within among
high-term x h =
    simp (
      lt-leb x 122 (omega arith),
      ne_eqb x 170 (λ e. omega arith),
      ne_eqb x 181 (λ e. omega arith),
      ne_eqb x 186 (λ e. omega arith),
      le-leb 97 x (omega arith),
      le-leb 223 x (omega arith),
      lt-leb x 255 (omega arith),
      le-leb 48 x (omega arith),
      lt-leb x 57 (omega arith),
      ne_eqb x 95 (λ e. omega arith),
    )

term-below : (x : ℕ) → term_byte x ≡ true → ltb x 256 ≡ true
term-below x h = at (ltb x 256) refl
  where
    at : (t : Bool) → ltb x 256 ≡ t → t ≡ true
    at true q = refl
    at false q = absurd (false≢true (sym (high-term x (ltb-false x 256 q)) ∙ h))

terms_below : (w : List ℕ) → every term_byte w ≡ true → every (λ x. ltb x 256) w ≡ true
unfolding every
terms_below [] h = refl
terms_below (x ∷ w) h =
    and_both (ltb x 256) (every (λ y. ltb y 256) w) (term-below x (and_left (term_byte x) (every term_byte w) h)) (terms_below w (and_right (term_byte x) (every term_byte w) h))

encoded-some : (w : List ℕ) → ltb 0 (length w) ≡ true → ltb 0 (length (encoded w)) ≡ true
unfolding encoded
encoded-some [] h = h
encoded-some (x ∷ w) h = at (ltb x 128) refl
  where
    at : (t : Bool) → ltb x 128 ≡ t → ltb 0 (length (encoded (x ∷ w))) ≡ true
    at true q = rw q (lt-ltb 0 (suc (length (encoded w))) (omega arith))
    at false q = rw q (lt-ltb 0 (suc (suc (length (encoded w)))) (omega arith))

pub wide-term : (w : List ℕ) → point_term w ≡ true → term true (encoded w) ≡ true
unfolding term point_term taken
wide-term w h =
    let n = and_left (ltb 0 (length w)) (every term_byte w) h in
    let e = and_right (ltb 0 (length w)) (every term_byte w) h in
    let b = terms_below w e in
    and_both (ltb 0 (length (encoded w))) (utf8 false (encoded w) && every term_byte (points (encoded w))) (encoded-some w n)
    (and_both (utf8 false (encoded w)) (every term_byte (points (encoded w))) (encoded-utf8 w b) (ap (every term_byte) (points-encoded w b) ∙ e))

pub ascii-term : (s : List ℕ) → ascii s ≡ true → point_term s ≡ true → term false s ≡ true
unfolding term point_term taken
ascii-term s p h =
    let n = and_left (ltb 0 (length s)) (every term_byte s) h in
    let e = and_right (ltb 0 (length s)) (every term_byte s) h in
    and_both (ltb 0 (length s)) (ascii s && every term_byte (points s)) n (and_both (ascii s) (every term_byte (points s)) p (ap (every term_byte) (ascii-points s p) ∙ e))

-- ---- the words of a text that has any
abbrev pub TableWords : Bool → List ℕ → Type 0
TableWords wide [] = Unit {0}
TableWords wide (x ∷ s) = Each (λ (w : List ℕ). term wide w ≡ true) (split 32 (x ∷ s))

each-wide : (ls : List (List ℕ)) → Each (λ (w : List ℕ). point_term w ≡ true) ls → Each (λ (w : List ℕ). term true w ≡ true) (map encoded ls)
each-wide [] h = tt
each-wide (l ∷ ls) h = (wide-term l h.0, each-wide ls h.1)

of-split : (wide : Bool) (s : List ℕ) → Each (λ (w : List ℕ). term wide w ≡ true) (split 32 s) → TableWords wide s
of-split wide [] h = tt
of-split wide (x ∷ s) h = h

wide_of : (s : List ℕ) → Words s → TableWords true (encoded s)
unfolding encoded
wide_of [] h = tt
wide_of (x ∷ s) h =
    let e = split-encoded 32 (omega arith) (x ∷ s) in
    of-split true (encoded (x ∷ s)) (rw e (each-wide (split 32 (x ∷ s)) h))

wide-words : (ls : List (List ℕ)) → TableWords true (encoded (aggressive ls))
wide-words ls = wide_of (aggressive ls) (aggressive-words ls)

each-ascii : (ls : List (List ℕ)) → AsciiLines ls → Each (λ (l : List ℕ). point_term l ≡ true) ls → Each (λ (l : List ℕ). term false l ≡ true) ls
each-ascii [] h k = tt
each-ascii (l ∷ ls) h k = (ascii-term l h.0 k.0, each-ascii ls h.1 k.1)

ascii-of : (s : List ℕ) → ascii s ≡ true → Words s → TableWords false s
ascii-of [] h k = tt
ascii-of (x ∷ s) h k = each-ascii (split 32 (x ∷ s)) (ascii-words (x ∷ s) h) k

pub table-words : (w : Bool) (ls : List (List ℕ)) → (w ≡ false → AsciiLines ls) → TableWords w (encoded (aggressive ls))
table-words true ls h = wide-words ls
table-words false ls h =
    let a = ascii-view ls (h refl) in
    rw (ascii-encoded (aggressive ls) a) (ascii-of (aggressive ls) a (aggressive-words ls))
