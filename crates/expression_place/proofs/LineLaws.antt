-- A line read without the automaton is a part of the right form in the writer's own spelling (`line-laid`), and every such line is read as its
-- part (`form_line`).
-- Assumes nothing.
use mathlib.Core.Path.{◌≡◌, refl, sym, ap, ◌∙◌}
use Prim.Native.Nat.{ℕ, ◌+◌, ◌<◌}
use mathlib.Core.Bool.{Bool, true, false, not, cond, ◌&&◌}
use mathlib.Core.List.{List, [], ◌∷◌, ◌++◌, append_assoc}
use mathlib.Core.Option.{none, some}
use native.Mathlib.Omega.{arith}
use borrow.Author.Tests.{eqb-true, eqb-false, ne_eqb, lt-ltb, ltb-true}
use lib.Dec.{eqb, ltb}
use lib.ListN.{length, take, drop, length-append, take-append-drop}
use lib.Seq.{take-append_seam, drop-append_seam, drop-append-add, take_at, drop_at, length-take-le, take-add, drop-drop}
use Rattle.rules.specs.Bytes.{every, lead, starts, within, same, order}
use Rattle.rules.proofs.HitLaws.{lead-length}
use Rattle.expression.specs.Reading.{id_byte, license_ref, document_ref, is_word, Kind, bare, license, reference, document, kind_of, Part, part}
use Rattle.expression.specs.Writing.{spell_exc, spell_part}
use Rattle.expression.specs.Annex.{Idstring, LicenseRef, Simple}
use Rattle.expression.proofs.WordLaws.{starts-cut}
use Rattle.expression_annex.proofs.TextLaws.{front-id, kind-license, kind-reference, kind-document, license_back, document_back, reference-simple}
use Rattle.expression_place.specs.Line.{ends, with_text, colon_ref, exc_here, exc_at, rest_at, license_at, ref_here, document_at, kind_at, front_at, line_at}
use Rattle.expression_place.proofs.FormLaws.{Form}
use Rattle.expression_place.proofs.FrontLaws.{lead_is, lead-every}

-- ---- what is laid out in the writer's spelling is read: from the exception to the front
exc-line : (w : List ℕ) (plus : Bool) (x r : List ℕ) → every id_byte x ≡ true → 0 < length x → is_word x ≡ false → ends r ≡ true → lead id_byte r ≡ 0
    → exc_at w plus (x ++ r) ≡ some (part w plus x)
unfolding exc_at exc_here
exc-line w plus x r e n f g z =
    rw (lead_is id_byte x r e z, take-append_seam x r, drop-append_seam x r, lt-ltb 0 (length x) n, f, g)

ends-id : (r : List ℕ) → ends r ≡ true → lead id_byte r ≡ 0
unfolding ends lead id_byte within
ends-id [] e = refl
ends-id (x ∷ r) e = rw (eqb-true x 10 e)

ends_plus : (r : List ℕ) → ends r ≡ true → starts (43 ∷ []) r ≡ false
unfolding ends starts
ends_plus [] e = refl
ends_plus (x ∷ r) e = rw (eqb-true x 10 e)

rest-line : (w : List ℕ) (plus : Bool) (x r : List ℕ) → every id_byte x ≡ true → is_word x ≡ false → ends r ≡ true
    → rest_at w plus (spell_exc x ++ r) ≡ some (part w plus x)
unfolding rest_at spell_exc starts ends
rest-line w plus [] r e f g = rw g
rest-line w plus (y ∷ ys) r e f g = exc-line w plus (y ∷ ys) r e (omega arith) f g (ends-id r g)

-- neither an identifier byte nor + stands behind it
rest-id : (x r : List ℕ) → ends r ≡ true → lead id_byte (spell_exc x ++ r) ≡ 0
unfolding spell_exc lead id_byte within
rest-id [] r g = ends-id r g
rest-id (y ∷ ys) r g = refl

rest_plus : (x r : List ℕ) → ends r ≡ true → starts (43 ∷ []) (spell_exc x ++ r) ≡ false
unfolding spell_exc starts
rest_plus [] r g = ends_plus r g
rest_plus (y ∷ ys) r g = refl

front-line : (k : Kind) (w t : List ℕ) → every id_byte w ≡ true → 0 < length w → kind_of w ≡ k → lead id_byte t ≡ 0
    → line_at (w ++ t) ≡ kind_at k (w ++ t) (length w)
unfolding line_at front_at
front-line k w t e n q z = rw (lead_is id_byte w t e z, take-append_seam w t, q, ne_eqb (length w) 0 (λ i. absurd (omega arith)))

later-line : (w t : List ℕ) → license_at (w ++ 43 ∷ t) (length w) ≡ rest_at w true t
unfolding license_at starts
later-line w t = rw (drop-append_seam w (43 ∷ t), take-append_seam w (43 ∷ t), drop-append-add w (43 ∷ t) 1)

only_line : (w t : List ℕ) → starts (43 ∷ []) t ≡ false → license_at (w ++ t) (length w) ≡ rest_at w false t
unfolding license_at
only_line w t e = rw (drop-append_seam w t, take-append_seam w t, e)

ref-line : (w t : List ℕ) → kind_at reference (w ++ t) (length w) ≡ rest_at w false t
unfolding kind_at
ref-line w t = rw (drop-append_seam w t, take-append_seam w t)

-- u and r behind each other are the identifier
here-line : (u r t : List ℕ) → 0 < length r → ref_here (u ++ (r ++ t)) (length u) (length r) ≡ rest_at (u ++ r) false t
unfolding ref_here
here-line u r t n =
    let q : length (u ++ r) ≡ length u + length r = length-append u r in
    rw (lt-ltb 0 (length r) n, ← append_assoc u r t, take_at (u ++ r) t (length u + length r) q, drop_at (u ++ r) t (length u + length r) q)

document-line : (doc r t : List ℕ) → every id_byte r ≡ true → 0 < length r → lead id_byte t ≡ 0
    → document_at (doc ++ (colon_ref ++ (r ++ t))) (length doc) ≡ rest_at ((doc ++ colon_ref) ++ r) false t
unfolding document_at starts
document-line doc r t e n z =
    let q : length (doc ++ colon_ref) ≡ length doc + 12 = length-append doc colon_ref in
    rw (drop-append_seam doc (colon_ref ++ (r ++ t)), drop-append-add doc (colon_ref ++ (r ++ t)) 12, lead_is id_byte r t e z)
    (rw (← append_assoc doc colon_ref (r ++ t), ← q) (here-line (doc ++ colon_ref) r t n))

-- a license-ref of another document
foreign_line : (v r t : List ℕ) → Idstring v → Idstring r → lead id_byte t ≡ 0 →
    line_at ((document_ref ++ (v ++ 58 ∷ (license_ref ++ r))) ++ t) ≡ rest_at (document_ref ++ (v ++ 58 ∷ (license_ref ++ r))) false t
unfolding kind_at lead id_byte within
foreign_line v r t i j z =
    let doc = document_ref ++ v in
    let k = (front-id v i).1 in
    ap line_at (append_assoc doc (58 ∷ (license_ref ++ r)) t)
    ∙ front-line document doc (colon_ref ++ (r ++ t)) k.bytes k.some (kind-document v i) refl
    ∙ document-line doc r t j.bytes j.some z
    ∙ ap (λ (u : List ℕ). rest_at u false t) (append_assoc doc colon_ref r)

simple-line : {w : List ℕ} {plus : Bool} (t : List ℕ) → Simple w plus → lead id_byte t ≡ 0 → starts (43 ∷ []) t ≡ false
    → line_at (w ++ (cond plus (43 ∷ []) [] ++ t)) ≡ rest_at w plus t
unfolding kind_at lead id_byte within
simple-line t (Simple.later {w = w} h) z f =
    front-line license w (43 ∷ t) h.string.bytes h.string.some (kind-license w h) refl ∙ later-line w t
simple-line t (Simple.id {w = w} h) z f = front-line license w t h.string.bytes h.string.some (kind-license w h) z ∙ only_line w t f
simple-line t (Simple.ref (LicenseRef.here {w = w} i)) z f =
    let k = (front-id w i).0 in
    front-line reference (license_ref ++ w) t k.bytes k.some (kind-reference w i) z ∙ ref-line (license_ref ++ w) t
simple-line t (Simple.ref (LicenseRef.there {v = v} {w = w} i j)) z f = foreign_line v w t i j z

pub form_line : (w : List ℕ) (plus : Bool) (x r : List ℕ) → Form w plus x → ends r ≡ true
    → line_at (spell_part (part w plus x) ++ r) ≡ some (part w plus x)
unfolding spell_part
form_line w plus x r f g =
    let sign : List ℕ = cond plus (43 ∷ []) [] in
    let q = append_assoc w (sign ++ spell_exc x) r ∙ ap (λ (v : List ℕ). w ++ v) (append_assoc sign (spell_exc x) r) in
    ap line_at q
    ∙ simple-line (spell_exc x ++ r) f.simple (rest-id x r g) (rest_plus x r g)
    ∙ rest-line w plus x r f.exc-bytes f.exc-no-word g

-- ---- and what is read is laid out so
pub none-some : {B : Type 0} {q : Part} → none ≡ some q → B
none-some e = let z : ◌≡◌ {A = ℕ} 0 1 = cc in absurd (omega arith)

-- t is behind the identifier w and its + what q's exception asks, and the end
record Rest (w : List ℕ) (plus : Bool) (t : List ℕ) (q : Part) : Type 0 where
  pub exc : List ℕ
  pub rest : List ℕ
  pub part-is : q ≡ part w plus exc
  pub is : t ≡ spell_exc exc ++ rest
  pub end : ends rest ≡ true
  pub bytes : every id_byte exc ≡ true
  pub no_word : is_word exc ≡ false

spell-some : (x : List ℕ) → 0 < length x → spell_exc x ≡ with_text ++ x
unfolding spell_exc
spell-some [] n = absurd (omega arith)
spell-some (y ∷ ys) n = refl

exc_back : (w : List ℕ) (plus : Bool) (s : List ℕ) (q : Part) → exc_at w plus s ≡ some q → Rest w plus (with_text ++ s) q
unfolding exc_at exc_here
exc_back w plus s q e = on (ltb 0 k) refl (is_word (take k s)) refl (ends (drop k s)) refl e where
  k : ℕ
  k = lead id_byte s

  on : (a : Bool) → ltb 0 k ≡ a → (b : Bool) → is_word (take k s) ≡ b → (c : Bool) → ends (drop k s) ≡ c
      → cond (a && not b && c) (some (part w plus (take k s))) none ≡ some q → Rest w plus (with_text ++ s) q
  on false f b g c h e = none-some e
  on true f true g c h e = none-some e
  on true f false g false h e = none-some e
  on true f false g true h e =
      let n : 0 < length (take k s) = omega (arith, length-take-le k s (lead-length id_byte s), ltb-true 0 k f) in
      let i : spell_exc (take k s) ++ drop k s ≡ with_text ++ s =
      ap (λ (v : List ℕ). v ++ drop k s) (spell-some (take k s) n) ∙ ap (λ (v : List ℕ). with_text ++ v) (take-append-drop k s) in
      record { exc = take k s; rest = drop k s; part-is = cc; is = sym i; end = h; bytes = lead-every id_byte s; no_word = g }

rest_back : (w : List ℕ) (plus : Bool) (t : List ℕ) (q : Part) → rest_at w plus t ≡ some q → Rest w plus t q
unfolding rest_at spell_exc every is_word same order
rest_back w plus t q e = on (ends t) refl (starts with_text t) refl e where
  on : (a : Bool) → ends t ≡ a → (b : Bool) → starts with_text t ≡ b
      → cond a (some (part w plus [])) (cond b (exc_at w plus (drop 6 t)) none) ≡ some q → Rest w plus t q
  on true f b g e = record { exc = []; rest = t; part-is = cc; is = refl; end = f; bytes = refl; no_word = refl }
  on false f true g e = rw (starts-cut with_text t g) (exc_back w plus (drop 6 t) q e)
  on false f false g e = none-some e

abbrev pub FormOf : Part → Type 0
FormOf (part w plus x) = Form w plus x

-- s begins with the part q in the writer's spelling, and the line ends behind it
pub record Laid (s : List ℕ) (q : Part) : Type 0 where
  pub form : FormOf q
  pub rest : List ℕ
  pub is : s ≡ spell_part q ++ rest
  pub end : ends rest ≡ true

laid : (s w : List ℕ) (plus : Bool) (t : List ℕ) (q : Part) → s ≡ w ++ (cond plus (43 ∷ []) [] ++ t) → Simple w plus
    → rest_at w plus t ≡ some q → Laid s q
unfolding spell_part
laid s w plus t q i n e =
    let r = rest_back w plus t q e in
    let x = r.exc in
    let sign : List ℕ = cond plus (43 ∷ []) [] in
    let f : Form w plus x = record { simple = n; exc-bytes = r.bytes; exc-no-word = r.no_word } in
    let j : s ≡ (w ++ (sign ++ spell_exc x)) ++ r.rest =
    i ∙ ap (λ (v : List ℕ). w ++ (sign ++ v)) r.is
    ∙ ap (λ (v : List ℕ). w ++ v) (sym (append_assoc sign (spell_exc x) r.rest))
    ∙ sym (append_assoc w (sign ++ spell_exc x) r.rest) in
    rw r.part-is (record { form = f; rest = r.rest; is = j; end = r.end })

-- ---- by the kind of the identifier bytes at the front
module _ (s : List ℕ) (q : Part) (n : ℕ) where
  license-laid : Simple (take n s) true → Simple (take n s) false → license_at s n ≡ some q → Laid s q
  unfolding license_at
  license-laid f g e = on (starts (43 ∷ []) (drop n s)) refl e where
    whole : take n s ++ drop n s ≡ s
    whole = take-append-drop n s

    on : (a : Bool) → starts (43 ∷ []) (drop n s) ≡ a
        → cond a (rest_at (take n s) true (drop (n + 1) s)) (rest_at (take n s) false (drop n s)) ≡ some q → Laid s q
    on true h e =
        let i : s ≡ take n s ++ 43 ∷ drop (n + 1) s =
        sym whole ∙ ap (λ (v : List ℕ). take n s ++ v) (starts-cut (43 ∷ []) (drop n s) h ∙ ap (λ (v : List ℕ). 43 ∷ v) (drop-drop 1 n s)) in
        laid s (take n s) true (drop (n + 1) s) q i f e
    on false h e = laid s (take n s) false (drop n s) q (sym whole) g e

  document-laid : Idstring (take n s) → kind_of (take n s) ≡ document → document_at s n ≡ some q → Laid s q
  unfolding document_at ref_here
  document-laid f k e = on (starts colon_ref (drop n s)) refl (ltb 0 m) refl e where
    m : ℕ
    m = lead id_byte (drop (n + 12) s)

    on : (a : Bool) → starts colon_ref (drop n s) ≡ a → (b : Bool) → ltb 0 m ≡ b
        → cond a (cond b (rest_at (take (n + 12 + m) s) false (drop (n + 12 + m) s)) none) none ≡ some q → Laid s q
    on false g b h e = none-some e
    on true g false h e = none-some e
    on true g true h e =
        let d = drop (n + 12) s in
        let i : take 12 (drop n s) ≡ colon_ref = ap (take 12) (starts-cut colon_ref (drop n s) g) in
        let j : take (n + 12 + m) s ≡ take n s ++ (colon_ref ++ take m d) =
        take-add (n + 12) m s ∙ ap (λ (v : List ℕ). v ++ take m d) (take-add n 12 s ∙ ap (λ (v : List ℕ). take n s ++ v) i)
        ∙ append_assoc (take n s) colon_ref (take m d) in
        let r : 0 < length (take m d) = omega (arith, length-take-le m d (lead-length id_byte d), ltb-true 0 m h) in
        let b = document_back (take n s) f k in
        let w : take (n + 12 + m) s ≡ document_ref ++ (b.rest ++ 58 ∷ (license_ref ++ take m d)) =
        j ∙ ap (λ (v : List ℕ). v ++ (colon_ref ++ take m d)) b.text ∙ append_assoc document_ref b.rest (colon_ref ++ take m d) in
        let h : Simple (take (n + 12 + m) s) false =
        Simple.ref {w = take (n + 12 + m) s} (rw w (LicenseRef.there b.string (record { bytes = lead-every id_byte d; some = r }))) in
        laid s (take (n + 12 + m) s) false (drop (n + 12 + m) s) q (sym (take-append-drop (n + 12 + m) s)) h e

kind-laid : (k : Kind) (s : List ℕ) (q : Part) (n : ℕ) → Idstring (take n s) → kind_of (take n s) ≡ k → kind_at k s n ≡ some q → Laid s q
unfolding kind_at
kind-laid bare s q n i k e = none-some e
kind-laid license s q n i k e = let h = license_back (take n s) i k in license-laid s q n (Simple.later h) (Simple.id h) e
kind-laid reference s q n i k e =
    laid s (take n s) false (drop n s) q (sym (take-append-drop n s)) (reference-simple (take n s) i k) e
kind-laid document s q n i k e = document-laid s q n i k e

pub line-laid : (s : List ℕ) (q : Part) → line_at s ≡ some q → Laid s q
unfolding line_at front_at
line-laid s q e = on (eqb n 0) refl e where
  n : ℕ
  n = lead id_byte s

  on : (a : Bool) → eqb n 0 ≡ a → cond a none (kind_at (kind_of (take n s)) s n) ≡ some q → Laid s q
  on true f e = none-some e
  on false f e =
      let g : 0 < length (take n s) = omega (arith, length-take-le n s (lead-length id_byte s), eqb-false n 0 f) in
      kind-laid (kind_of (take n s)) s q n (record { bytes = lead-every id_byte s; some = g }) refl e
