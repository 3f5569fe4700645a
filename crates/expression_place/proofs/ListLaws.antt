-- A list of accepted parts, line by line: the part that `line_at` reads meets what the line's verdict meets (`line-met`), and a list's parts are
-- those of its first line and of what stands behind it (`met-lines`). A line satisfies itself exactly if it is a part as it would be written (`line_itself`).
-- Assumes nothing.
use mathlib.Core.Path.{◌≡◌, refl, sym, ap, ap₂, ◌∙◌}
use Prim.Native.Nat.{ℕ, suc, ◌+◌}
use mathlib.Core.Bool.{Bool, true, false, not, cond, ◌&&◌, ◌||◌}
use mathlib.Core.List.{List, [], ◌∷◌, ◌++◌}
use mathlib.Core.Option.{Option, none, some}
use native.Mathlib.Omega.{arith}
use borrow.Author.Tests.{lt-ltb}
use lib.Dec.{eqb, ltb, leb-suc-suc}
use lib.ListN.{length, take, drop, take-append-drop}
use lib.Seq.{take_at}
use Rattle.rules.specs.Bytes.{every, within, newline, lead, line_len, same, split, on_first}
use Rattle.expression.specs.Reading.{id_byte, license_ref, document_ref, Part, part, Tree, leaf, and, or, Verdict, accepted, refused, verdict}
use Rattle.expression.specs.Writing.{spell_exc, spell_part, spell, meets, met, met_in, satisfied}
use Rattle.expression.specs.Annex.{LicenseRef, Simple}
use Rattle.expression.proofs.WordLaws.{id_not, same-is, same_self}
use Rattle.expression.proofs.EveryLaws.{every_then, every-both}
use Rattle.expression_annex.proofs.TextLaws.{front-id}
use Rattle.expression_place.specs.Line.{line_at, met_by}
use Rattle.expression_place.proofs.CaseLaws.{case_self}
use Rattle.expression_place.proofs.FormLaws.{Form, leaf_form, part-reads}
use Rattle.expression_place.proofs.FrontLaws.{line-ends, line-is}
use Rattle.expression_place.proofs.LineLaws.{Laid, line-laid, form_line, none-some}

-- ---- no newline stands in a part
id-line : (b : ℕ) → id_byte b ≡ true → not (newline b) ≡ true
unfolding newline id_byte within
id-line b e = rw (id_not b 10 refl e)

ids_line : (w : List ℕ) → every id_byte w ≡ true → every (λ x. not (newline x)) w ≡ true
ids_line w e = every_then id_byte (λ x. not (newline x)) id-line w e

simple-one-line : {w : List ℕ} {plus : Bool} → Simple w plus → every (λ x. not (newline x)) w ≡ true
unfolding every newline
simple-one-line (Simple.id {w = w} h) = ids_line w h.string.bytes
simple-one-line (Simple.later {w = w} h) = ids_line w h.string.bytes
simple-one-line (Simple.ref (LicenseRef.here {w = w} i)) = ids_line (license_ref ++ w) (front-id w i).0.bytes
simple-one-line (Simple.ref (LicenseRef.there {v = v} {w = w} i j)) =
    every-both (λ x. not (newline x)) (document_ref ++ v) (58 ∷ (license_ref ++ w))
    (ids_line (document_ref ++ v) (front-id v i).1.bytes) (ids_line (license_ref ++ w) (front-id w j).0.bytes)

exc-one-line : (x : List ℕ) → every id_byte x ≡ true → every (λ x. not (newline x)) (spell_exc x) ≡ true
unfolding spell_exc every newline
exc-one-line [] e = refl
exc-one-line (y ∷ ys) e = ids_line (y ∷ ys) e

sign_one-line : (plus : Bool) → every (λ x. not (newline x)) (cond plus (43 ∷ []) []) ≡ true
unfolding every newline
sign_one-line true = refl
sign_one-line false = refl

one_line : (w : List ℕ) (plus : Bool) (x : List ℕ) → Form w plus x → every (λ x. not (newline x)) (spell_part (part w plus x)) ≡ true
unfolding spell_part
one_line w plus x f =
    let sign : List ℕ = cond plus (43 ∷ []) [] in
    every-both (λ x. not (newline x)) w (sign ++ spell_exc x) (simple-one-line f.simple)
    (every-both (λ x. not (newline x)) sign (spell_exc x) (sign_one-line plus) (exc-one-line x f.exc-bytes))

-- ---- the line of a part, and the part of a line
pub laid-line : (s : List ℕ) (q : Part) → Laid s q → take (line_len s) s ≡ spell_part q
laid-line s (part w plus x) d =
    let u = spell_part (part w plus x) in
    let n : line_len s ≡ length u = ap line_len d.is ∙ line-is u d.rest (one_line w plus x d.form) d.end in
    rw n (ap (take (length u)) d.is ∙ take_at u d.rest (length u) refl)

pub laid-verdict : (s : List ℕ) (q : Part) → Laid s q → verdict (take (line_len s) s) ≡ accepted (leaf q)
laid-verdict s (part w plus x) d = ap verdict (laid-line s (part w plus x) d) ∙ part-reads w plus x d.form

pub leaf-line : (s : List ℕ) (q : Part) → verdict (take (line_len s) s) ≡ accepted (leaf q) → take (line_len s) s ≡ spell_part q → line_at s ≡ some q
leaf-line s (part w plus x) e f =
    let line = take (line_len s) s in
    let behind = drop (line_len s) s in
    let q : s ≡ spell_part (part w plus x) ++ behind = sym (take-append-drop (line_len s) s) ∙ ap (λ (v : List ℕ). v ++ behind) f in
    ap line_at q ∙ form_line w plus x behind (leaf_form line w plus x e) (line-ends s)

pub line-met : (p : Part) (s : List ℕ) → met p (take (line_len s) s) (verdict (take (line_len s) s)) ≡ met_by p (line_at s)
unfolding met met_by
line-met p s = on (line_at s) refl where
  line : List ℕ
  line = take (line_len s) s

  none-met : line_at s ≡ none → (v : Verdict) → verdict line ≡ v → met p line v ≡ false
  none-met n (accepted (leaf q)) e = test (same (spell_part q) line) refl where
    test : (t : Bool) → same (spell_part q) line ≡ t → (t && meets p q) ≡ false
    test true f = none-some (sym n ∙ leaf-line s q e (same-is (spell_part q) line f))
    test false f = refl
  none-met n (accepted (and a b)) e = refl
  none-met n (accepted (or a b)) e = refl
  none-met n (refused k i) e = refl

  on : (o : Option Part) → line_at s ≡ o → met p line (verdict line) ≡ met_by p o
  on none e = none-met e (verdict line) refl
  on (some q) e =
      let d = line-laid s q e in
      ap (met p line) (laid-verdict s q d) ∙ ap (λ (t : Bool). t && meets p q) (ap (same (spell_part q)) (laid-line s q d) ∙ same_self (spell_part q))

-- ---- the lines
-- the first, and those behind its newline if it has one
pub split-line : (s : List ℕ) → split 10 s ≡ take (line_len s) s ∷ cond (ltb (line_len s) (length s)) (split 10 (drop (line_len s + 1) s)) []
unfolding split line_len lead newline on_first
split-line [] = refl
split-line (x ∷ xs) = on (eqb x 10) (split-line xs) where
  on : (t : Bool) → split 10 xs ≡ take (line_len xs) xs ∷ cond (ltb (line_len xs) (length xs)) (split 10 (drop (line_len xs + 1) xs)) []
      → cond t ([] ∷ split 10 xs) (on_first x (split 10 xs))
      ≡ take (cond (not t) (suc (line_len xs)) 0) (x ∷ xs) ∷ cond (ltb (cond (not t) (suc (line_len xs)) 0) (suc (length xs)))
      (split 10 (drop (cond (not t) (suc (line_len xs)) 0 + 1) (x ∷ xs))) []
  on true h = rw (lt-ltb 0 (suc (length xs)) (omega arith))
  on false h =
      let m = line_len xs in
      let q : suc m + 1 ≡ suc (m + 1) = omega arith in
      let b : ltb (suc m) (suc (length xs)) ≡ ltb m (length xs) = leb-suc-suc (suc m) (length xs) in
      let d : drop (suc m + 1) (x ∷ xs) ≡ drop (m + 1) xs = ap (λ (k : ℕ). drop k (x ∷ xs)) q in
      ap (on_first x) h ∙ ap (λ (ls : List (List ℕ)). (x ∷ take m xs) ∷ ls) (sym (ap₂ (λ (t : Bool) (v : List ℕ). cond t (split 10 v) []) b d))

pub met-lines : (p : Part) (list : List ℕ)
    → met_in p (split 10 list) ≡ (met_by p (line_at list) || cond (ltb (line_len list) (length list)) (met_in p (split 10 (drop (line_len list + 1) list))) false)
unfolding met_in
met-lines p list =
    ap (met_in p) (split-line list)
    ∙ ap (λ (t : Bool). t || met_in p (cond (ltb (line_len list) (length list)) (split 10 (drop (line_len list + 1) list)) [])) (line-met p list)
    ∙ ap (λ (t : Bool). met_by p (line_at list) || t) (on (ltb (line_len list) (length list))) where
      on : (t : Bool) → met_in p (cond t (split 10 (drop (line_len list + 1) list)) []) ≡ cond t (met_in p (split 10 (drop (line_len list + 1) list))) false
      on true = refl
      on false = refl

-- ---- a list of one line
unfoldable pub is_part : Tree → Bool
is_part (leaf p) = true
is_part (and a b) = false
is_part (or a b) = false

-- a line of several parts accepts none of them
none_of : (s : List ℕ) (t : Tree) → split 10 s ≡ s ∷ [] → ((p : Part) → met p s (verdict s) ≡ false) → satisfied s t ≡ false
unfolding satisfied met_in
none_of s (leaf p) alone never = rw (alone, never p)
none_of s (and a b) alone never = rw (none_of s a alone never)
none_of s (or a b) alone never = rw (none_of s a alone never, none_of s b alone never)

pub line_itself : (s : List ℕ) (t : Tree) → split 10 s ≡ s ∷ [] → verdict s ≡ accepted t → satisfied s t ≡ (is_part t && same (spell t) s)
unfolding is_part satisfied met_in met spell
line_itself s (leaf p) alone e = whole (same (spell_part p) s) refl where
  whole : (b : Bool) → same (spell_part p) s ≡ b → satisfied s (leaf p) ≡ b
  whole true f = rw (alone, e, f, case_self p)
  whole false f = rw (alone, e, f)
line_itself s (and a b) alone e = none_of s (and a b) alone (λ p. ap (met p s) e)
line_itself s (or a b) alone e = none_of s (or a b) alone (λ p. ap (met p s) e)
