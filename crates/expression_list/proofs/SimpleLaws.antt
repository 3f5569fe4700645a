-- A line of a list by the simple expression at its front (`line-simple`), whose bytes stand in the list (`simple_fits`).
-- Assumes nothing.
use mathlib.Core.Path.{◌≡◌, refl, sym, ap, ◌∙◌}
use Prim.Native.Nat.{ℕ, zero, suc, ◌+◌, ◌≤◌}
use mathlib.Core.Bool.{Bool, true, false, cond, beq, ◌&&◌}
use mir.Val.{bool_byte}
use mathlib.Core.List.{List, [], ◌∷◌}
use mathlib.Core.Option.{Option, none}
use native.Mathlib.Omega.{arith}
use borrow.Author.Tests.{eqb-true, lt-ltb}
use lib.Dec.{eqb, ltb, eqb-suc-suc, eqb-suc-zero}
use lib.ListN.{length, take, drop, length-drop}
use lib.Seq.{drop-drop}
use Rattle.rules.specs.Bytes.{lead, starts}
use Rattle.rules.proofs.PlaceLaws.{lead-most}
use Rattle.expression.specs.Reading.{id_byte, license_ref, Kind, bare, license, reference, document, kind_of, Part}
use Rattle.expression.specs.Writing.{agree}
use Rattle.expression_bytes.specs.Front.{head_is, spelt}
use Rattle.expression_bytes.proofs.FrontLaws.{head-within, spelt-inside, drop-one}
use Rattle.expression_bytes.proofs.KindLaws.{starts-spelt}
use Rattle.std.specs.Prelude.{Result, Ok, Err}
use Rattle.expression_parts.specs.declared.names.Simple.{Simple}
use Rattle.expression_parts.specs.declared.names.Stuck.{Stuck}
use Rattle.expression_parts.specs.Simple.{simple_of, stuck_behind, idstring, after_colon, after_document, by_kind, behind_ids, simple_at}
use Rattle.expression_place.specs.Line.{colon_ref, rest_at, license_at, ref_here, document_at, kind_at, front_at, line_at}
use Rattle.expression_list.specs.Rest.{behind}

-- ---- a line by the simple expression at its front
unfoldable pub by_line : List ℕ → Result Simple Stuck → Option Part
by_line s (Ok r) = rest_at (take r.len s) r.plus (drop (behind r.len r.plus) s)
by_line s (Err k) = none

plus_starts : (s : List ℕ) → starts (43 ∷ []) s ≡ head_is 43 s
unfolding spelt head_is
plus_starts s = starts-spelt (43 ∷ []) s ∙ at s where
  on : (t : Bool) → eqb (cond t 1 0) 1 ≡ t
  on true = refl
  on false = refl

  at : (s : List ℕ) → eqb (spelt (43 ∷ []) s) 1 ≡ head_is 43 s
  at [] = refl
  at (x ∷ s) = on (eqb x 43)

colon-starts : (s : List ℕ) → starts colon_ref s ≡ (head_is 58 s && eqb (spelt license_ref (drop 1 s)) 11)
unfolding spelt head_is
colon-starts s = starts-spelt colon_ref s ∙ at s where
  at : (s : List ℕ) → eqb (spelt colon_ref s) 12 ≡ (head_is 58 s && eqb (spelt license_ref (drop 1 s)) 11)
  at [] = refl
  at (x ∷ s) = on (eqb x 58) (spelt license_ref s) where
    on : (t : Bool) (k : ℕ) → eqb (cond t (suc k) 0) 12 ≡ (t && eqb k 11)
    on true k = eqb-suc-suc k 11
    on false k = refl

past-ref : (s : List ℕ) (n : ℕ) → drop 11 (drop 1 (drop n s)) ≡ drop (n + 12) s
past-ref s n =
    let q : n + 1 + 11 ≡ n + 12 = omega arith in
    ap (drop 11) (drop-one n s) ∙ drop-drop 11 (n + 1) s ∙ ap (λ (m : ℕ). drop m s) q

module _ (s : List ℕ) (n : ℕ) where
  license-line : license_at s n ≡ by_line s (simple_of n (head_is 43 (drop n s)))
  unfolding license_at by_line behind
  license-line = rw (plus_starts (drop n s)) (on (head_is 43 (drop n s))) where
    on : (t : Bool) → cond t (rest_at (take n s) true (drop (n + 1) s)) (rest_at (take n s) false (drop n s)) ≡ rest_at (take n s) t (drop (behind n t) s)
    on true = refl
    on false = refl

  document-line : document_at s n ≡ by_line s (after_document n (drop n s))
  unfolding document_at ref_here after_document after_colon idstring by_line behind
  document-line = rw (colon-starts (drop n s), past-ref s n)
      (on (head_is 58 (drop n s)) (eqb (spelt license_ref (drop 1 (drop n s))) 11) (lead id_byte (drop (n + 12) s)) (spelt license_ref (drop 1 (drop n s)))) where
        on : (a b : Bool) (k m : ℕ) → cond (a && b) (cond (ltb 0 k) (rest_at (take (n + 12 + k) s) false (drop (n + 12 + k) s)) none) none
            ≡ by_line s (cond a (cond b (cond (eqb k 0) (stuck_behind (n + 12)) (simple_of (n + 12 + k) false)) (stuck_behind (n + 1 + m))) (stuck_behind n))
        on true true zero m = refl
        on true true (suc k) m = rw (eqb-suc-zero k, lt-ltb 0 (suc k) (omega arith))
        on true false k m = refl
        on false b k m = refl

  kind-line : (k : Kind) → kind_at k s n ≡ by_line s (by_kind k n (drop n s))
  unfolding kind_at by_kind by_line behind
  kind-line bare = refl
  kind-line license = license-line
  kind-line reference = refl
  kind-line document = document-line

  front-line : front_at s n ≡ by_line s (behind_ids n s)
  unfolding front_at behind_ids by_line
  front-line = on (eqb n 0) where
    on : (t : Bool) → cond t none (kind_at (kind_of (take n s)) s n) ≡ by_line s (cond t (stuck_behind 0) (by_kind (kind_of (take n s)) n (drop n s)))
    on true = refl
    on false = kind-line (kind_of (take n s))

pub line-simple : (s : List ℕ) → line_at s ≡ by_line s (simple_at s)
unfolding line_at simple_at
line-simple s = front-line s (lead id_byte s)

-- ---- its identifier and + stand in the list
abbrev pub Fits : List ℕ → Result Simple Stuck → Type 0
Fits s (Ok r) = behind r.len r.plus ≤ length s
Fits s (Err k) = Unit {0}

module _ (s : List ℕ) (n : ℕ) (h : n ≤ length s) where
  license_fits : Fits s (simple_of n (head_is 43 (drop n s)))
  unfolding behind
  license_fits = on (head_is 43 (drop n s)) refl where
    on : (t : Bool) → head_is 43 (drop n s) ≡ t → behind n t ≤ length s
    on true e = let k = head-within s n 43 e in omega arith
    on false e = h

  document_fits : Fits s (after_document n (drop n s))
  unfolding after_document after_colon idstring behind
  document_fits = on (head_is 58 (drop n s)) refl (eqb (spelt license_ref d) 11) refl (eqb m 0) where
    d : List ℕ
    d = drop 1 (drop n s)

    m : ℕ
    m = lead id_byte (drop 11 d)

    on : (a : Bool) → head_is 58 (drop n s) ≡ a → (b : Bool) → eqb (spelt license_ref d) 11 ≡ b → (c : Bool)
        → Fits s (cond a (cond b (cond c (stuck_behind (n + 12)) (simple_of (n + 12 + m) false)) (stuck_behind (n + 1 + spelt license_ref d))) (stuck_behind n))
    on true e true f true = tt
    on true e true f false =
        let i = head-within s n 58 e in
        let k = eqb-true (spelt license_ref d) 11 f in
        omega (arith, spelt-inside license_ref d, lead-most id_byte (drop 11 d), length-drop 11 d, length-drop 1 (drop n s), length-drop n s)
    on true e false f c = tt
    on false e b f c = tt

  kind_fits : (k : Kind) → Fits s (by_kind k n (drop n s))
  unfolding by_kind behind
  kind_fits bare = tt
  kind_fits license = license_fits
  kind_fits reference = h
  kind_fits document = document_fits

pub simple_fits : (s : List ℕ) → Fits s (simple_at s)
unfolding simple_at behind_ids
simple_fits s = on (eqb n 0) where
  n : ℕ
  n = lead id_byte s

  on : (t : Bool) → Fits s (cond t (stuck_behind 0) (by_kind (kind_of (take n s)) n (drop n s)))
  on true = tt
  on false = kind_fits s n (lead-most id_byte s) (kind_of (take n s))

pub behind_byte : (n : ℕ) (t : Bool) → n + bool_byte t ≡ behind n t
unfolding behind
behind_byte n true = refl
behind_byte n false = omega arith

pub agree_beq : (a b : Bool) → agree a b ≡ beq a b
unfolding agree
agree_beq true true = refl
agree_beq true false = refl
agree_beq false true = refl
agree_beq false false = refl

pub behind_least : (n : ℕ) (t : Bool) → n ≤ behind n t
unfolding behind
behind_least n true = omega arith
behind_least n false = omega arith

-- at a place of the list
module _ (l : List ℕ) (i n : ℕ) where
  pub behind_add : (t : Bool) → behind (i + n) t ≡ i + behind n t
  unfolding behind
  behind_add true = omega arith
  behind_add false = refl

  pub behind-drop : (t : Bool) → drop (behind n t) (drop i l) ≡ drop (behind (i + n) t) l
  behind-drop t = drop-drop (behind n t) i l ∙ ap (λ (m : ℕ). drop m l) (sym (behind_add t))
