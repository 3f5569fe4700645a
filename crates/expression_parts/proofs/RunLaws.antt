-- A run over a simple expression at the front of a text, and over what stands behind an operand: by the counts that the code takes.
-- Assumes nothing.
use mathlib.Core.Path.{◌≡◌, refl, sym, ap, ◌∙◌}
use Prim.Native.Nat.{ℕ, zero, suc, ◌+◌, ◌≤◌, ◌<◌}
use mathlib.Core.Bool.{Bool, true, false, cond}
use mathlib.Core.List.{List, [], ◌∷◌, ◌++◌, append_assoc}
use native.Mathlib.Nat.{suc-add}
use native.Mathlib.Omega.{arith}
use borrow.Author.Tests.{eqb-true, eq-eqb}
use lib.Dec.{eqb}
use lib.ListN.{length, drop, take, length-drop}
use lib.Seq.{drop-drop}
use lib.Arith.{lt_of_le-ne}
use Rattle.rules.specs.Bytes.{lead}
use Rattle.expression.specs.Reading.{id_byte, Kind, bare, license, reference, document, kind_of, Level, Ctl, to, Verdict, refused, next, stop, run, license_ref}
use Rattle.rules.proofs.PlaceLaws.{lead-most}
use Rattle.expression_bytes.specs.Front.{head_is, head_id, spelt}
use Rattle.expression.proofs.WordLaws.{id_not}
use Rattle.expression_bytes.proofs.FrontLaws.{false_true, id-stop, spelt-most, spelt-inside, head-within}
use Rattle.expression_bytes.proofs.KindLaws.{spelt-take}
use Rattle.expression_bytes.proofs.StateLaws as state
use Rattle.std.specs.Prelude.{Result, Ok, Err}
use Rattle.expression_parts.specs.declared.names.Simple.{Simple}
use Rattle.expression_parts.specs.declared.names.Stuck.{Stuck}
use Rattle.expression_parts.specs.Simple.{simple_of, stuck_behind, idstring, after_colon, after_document, by_kind, behind_ids, simple_at}

-- ---- identifiers begin and go on
pub exc-starts : (w : List ℕ) (t : Bool) (l : Level) (fs : List Level) (b : ℕ) → id_byte b ≡ true → next (Ctl.exc_due w t) l fs b ≡ to (Ctl.exc w t (b ∷ [])) l fs
unfolding next
exc-starts w t l fs b i = rw (id_not b 32 (state.no-id).0 i, i)

pub exc-more : (w : List ℕ) (t : Bool) (x : List ℕ) (l : Level) (fs : List Level) (b : ℕ) → id_byte b ≡ true → next (Ctl.exc w t x) l fs b ≡ to (Ctl.exc w t (x ++ b ∷ [])) l fs
unfolding next
exc-more w t x l fs b i = rw i

name-starts : (l : Level) (fs : List Level) (b : ℕ) → id_byte b ≡ true → next Ctl.want l fs b ≡ to (Ctl.name (b ∷ [])) l fs
unfolding next
name-starts l fs b i = rw (id_not b 32 (state.no-id).0 i, id_not b 40 (state.no-id).1 i, i)

name-more : (w : List ℕ) (l : Level) (fs : List Level) (b : ℕ) → id_byte b ≡ true → next (Ctl.name w) l fs b ≡ to (Ctl.name (w ++ b ∷ [])) l fs
unfolding next
name-more w l fs b i = rw i

colon-starts : (w : List ℕ) (l : Level) (fs : List Level) (b : ℕ) → id_byte b ≡ true → next (Ctl.colon w []) l fs b ≡ to (Ctl.ref (w ++ b ∷ [])) l fs
unfolding next
colon-starts w l fs b i = rw i

ref-more : (w : List ℕ) (l : Level) (fs : List Level) (b : ℕ) → id_byte b ≡ true → next (Ctl.ref w) l fs b ≡ to (Ctl.ref (w ++ b ∷ [])) l fs
unfolding next
ref-more w l fs b i = rw i

-- ---- the bytes of a document's license-ref
take_none : (b : ℕ) → take {A = ℕ} b [] ≡ []
take_none zero = refl
take_none (suc b) = refl

take_more : (a b : ℕ) (s : List ℕ) → take (a + b) s ≡ take a s ++ take b (drop a s)
take_more zero b s = let q : 0 + b ≡ b = omega arith in rw q
take_more (suc a) b [] = ap (λ (k : ℕ). take k []) (suc-add a b) ∙ sym (take_none b)
take_more (suc a) b (x ∷ s) = ap (λ (k : ℕ). take k (x ∷ s)) (suc-add a b) ∙ ap (λ (t : List ℕ). x ∷ t) (take_more a b s)

head-take : (b : ℕ) (s : List ℕ) → head_is b s ≡ true → take 1 s ≡ b ∷ []
unfolding head_is
head-take b [] e = false_true e
head-take b (x ∷ s) e = rw (eqb-true x b e)

ref-bytes : (s : List ℕ) (n m : ℕ) → head_is 58 (drop n s) ≡ true → spelt license_ref (drop (n + 1) s) ≡ 11 → ((take n s ++ 58 ∷ []) ++ license_ref) ++ take m (drop (n + 1 + 11) s) ≡ take (n + 12 + m) s
ref-bytes s n m h e =
    let q : n + 12 + m ≡ n + 1 + 11 + m = omega arith in
    sym (ap (λ (k : ℕ). take k s) q ∙ take_more (n + 1 + 11) m s ∙ rw (take_more (n + 1) 11 s, take_more n 1 s, head-take 58 (drop n s) h, spelt-take license_ref (drop (n + 1) s) e))

-- ---- a simple expression
below : (k n : ℕ) → k ≤ n → eqb k n ≡ false → k < n
below k n h e = less (λ z. false_true (sym e ∙ eq-eqb k n z))
  where
    less : (k ≡ n → ⊥) → k < n
    less z = lt_of_le-ne h z

no_ids : (s : List ℕ) → lead id_byte s ≡ 0 → head_id s ≡ false
no_ids s z = ap (λ (n : ℕ). head_id (drop n s)) (sym z) ∙ id-stop s

positive : (n : ℕ) → (n ≡ 0 → ⊥) → 0 < n
positive zero h = absurd (h refl)
positive (suc n) h = omega arith

unfoldable pub plus_len : Bool → ℕ
plus_len true = 1
plus_len false = 0

-- the verdict behind it, at the place p
unfoldable pub told : List ℕ → Level → List Level → ℕ → Result Simple Stuck → Verdict
told s l fs p (Ok r) = run (drop (r.len + plus_len r.plus) s) (Ctl.simple (take r.len s) r.plus) l fs (p + (r.len + plus_len r.plus))
told s l fs p (Err k) = refused 13 (p + k.len)

module _ (s : List ℕ) (l : Level) (fs : List Level) (p : ℕ) where
  at_same : (c : Ctl) {a b i j : ℕ} → a ≡ b → i ≡ j → run (drop a s) c l fs i ≡ run (drop b s) c l fs j
  at_same c e f = rw (e, f)

  module _ (n : ℕ) (stops : head_id (drop n s) ≡ false) where
    in_ref : (m : ℕ) → m ≡ lead id_byte (drop (n + 1 + 11) s) → head_is 58 (drop n s) ≡ true → spelt license_ref (drop (n + 1) s) ≡ 11 → (t : Bool) → eqb m 0 ≡ t → run (drop (n + 1 + 11) s) (Ctl.colon ((take n s ++ 58 ∷ []) ++ license_ref) []) l fs (p + n + 1 + 11) ≡ told s l fs p (cond t (stuck_behind (n + 12)) (simple_of (n + 12 + m) false))
    unfolding told plus_len
    in_ref m e h k true f =
        let z : m ≡ 0 = eqb-true m 0 f in
        let y : lead id_byte (drop (n + 1 + 11) s) ≡ 0 = sym e ∙ z in
        let q : p + n + 1 + 11 ≡ p + (n + 12) = omega arith in
        state.colon-stuck (drop (n + 1 + 11) s) ((take n s ++ 58 ∷ []) ++ license_ref) l fs (p + n + 1 + 11) (no_ids (drop (n + 1 + 11) s) y) ∙ ap (refused 13) q
    in_ref m e h k false f =
        let r = drop (n + 1 + 11) s in
        let w = (take n s ++ 58 ∷ []) ++ license_ref in
        let i : 0 < lead id_byte r = positive (lead id_byte r) (λ z. false_true (sym f ∙ eq-eqb m 0 (e ∙ z))) in
        let q : n + 1 + 11 + m ≡ n + 12 + m + 0 = omega arith in
        let q2 : p + n + 1 + 11 + m ≡ p + (n + 12 + m + 0) = omega arith in
        let there : run (drop (lead id_byte r) r) (Ctl.simple (w ++ take (lead id_byte r) r) false) l fs (p + n + 1 + 11 + lead id_byte r) ≡ run (drop (n + 1 + 11 + m) s) (Ctl.simple (take (n + 12 + m) s) false) l fs (p + n + 1 + 11 + m) = rw (← e, drop-drop m (n + 1 + 11) s, ref-bytes s n m h k) in
        state.ids_begin (Ctl.colon w []) (λ u. Ctl.ref (w ++ u)) (colon-starts w) (λ u l' fs' b j. ref-more (w ++ u) l' fs' b j ∙ ap (λ (v : List ℕ). to (Ctl.ref v) l' fs') (append_assoc w u (b ∷ []))) r l fs (p + n + 1 + 11) i
        ∙ state.leave-ref (drop (lead id_byte r) r) (w ++ take (lead id_byte r) r) l fs (p + n + 1 + 11 + lead id_byte r) (id-stop r)
        ∙ there
        ∙ at_same (Ctl.simple (take (n + 12 + m) s) false) q q2

    in_document : (t : Bool) → head_is 58 (drop n s) ≡ t → kind_of (take n s) ≡ document → run (drop n s) (Ctl.name (take n s)) l fs (p + n) ≡ told s l fs p (cond t (after_colon n (drop 1 (drop n s))) (stuck_behind n))
    unfolding told after_colon idstring next stop
    in_document false h k = state.leave_3 (drop n s) (take n s) l fs (p + n) stops (sym k) h
    in_document true h k = rw (drop-drop 1 n s) (colon (eqb (spelt license_ref (drop (n + 1) s)) 11) refl)
      where
        colon : (u : Bool) → eqb (spelt license_ref (drop (n + 1) s)) 11 ≡ u → run (drop n s) (Ctl.name (take n s)) l fs (p + n) ≡ told s l fs p (cond u (cond (eqb (lead id_byte (drop 11 (drop (n + 1) s))) 0) (stuck_behind (n + 12)) (simple_of (n + 12 + lead id_byte (drop 11 (drop (n + 1) s))) false)) (stuck_behind (n + 1 + spelt license_ref (drop (n + 1) s))))
        colon true f =
            let k11 : spelt license_ref (drop (n + 1) s) ≡ 11 = eqb-true (spelt license_ref (drop (n + 1) s)) 11 f in
            let d : drop 11 (drop (n + 1) s) ≡ drop (n + 1 + 11) s = drop-drop 11 (n + 1) s in
            let first : run (drop n s) (Ctl.name (take n s)) l fs (p + n) ≡ run (drop (n + 1) s) (Ctl.colon (take n s ++ 58 ∷ []) license_ref) l fs (p + n + 1) = state.leave-colon (drop n s) (take n s) l fs (p + n) stops (sym k) h ∙ ap (λ (r : List ℕ). run r (Ctl.colon (take n s ++ 58 ∷ []) license_ref) l fs (p + n + 1)) (drop-drop 1 n s) in
            let second : run (drop (n + 1) s) (Ctl.colon (take n s ++ 58 ∷ []) license_ref) l fs (p + n + 1) ≡ run (drop (n + 1 + 11) s) (Ctl.colon ((take n s ++ 58 ∷ []) ++ license_ref) []) l fs (p + n + 1 + 11) = state.all_letters Ctl.colon (λ r a ws l' fs' x. refl) license_ref (drop (n + 1) s) (take n s ++ 58 ∷ []) l fs (p + n + 1) k11 ∙ ap (λ (r : List ℕ). run r (Ctl.colon ((take n s ++ 58 ∷ []) ++ license_ref) []) l fs (p + n + 1 + 11)) d in
            first ∙ second ∙ rw d (in_ref (lead id_byte (drop (n + 1 + 11) s)) refl h k11 (eqb (lead id_byte (drop (n + 1 + 11) s)) 0) refl)
        colon false f =
            let less : spelt license_ref (drop (n + 1) s) < 11 = below (spelt license_ref (drop (n + 1) s)) 11 (spelt-most license_ref (drop (n + 1) s)) f in
            let first : run (drop n s) (Ctl.name (take n s)) l fs (p + n) ≡ run (drop (n + 1) s) (Ctl.colon (take n s ++ 58 ∷ []) license_ref) l fs (p + n + 1) = state.leave-colon (drop n s) (take n s) l fs (p + n) stops (sym k) h ∙ ap (λ (r : List ℕ). run r (Ctl.colon (take n s ++ 58 ∷ []) license_ref) l fs (p + n + 1)) (drop-drop 1 n s) in
            let q : p + n + 1 + spelt license_ref (drop (n + 1) s) ≡ p + (n + 1 + spelt license_ref (drop (n + 1) s)) = omega arith in
            first ∙ state.short_letters Ctl.colon (λ r a ws l' fs' x. refl) (λ r a ws l' fs' i. refl) license_ref (drop (n + 1) s) (take n s ++ 58 ∷ []) l fs (p + n + 1) less ∙ ap (refused 13) q

    by_kind_lem : (k : Kind) → kind_of (take n s) ≡ k → run (drop n s) (Ctl.name (take n s)) l fs (p + n) ≡ told s l fs p (by_kind k n (drop n s))
    unfolding by_kind told plus_len after_document
    by_kind_lem bare k = state.leave_0 (drop n s) (take n s) l fs (p + n) stops (sym k)
    by_kind_lem license k = plus (head_is 43 (drop n s)) refl
      where
        plus : (t : Bool) → head_is 43 (drop n s) ≡ t → run (drop n s) (Ctl.name (take n s)) l fs (p + n) ≡ told s l fs p (simple_of n t)
        plus true h =
            let q : p + n + 1 ≡ p + (n + 1) = omega arith in
            state.leave_plus (drop n s) (take n s) l fs (p + n) stops (sym k) h ∙ rw (drop-drop 1 n s, q)
        plus false h =
            let q : n ≡ n + 0 = omega arith in
            let q2 : p + n ≡ p + (n + 0) = omega arith in
            state.leave_1 (drop n s) (take n s) l fs (p + n) stops (sym k) h ∙ at_same (Ctl.simple (take n s) false) q q2
    by_kind_lem reference k =
        let q : n ≡ n + 0 = omega arith in
        let q2 : p + n ≡ p + (n + 0) = omega arith in
        state.leave_2 (drop n s) (take n s) l fs (p + n) stops (sym k) ∙ at_same (Ctl.simple (take n s) false) q q2
    by_kind_lem document k = in_document (head_is 58 (drop n s)) refl k

  -- where neither a blank nor a parenthesis stands, what is read is a simple expression
  pub simple-run : head_is 32 s ≡ false → head_is 40 s ≡ false → run s Ctl.want l fs p ≡ told s l fs p (simple_at s)
  unfolding simple_at behind_ids told
  simple-run b o = ids (eqb (lead id_byte s) 0) refl
    where
      ids : (t : Bool) → eqb (lead id_byte s) 0 ≡ t → run s Ctl.want l fs p ≡ told s l fs p (cond t (stuck_behind 0) (by_kind (kind_of (take (lead id_byte s) s)) (lead id_byte s) (drop (lead id_byte s) s)))
      ids true e =
          let q : p ≡ p + 0 = omega arith in
          state.want-stuck s l fs p (no_ids s (eqb-true (lead id_byte s) 0 e)) b o ∙ ap (refused 13) q
      ids false e =
          state.ids_begin Ctl.want Ctl.name name-starts name-more s l fs p (positive (lead id_byte s) (λ z. false_true (sym e ∙ eq-eqb (lead id_byte s) 0 z)))
          ∙ by_kind_lem (lead id_byte s) (id-stop s) (kind_of (take (lead id_byte s) s)) refl

-- ---- its bytes stand in the text
abbrev pub Fits : ℕ → Result Simple Stuck → Type 0
Fits m (Ok r) = (1 ≤ r.len) × (r.len + plus_len r.plus ≤ m)
Fits m (Err k) = k.len ≤ m

module _ (s : List ℕ) (n : ℕ) (some : 1 ≤ n) (in-s : n ≤ length s) where
  ref_fits : (m : ℕ) → n + 12 + m ≤ length s → (t : Bool) → Fits (length s) (cond t (stuck_behind (n + 12)) (simple_of (n + 12 + m) false))
  unfolding plus_len
  ref_fits m h true = omega arith
  ref_fits m h false = (omega arith, omega arith)

  document_fits : (t : Bool) → head_is 58 (drop n s) ≡ t → Fits (length s) (cond t (after_colon n (drop 1 (drop n s))) (stuck_behind n))
  unfolding after_colon idstring
  document_fits false h = in-s
  document_fits true h = rw (drop-drop 1 n s) (colon (eqb (spelt license_ref (drop (n + 1) s)) 11) refl)
    where
      colon : (u : Bool) → eqb (spelt license_ref (drop (n + 1) s)) 11 ≡ u → Fits (length s) (cond u (cond (eqb (lead id_byte (drop 11 (drop (n + 1) s))) 0) (stuck_behind (n + 12)) (simple_of (n + 12 + lead id_byte (drop 11 (drop (n + 1) s))) false)) (stuck_behind (n + 1 + spelt license_ref (drop (n + 1) s))))
      colon true f =
          ref_fits (lead id_byte (drop 11 (drop (n + 1) s)))
          (omega (arith, eqb-true (spelt license_ref (drop (n + 1) s)) 11 f, head-within s n 58 h, spelt-inside license_ref (drop (n + 1) s), length-drop (n + 1) s, lead-most id_byte (drop 11 (drop (n + 1) s)), length-drop 11 (drop (n + 1) s)))
          (eqb (lead id_byte (drop 11 (drop (n + 1) s))) 0)
      colon false f = omega (arith, head-within s n 58 h, spelt-inside license_ref (drop (n + 1) s), length-drop (n + 1) s)

  kind_fits : (k : Kind) → Fits (length s) (by_kind k n (drop n s))
  unfolding by_kind after_document plus_len
  kind_fits bare = in-s
  kind_fits license = (some, plus (head_is 43 (drop n s)) refl)
    where
      plus : (t : Bool) → head_is 43 (drop n s) ≡ t → n + plus_len t ≤ length s
      plus true h = omega (arith, head-within s n 43 h)
      plus false h = omega arith
  kind_fits reference = (some, omega arith)
  kind_fits document = document_fits (head_is 58 (drop n s)) refl

pub simple_fits : (s : List ℕ) → Fits (length s) (simple_at s)
unfolding simple_at behind_ids
simple_fits s = ids (eqb (lead id_byte s) 0) refl
  where
    ids : (t : Bool) → eqb (lead id_byte s) 0 ≡ t → Fits (length s) (cond t (stuck_behind 0) (by_kind (kind_of (take (lead id_byte s) s)) (lead id_byte s) (drop (lead id_byte s) s)))
    ids true e = omega arith
    ids false e = kind_fits s (lead id_byte s) (positive (lead id_byte s) (λ z. false_true (sym e ∙ eq-eqb (lead id_byte s) 0 z))) (lead-most id_byte s) (kind_of (take (lead id_byte s) s))

pub fits_as : (s : List ℕ) {q r : Result Simple Stuck} → q ≡ simple_at s → q ≡ r → Fits (length s) r
fits_as s e f = rw (← f, e) (simple_fits s)
