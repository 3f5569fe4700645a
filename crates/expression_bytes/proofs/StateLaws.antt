-- What a run does from each state, by what stands at the front of the rest of the text.
-- Assumes nothing.
use mathlib.Core.Path.{◌≡◌, refl, ◌∙◌}
use Prim.Native.Nat.{ℕ, suc, ◌+◌, ◌≤◌, ◌<◌}
use mathlib.Core.Bool.{Bool, true, false, cond}
use mathlib.Core.List.{List, [], ◌∷◌, ◌++◌, append_assoc, append-nil}
use native.Mathlib.Omega.{arith}
use borrow.Author.Tests.{eqb-true}
use lib.Dec.{eqb}
use lib.ListN.{length, drop, take}
use Rattle.rules.specs.Bytes.{lead, within}
use Rattle.expression.specs.Reading.{id_byte, is_word, Kind, kind_of, part, Tree, Level, Ctl, dead, to, refused, at_ended, at_done, at_simple, leave, next, of_kind, stop, follow, run, license_ref}
use Rattle.expression_bytes.specs.Front.{head_is, head_id, spelt, ending}
use Rattle.expression_bytes.proofs.FrontLaws.{false_true}

pub no-id : (id_byte 32 ≡ false) × (id_byte 40 ≡ false)
unfolding id_byte within
no-id = (refl, refl)

-- the byte b at the front
pub step : (s : List ℕ) (c : Ctl) (l : Level) (fs : List Level) (p b : ℕ) → head_is b s ≡ true → run s c l fs p ≡ follow p (λ c' l' fs'. run (drop 1 s) c' l' fs' (p + 1)) (next c l fs b)
unfolding head_is run drop
step [] c l fs p b e = false_true e
step (x ∷ xs) c l fs p b e = rw (eqb-true x b e)

-- ---- runs of bytes
one-id : (c : List ℕ → Ctl) (x : ℕ) (s w : List ℕ) (l : Level) (fs : List Level) (p : ℕ) → ((l' : Level) (fs' : List Level) → id_byte x ≡ true → next (c w) l' fs' x ≡ to (c (w ++ x ∷ [])) l' fs') → (run s (c (w ++ x ∷ [])) l fs (p + 1) ≡ run (drop (lead id_byte s) s) (c ((w ++ x ∷ []) ++ take (lead id_byte s) s)) l fs (p + 1 + lead id_byte s)) → (t : Bool) → id_byte x ≡ t → run (x ∷ s) (c w) l fs p ≡ run (drop (cond t (suc (lead id_byte s)) 0) (x ∷ s)) (c (w ++ take (cond t (suc (lead id_byte s)) 0) (x ∷ s))) l fs (p + cond t (suc (lead id_byte s)) 0)
unfolding run follow
one-id c x s w l fs p h i true e = let q : p + 1 + lead id_byte s ≡ p + suc (lead id_byte s) = omega arith in rw (h l fs e) (i ∙ rw (append_assoc w (x ∷ []) (take (lead id_byte s) s), q))
one-id c x s w l fs p h i false e = let q : p + 0 ≡ p = omega arith in rw (append-nil w, q)

pub ids_run : (c : List ℕ → Ctl) → ((w : List ℕ) (l : Level) (fs : List Level) (b : ℕ) → id_byte b ≡ true → next (c w) l fs b ≡ to (c (w ++ b ∷ [])) l fs) → (s w : List ℕ) (l : Level) (fs : List Level) (p : ℕ) → run s (c w) l fs p ≡ run (drop (lead id_byte s) s) (c (w ++ take (lead id_byte s) s)) l fs (p + lead id_byte s)
unfolding lead
ids_run c h [] w l fs p = let q : p + 0 ≡ p = omega arith in rw (append-nil w, q)
ids_run c h (x ∷ s) w l fs p = one-id c x s w l fs p (λ l' fs' e. h w l' fs' x e) (ids_run c h s (w ++ x ∷ []) l fs (p + 1)) (id_byte x) refl

begin_id : (c0 : Ctl) (c : List ℕ → Ctl) (x : ℕ) (s : List ℕ) (l : Level) (fs : List Level) (p : ℕ) → (id_byte x ≡ true → next c0 l fs x ≡ to (c (x ∷ [])) l fs) → (run s (c (x ∷ [])) l fs (p + 1) ≡ run (drop (lead id_byte s) s) (c ((x ∷ []) ++ take (lead id_byte s) s)) l fs (p + 1 + lead id_byte s)) → (t : Bool) → id_byte x ≡ t → 0 < cond t (suc (lead id_byte s)) 0 → run (x ∷ s) c0 l fs p ≡ run (drop (cond t (suc (lead id_byte s)) 0) (x ∷ s)) (c (take (cond t (suc (lead id_byte s)) 0) (x ∷ s))) l fs (p + cond t (suc (lead id_byte s)) 0)
unfolding run follow
begin_id c0 c x s l fs p h i true e k = let q : p + 1 + lead id_byte s ≡ p + suc (lead id_byte s) = omega arith in rw (h e) (i ∙ rw q)
begin_id c0 c x s l fs p h i false e k = absurd (omega (arith, k))

pub ids_begin : (c0 : Ctl) (c : List ℕ → Ctl) → ((l : Level) (fs : List Level) (b : ℕ) → id_byte b ≡ true → next c0 l fs b ≡ to (c (b ∷ [])) l fs) → ((w : List ℕ) (l : Level) (fs : List Level) (b : ℕ) → id_byte b ≡ true → next (c w) l fs b ≡ to (c (w ++ b ∷ [])) l fs) → (s : List ℕ) (l : Level) (fs : List Level) (p : ℕ) → 0 < lead id_byte s → run s c0 l fs p ≡ run (drop (lead id_byte s) s) (c (take (lead id_byte s) s)) l fs (p + lead id_byte s)
unfolding lead
ids_begin c0 c h0 h [] l fs p k = absurd (omega (arith, k))
ids_begin c0 c h0 h (x ∷ s) l fs p k = begin_id c0 c x s l fs p (λ e. h0 l fs x e) (ids_run c h s (x ∷ []) l fs (p + 1)) (id_byte x) refl k

one-blank : (c : Ctl) (x : ℕ) (s : List ℕ) (l : Level) (fs : List Level) (p : ℕ) → next c l fs 32 ≡ to c l fs → (run s c l fs (p + 1) ≡ run (drop (lead (eqb 32) s) s) c l fs (p + 1 + lead (eqb 32) s)) → (t : Bool) → eqb 32 x ≡ t → run (x ∷ s) c l fs p ≡ run (drop (cond t (suc (lead (eqb 32) s)) 0) (x ∷ s)) c l fs (p + cond t (suc (lead (eqb 32) s)) 0)
unfolding run follow
one-blank c x s l fs p h i true e = let q : p + 1 + lead (eqb 32) s ≡ p + suc (lead (eqb 32) s) = omega arith in rw (← eqb-true 32 x e, h) (i ∙ rw q)
one-blank c x s l fs p h i false e = let q : p + 0 ≡ p = omega arith in rw q

pub blank-run : (c : Ctl) (l : Level) (fs : List Level) → next c l fs 32 ≡ to c l fs → (s : List ℕ) (p : ℕ) → run s c l fs p ≡ run (drop (lead (eqb 32) s) s) c l fs (p + lead (eqb 32) s)
unfolding lead
blank-run c l fs h [] p = let q : p + 0 ≡ p = omega arith in rw q
blank-run c l fs h (x ∷ s) p = one-blank c x s l fs p h (blank-run c l fs h s (p + 1)) (eqb 32 x) refl

-- ---- letters of a word that is due; c r ws: r is read, ws to come
one_letter : (c : List ℕ → List ℕ → Ctl) (w : ℕ) (ws : List ℕ) (x : ℕ) (s r : List ℕ) (l : Level) (fs : List Level) (p : ℕ) → (next (c r (w ∷ ws)) l fs x ≡ cond (eqb x w) (to (c (r ++ w ∷ []) ws) l fs) dead) → (spelt ws s ≡ length ws → run s (c (r ++ w ∷ []) ws) l fs (p + 1) ≡ run (drop (length ws) s) (c ((r ++ w ∷ []) ++ ws) []) l fs (p + 1 + length ws)) → (t : Bool) → eqb x w ≡ t → cond t (suc (spelt ws s)) 0 ≡ suc (length ws) → run (x ∷ s) (c r (w ∷ ws)) l fs p ≡ run (drop (length ws) s) (c (r ++ w ∷ ws) []) l fs (p + suc (length ws))
unfolding run follow
one_letter c w ws x s r l fs p h i true e k = let q : p + 1 + length ws ≡ p + suc (length ws) = omega arith in rw (h, e) (i (omega (arith, k)) ∙ rw (append_assoc r (w ∷ []) ws, q))
one_letter c w ws x s r l fs p h i false e k = absurd (omega (arith, k))

pub all_letters : (c : List ℕ → List ℕ → Ctl) → ((r : List ℕ) (w : ℕ) (ws : List ℕ) (l : Level) (fs : List Level) (x : ℕ) → next (c r (w ∷ ws)) l fs x ≡ cond (eqb x w) (to (c (r ++ w ∷ []) ws) l fs) dead) → (ws s r : List ℕ) (l : Level) (fs : List Level) (p : ℕ) → spelt ws s ≡ length ws → run s (c r ws) l fs p ≡ run (drop (length ws) s) (c (r ++ ws) []) l fs (p + length ws)
unfolding spelt
all_letters c h [] s r l fs p e = let q : p + 0 ≡ p = omega arith in rw (append-nil r, q)
all_letters c h (w ∷ ws) [] r l fs p e = absurd (omega (arith, e))
all_letters c h (w ∷ ws) (x ∷ s) r l fs p e = one_letter c w ws x s r l fs p (h r w ws l fs x) (λ k. all_letters c h ws s (r ++ w ∷ []) l fs (p + 1) k) (eqb x w) refl e

one-short : (c : List ℕ → List ℕ → Ctl) (w : ℕ) (ws : List ℕ) (x : ℕ) (s r : List ℕ) (l : Level) (fs : List Level) (p : ℕ) → (next (c r (w ∷ ws)) l fs x ≡ cond (eqb x w) (to (c (r ++ w ∷ []) ws) l fs) dead) → (spelt ws s < length ws → run s (c (r ++ w ∷ []) ws) l fs (p + 1) ≡ refused 13 (p + 1 + spelt ws s)) → (t : Bool) → eqb x w ≡ t → cond t (suc (spelt ws s)) 0 < suc (length ws) → run (x ∷ s) (c r (w ∷ ws)) l fs p ≡ refused 13 (p + cond t (suc (spelt ws s)) 0)
unfolding run follow
one-short c w ws x s r l fs p h i true e k = let q : p + 1 + spelt ws s ≡ p + suc (spelt ws s) = omega arith in rw (h, e) (i (omega (arith, k)) ∙ rw q)
one-short c w ws x s r l fs p h i false e k = let q : p + 0 ≡ p = omega arith in rw (h, e, q)

pub short_letters : (c : List ℕ → List ℕ → Ctl) → ((r : List ℕ) (w : ℕ) (ws : List ℕ) (l : Level) (fs : List Level) (x : ℕ) → next (c r (w ∷ ws)) l fs x ≡ cond (eqb x w) (to (c (r ++ w ∷ []) ws) l fs) dead) → ((r : List ℕ) (w : ℕ) (ws : List ℕ) (l : Level) (fs : List Level) (p : ℕ) → stop (c r (w ∷ ws)) l fs p ≡ refused 13 p) → (ws s r : List ℕ) (l : Level) (fs : List Level) (p : ℕ) → spelt ws s < length ws → run s (c r ws) l fs p ≡ refused 13 (p + spelt ws s)
unfolding spelt run
short_letters c h f [] s r l fs p e = absurd (omega (arith, e))
short_letters c h f (w ∷ ws) [] r l fs p e = let q : p + 0 ≡ p = omega arith in rw (f r w ws l fs p, q)
short_letters c h f (w ∷ ws) (x ∷ s) r l fs p e = one-short c w ws x s r l fs p (h r w ws l fs x) (λ k. short_letters c h f ws s (r ++ w ∷ []) l fs (p + 1) k) (eqb x w) refl e

-- ---- leaving an identifier
pub leave_0 : (s w : List ℕ) (l : Level) (fs : List Level) (p : ℕ) → head_id s ≡ false → Kind.bare ≡ kind_of w → run s (Ctl.name w) l fs p ≡ refused 13 p
unfolding head_id run next follow stop leave of_kind
leave_0 [] w l fs p h k = rw (← k)
leave_0 (x ∷ s) w l fs p h k = rw (h, ← k)

pub leave_2 : (s w : List ℕ) (l : Level) (fs : List Level) (p : ℕ) → head_id s ≡ false → Kind.reference ≡ kind_of w → run s (Ctl.name w) l fs p ≡ run s (Ctl.simple w false) l fs p
unfolding head_id run next follow stop leave of_kind
leave_2 [] w l fs p h k = rw (← k)
leave_2 (x ∷ s) w l fs p h k = rw (h, ← k)

pub leave_plus : (s w : List ℕ) (l : Level) (fs : List Level) (p : ℕ) → head_id s ≡ false → Kind.license ≡ kind_of w → head_is 43 s ≡ true → run s (Ctl.name w) l fs p ≡ run (drop 1 s) (Ctl.simple w true) l fs (p + 1)
unfolding head_id head_is run next follow stop leave of_kind
leave_plus [] w l fs p h k e = false_true e
leave_plus (x ∷ s) w l fs p h k e = rw (h, ← k, e)

pub leave_1 : (s w : List ℕ) (l : Level) (fs : List Level) (p : ℕ) → head_id s ≡ false → Kind.license ≡ kind_of w → head_is 43 s ≡ false → run s (Ctl.name w) l fs p ≡ run s (Ctl.simple w false) l fs p
unfolding head_id head_is run next follow stop leave of_kind
leave_1 [] w l fs p h k e = rw (← k)
leave_1 (x ∷ s) w l fs p h k e = rw (h, ← k, e)

pub leave-colon : (s w : List ℕ) (l : Level) (fs : List Level) (p : ℕ) → head_id s ≡ false → Kind.document ≡ kind_of w → head_is 58 s ≡ true → run s (Ctl.name w) l fs p ≡ run (drop 1 s) (Ctl.colon (w ++ 58 ∷ []) license_ref) l fs (p + 1)
unfolding head_id head_is run next follow stop leave of_kind
leave-colon [] w l fs p h k e = false_true e
leave-colon (x ∷ s) w l fs p h k e = rw (h, ← k, e)

pub leave_3 : (s w : List ℕ) (l : Level) (fs : List Level) (p : ℕ) → head_id s ≡ false → Kind.document ≡ kind_of w → head_is 58 s ≡ false → run s (Ctl.name w) l fs p ≡ refused 13 p
unfolding head_id head_is run next follow stop leave of_kind
leave_3 [] w l fs p h k e = rw (← k)
leave_3 (x ∷ s) w l fs p h k e = rw (h, ← k, e)

pub leave-ref : (s w : List ℕ) (l : Level) (fs : List Level) (p : ℕ) → head_id s ≡ false → run s (Ctl.ref w) l fs p ≡ run s (Ctl.simple w false) l fs p
unfolding head_id run next follow stop
leave-ref [] w l fs p h = refl
leave-ref (x ∷ s) w l fs p h = rw h

pub colon-stuck : (s w : List ℕ) (l : Level) (fs : List Level) (p : ℕ) → head_id s ≡ false → run s (Ctl.colon w []) l fs p ≡ refused 13 p
unfolding head_id run next follow stop
colon-stuck [] w l fs p h = refl
colon-stuck (x ∷ s) w l fs p h = rw h

pub want-stuck : (s : List ℕ) (l : Level) (fs : List Level) (p : ℕ) → head_id s ≡ false → head_is 32 s ≡ false → head_is 40 s ≡ false → run s Ctl.want l fs p ≡ refused 13 p
unfolding head_id head_is run next follow stop
want-stuck [] l fs p h e f = refl
want-stuck (x ∷ s) l fs p h e f = rw (e, f, h)

-- ---- behind a simple expression
pub simple-ends : (s w : List ℕ) (t : Bool) (l : Level) (fs : List Level) (p : ℕ) → head_is 32 s ≡ false → run s (Ctl.simple w t) l fs p ≡ ending (Tree.leaf (part w t [])) s l fs p
unfolding ending head_is run next follow stop at_simple
simple-ends [] w t l fs p e = refl
simple-ends (x ∷ s) w t l fs p e = rw e

pub simple-blank : (s w : List ℕ) (t : Bool) (l : Level) (fs : List Level) (p : ℕ) → head_is 32 s ≡ true → run s (Ctl.simple w t) l fs p ≡ run (drop 1 s) (Ctl.spaced w t) l fs (p + 1)
unfolding head_is run next follow stop at_simple
simple-blank [] w t l fs p e = false_true e
simple-blank (x ∷ s) w t l fs p e = rw e

pub spaced-done : (s w : List ℕ) (t : Bool) (l : Level) (fs : List Level) (p : ℕ) → head_is 32 s ≡ false → head_is 87 s ≡ false → run s (Ctl.spaced w t) l fs p ≡ run s (Ctl.done (Tree.leaf (part w t []))) l fs p
unfolding head_is run next follow stop
spaced-done [] w t l fs p e f = refl
spaced-done (x ∷ s) w t l fs p e f = rw (e, f)

pub spaced-with : (s w : List ℕ) (t : Bool) (l : Level) (fs : List Level) (p : ℕ) → head_is 32 s ≡ false → head_is 87 s ≡ true → run s (Ctl.spaced w t) l fs p ≡ run (drop 1 s) (Ctl.withs w t (73 ∷ 84 ∷ 72 ∷ [])) l fs (p + 1)
unfolding head_is run next follow stop
spaced-with [] w t l fs p e f = false_true f
spaced-with (x ∷ s) w t l fs p e f = rw (e, f)

pub with-blank : (s w : List ℕ) (t : Bool) (l : Level) (fs : List Level) (p : ℕ) → head_is 32 s ≡ true → run s (Ctl.withs w t []) l fs p ≡ run (drop 1 s) (Ctl.exc_due w t) l fs (p + 1)
unfolding head_is run next follow stop
with-blank [] w t l fs p e = false_true e
with-blank (x ∷ s) w t l fs p e = rw e

pub with-stuck : (s w : List ℕ) (t : Bool) (l : Level) (fs : List Level) (p : ℕ) → head_is 32 s ≡ false → run s (Ctl.withs w t []) l fs p ≡ refused 13 p
unfolding head_is run next follow stop
with-stuck [] w t l fs p e = refl
with-stuck (x ∷ s) w t l fs p e = rw e

pub due-stuck : (s w : List ℕ) (t : Bool) (l : Level) (fs : List Level) (p : ℕ) → head_is 32 s ≡ false → head_id s ≡ false → run s (Ctl.exc_due w t) l fs p ≡ refused 13 p
unfolding head_is head_id run next follow stop
due-stuck [] w t l fs p e h = refl
due-stuck (x ∷ s) w t l fs p e h = rw (e, h)

pub exc-word : (s w x : List ℕ) (t : Bool) (l : Level) (fs : List Level) (p : ℕ) → head_id s ≡ false → is_word x ≡ true → run s (Ctl.exc w t x) l fs p ≡ refused 13 p
unfolding head_id run next follow stop
exc-word [] w x t l fs p h e = rw e
exc-word (b ∷ s) w x t l fs p h e = rw (h, e)

pub exc-ends : (s w x : List ℕ) (t : Bool) (l : Level) (fs : List Level) (p : ℕ) → head_id s ≡ false → is_word x ≡ false → run s (Ctl.exc w t x) l fs p ≡ ending (Tree.leaf (part w t x)) s l fs p
unfolding ending head_id run next follow stop
exc-ends [] w x t l fs p h e = rw e
exc-ends (b ∷ s) w x t l fs p h e = rw (h, e)

-- ---- behind an operand
pub ended-blank : (t : Tree) (s : List ℕ) (l : Level) (fs : List Level) (p : ℕ) → head_is 32 s ≡ true → ending t s l fs p ≡ run (drop 1 s) (Ctl.done t) l fs (p + 1)
unfolding ending head_is run next follow at_ended
ended-blank t [] l fs p e = false_true e
ended-blank t (x ∷ s) l fs p e = rw e

pub ended_close : (t : Tree) (s : List ℕ) (l : Level) (fs : List Level) (p : ℕ) → head_is 41 s ≡ true → run s (Ctl.done t) l fs p ≡ ending t s l fs p
unfolding ending head_is run next follow at_ended at_done
ended_close t [] l fs p e = false_true e
ended_close t (x ∷ s) l fs p e = rw (eqb-true x 41 e)

pub ended-end : (t : Tree) (s : List ℕ) (l : Level) (fs : List Level) (p : ℕ) → length s ≤ 0 → run s (Ctl.done t) l fs p ≡ ending t s l fs p
unfolding ending run stop
ended-end t [] l fs p e = refl
ended-end t (x ∷ s) l fs p e = absurd (omega (arith, e))

pub ended_stuck : (t : Tree) (s : List ℕ) (l : Level) (fs : List Level) (p : ℕ) → 0 < length s → head_is 32 s ≡ false → head_is 41 s ≡ false → ending t s l fs p ≡ refused 13 p
unfolding ending head_is run next follow at_ended
ended_stuck t [] l fs p k e f = absurd (omega (arith, k))
ended_stuck t (x ∷ s) l fs p k e f = rw (e, f)
