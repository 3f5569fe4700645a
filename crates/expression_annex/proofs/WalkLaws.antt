-- Walks: where the bytes of a text lead from a state, without places and without a verdict. A walk over two texts is one after the other, and the
-- run of a text whose walk leads on stops where that leads; one that is too deep is refused with 14. Runs of identifier bytes, of blanks and of letters that
-- are due.
-- Assumes nothing.
use mathlib.Core.Path.{◌≡◌, refl, sym, ap, ◌∙◌}
use Prim.Native.Nat.{ℕ, zero, suc, ◌+◌, ◌≤◌, ◌<◌}
use mathlib.Core.Bool.{Bool, true, false, false≢true}
use mathlib.Core.List.{List, [], ◌∷◌, ◌++◌, append_assoc, append-nil}
use mathlib.Core.Logic.{◌⊎◌, inl, inr}
use native.Mathlib.Omega.{arith}
use borrow.Author.Tests.{eq-eqb}
use lib.ListN.{length}
use Rattle.rules.specs.Bytes.{every, within}
use Rattle.expression.specs.Reading.{id_byte, Level, Ctl, depth_most, Move, dead, deep, to, Verdict, refused, next, stop, follow, run}
use Rattle.expression.specs.Annex.{Idstring, blanks}
use Rattle.expression.proofs.WordLaws.{id_not}
use Rattle.expression.proofs.EveryLaws.{every_cons}

abbrev pub after : Move → ℕ → Move
after dead b = dead
after deep b = deep
after (to c l fs) b = next c l fs b

abbrev pub walk : List ℕ → Move → Move
walk [] m = m
walk (b ∷ bs) m = walk bs (after m b)

pub walk-append : (s u : List ℕ) (m : Move) → walk (s ++ u) m ≡ walk u (walk s m)
walk-append [] u m = refl
walk-append (b ∷ s) u m = walk-append s u (after m b)

-- two walks, the second from where the first leads
pub walk-on : (s u : List ℕ) (m n : Move) {o : Move} → walk s m ≡ n → walk u n ≡ o → walk (s ++ u) m ≡ o
walk-on s u m n h k = walk-append s u m ∙ ap (walk u) h ∙ k

-- ---- a walk that leads on is the run
halt : Move → ℕ → Verdict
halt dead p = refused 13 p
halt deep p = refused 14 p
halt (to c l fs) p = stop c l fs p

leads : Move → Bool
leads dead = false
leads deep = false
leads (to c l fs) = true

stuck-dead : (s : List ℕ) → walk s dead ≡ dead
stuck-dead [] = refl
stuck-dead (b ∷ s) = stuck-dead s

stuck-deep : (s : List ℕ) → walk s deep ≡ deep
stuck-deep [] = refl
stuck-deep (b ∷ s) = stuck-deep s

pub walk-run : (s : List ℕ) (c c' : Ctl) (l l' : Level) (fs fs' : List Level) (p : ℕ) →
    walk s (to c l fs) ≡ to c' l' fs' → run s c l fs p ≡ stop c' l' fs' (p + length s)
unfolding run follow halt leads
walk-run [] c c' l l' fs fs' p e = let q : p + 0 ≡ p = omega arith in rw q (ap (λ m. halt m p) e)
walk-run (b ∷ s) c c' l l' fs fs' p e = go (next c l fs b) (λ c0 l0 fs0. walk-run s c0 c' l0 l' fs0 fs' (p + 1)) e where
  go : (m : Move) → ((c0 : Ctl) (l0 : Level) (fs0 : List Level) → walk s (to c0 l0 fs0) ≡ to c' l' fs' →
      run s c0 l0 fs0 (p + 1) ≡ stop c' l' fs' (p + 1 + length s)) →
      walk s m ≡ to c' l' fs' → follow p (λ c0 l0 fs0. run s c0 l0 fs0 (p + 1)) m ≡ stop c' l' fs' (p + suc (length s))
  go dead ih h = absurd (false≢true (ap leads (sym (stuck-dead s) ∙ h)))
  go deep ih h = absurd (false≢true (ap leads (sym (stuck-deep s) ∙ h)))
  go (to c0 l0 fs0) ih h = let q : p + 1 + length s ≡ p + suc (length s) = omega arith in ih c0 l0 fs0 h ∙ rw q

-- a walk that is too deep
pub record Sinks (v : Verdict) : Type 0 where
  pub place : ℕ
  pub told : v ≡ refused 14 place

unfoldable pub is_deep : Move → Bool
is_deep dead = false
is_deep deep = true
is_deep (to c l fs) = false

pub walk-deep : (s : List ℕ) (c : Ctl) (l : Level) (fs : List Level) (p : ℕ) → walk s (to c l fs) ≡ deep → Sinks (run s c l fs p)
unfolding run follow is_deep
walk-deep [] c l fs p e = absurd (false≢true (ap is_deep e))
walk-deep (b ∷ s) c l fs p e = go (next c l fs b) (λ c0 l0 fs0. walk-deep s c0 l0 fs0 (p + 1)) e where
  go : (m : Move) → ((c0 : Ctl) (l0 : Level) (fs0 : List Level) → walk s (to c0 l0 fs0) ≡ deep → Sinks (run s c0 l0 fs0 (p + 1)))
      → walk s m ≡ deep → Sinks (follow p (λ c0 l0 fs0. run s c0 l0 fs0 (p + 1)) m)
  go dead ih h = absurd (false≢true (ap is_deep (sym (stuck-dead s) ∙ h)))
  go deep ih h = record { place = p; told = refl }
  go (to c0 l0 fs0) ih h = ih c0 l0 fs0 h

-- ---- a walk comes to a state, or is too deep, which needs n, the parentheses that may be open, above `depth_most`
abbrev pub Comes : ℕ → Move → Move → Type 0
Comes n m o = (m ≡ o) ⊎ ((depth_most < n) × (m ≡ deep))

pub comes_on : (n : ℕ) (s u : List ℕ) (m k : Move) {o : Move} → Comes n (walk s m) k → Comes n (walk u k) o → Comes n (walk (s ++ u) m) o
comes_on n s u m k (inl e) (inl f) = inl (walk-on s u m k e f)
comes_on n s u m k (inl e) (inr f) = inr (f.0, walk-on s u m k e f.1)
comes_on n s u m k (inr e) f = inr (e.0, walk-on s u m deep e.1 (stuck-deep u))

pub comes_low : {n : ℕ} {m o : Move} → Comes n m o → n ≤ depth_most → m ≡ o
comes_low (inl e) h = e
comes_low (inr f) h = absurd (omega (arith, f.0, h))

-- ---- runs of bytes
pub ids_walk : (c : List ℕ → Ctl) (l : Level) (fs : List Level) →
    ((w : List ℕ) (b : ℕ) → id_byte b ≡ true → next (c w) l fs b ≡ to (c (w ++ b ∷ [])) l fs) →
    (s w : List ℕ) → every id_byte s ≡ true → walk s (to (c w) l fs) ≡ to (c (w ++ s)) l fs
ids_walk c l fs h [] w e = rw (append-nil w)
ids_walk c l fs h (x ∷ s) w e =
    let i = every_cons id_byte x s e in
    rw (h w x i.0) (ids_walk c l fs h s (w ++ x ∷ []) i.1 ∙ rw (append_assoc w (x ∷ []) s))

-- the same with its first byte, read from a state in which an identifier is due
pub ids_begin : (c0 : Ctl) (c : List ℕ → Ctl) (l : Level) (fs : List Level) →
    ((b : ℕ) → id_byte b ≡ true → next c0 l fs b ≡ to (c (b ∷ [])) l fs) →
    ((w : List ℕ) (b : ℕ) → id_byte b ≡ true → next (c w) l fs b ≡ to (c (w ++ b ∷ [])) l fs) →
    (s : List ℕ) → Idstring s → walk s (to c0 l fs) ≡ to (c s) l fs
ids_begin c0 c l fs k h [] i = absurd (omega (arith, i.some))
ids_begin c0 c l fs k h (x ∷ s) i = let j = every_cons id_byte x s i.bytes in rw (k x j.0) (ids_walk c l fs h s (x ∷ []) j.1)

pub blanks-walk : (c : Ctl) (l : Level) (fs : List Level) → next c l fs 32 ≡ to c l fs → (n : ℕ) → walk (blanks n) (to c l fs) ≡ to c l fs
unfolding blanks
blanks-walk c l fs h zero = refl
blanks-walk c l fs h (suc n) = ap (walk (blanks n)) h ∙ blanks-walk c l fs h n

pub colon-walk : (xs w : List ℕ) (l : Level) (fs : List Level) → walk xs (to (Ctl.colon w xs) l fs) ≡ to (Ctl.colon (w ++ xs) []) l fs
unfolding next
colon-walk [] w l fs = rw (append-nil w)
colon-walk (x ∷ xs) w l fs = rw (eq-eqb x x refl) (colon-walk xs (w ++ x ∷ []) l fs ∙ rw (append_assoc w (x ∷ []) xs))

-- an identifier where an operand is due, and an exception
pub name-walk : (w : List ℕ) (l : Level) (fs : List Level) → Idstring w → walk w (to Ctl.want l fs) ≡ to (Ctl.name w) l fs
unfolding next id_byte within
name-walk w l fs i =
    ids_begin Ctl.want Ctl.name l fs (λ b h. rw (id_not b 32 refl h, id_not b 40 refl h, h)) (λ v b h. rw h) w i

pub exc-walk : (v w : List ℕ) (plus : Bool) (l : Level) (fs : List Level) → Idstring w →
    walk w (to (Ctl.exc_due v plus) l fs) ≡ to (Ctl.exc v plus w) l fs
unfolding next id_byte within
exc-walk v w plus l fs i =
    ids_begin (Ctl.exc_due v plus) (Ctl.exc v plus) l fs (λ b h. rw (id_not b 32 refl h, h)) (λ u b h. rw h) w i

pub ref-walk : (v w : List ℕ) (l : Level) (fs : List Level) → Idstring w → walk w (to (Ctl.colon v []) l fs) ≡ to (Ctl.ref (v ++ w)) l fs
unfolding next
ref-walk v w l fs i =
    ids_begin (Ctl.colon v []) (λ u. Ctl.ref (v ++ u)) l fs (λ b h. rw h) (λ u b h. rw (h, append_assoc v u (b ∷ []))) w i
