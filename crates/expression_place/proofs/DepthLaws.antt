-- What a run keeps: what is to come of a word is identifier bytes, and as many levels stand outside as parentheses are open, at most 32. A byte
-- leads on into a state that keeps the same, and opens or closes a level as 40 and 41 say (`step_good`).
-- Assumes nothing.
use mathlib.Core.Path.{◌≡◌, refl}
use Prim.Native.Nat.{ℕ, ◌+◌, ◌≤◌}
use mathlib.Core.Bool.{Bool, true, false, cond}
use mathlib.Core.List.{List, [], ◌∷◌, ◌++◌}
use native.Mathlib.Omega.{arith}
use borrow.Author.Tests.{eqb-true, ltb-true, ltb-false}
use lib.Dec.{eqb, ltb}
use lib.ListN.{length}
use Rattle.rules.specs.Bytes.{every, within}
use Rattle.expression.specs.Reading.{id_byte, license_ref, is_word, Kind, bare, license, reference, document, kind_of, part, Tree, leaf, Level, fresh}
use Rattle.expression.specs.Reading.{whole, anded, ored, Ctl, depth_most, Move, dead, deep, to, opening, closing, at_ended, at_done, at_simple, leave, next}
use Rattle.expression.proofs.WordLaws.{id_not}
use Rattle.expression.proofs.EveryLaws.{every_cons}

-- ---- what holds in a state
-- the bytes that are to come
abbrev pub due : Ctl → List ℕ
due Ctl.want = []
due (Ctl.name w) = []
due (Ctl.colon w xs) = xs
due (Ctl.ref w) = []
due (Ctl.simple w plus) = []
due (Ctl.spaced w plus) = []
due (Ctl.withs w plus xs) = xs
due (Ctl.exc_due w plus) = []
due (Ctl.exc w plus x) = []
due (Ctl.done t) = []
due (Ctl.word xs) = xs

pub record State (c : Ctl) (fs : List Level) : Type 0 where
  pub letters : every id_byte (due c) ≡ true
  pub few : length fs ≤ depth_most

-- what a byte b does to the number of open parentheses
unfoldable pub one : ℕ → ℕ → ℕ
one x b = cond (eqb b x) 1 0

pub data Good (b : ℕ) (fs : List Level) : Move → Type 0 where
  dies : Good b fs dead
  sinks : b ≡ 40 → length fs ≡ depth_most → Good b fs deep
  goes : (c : Ctl) (l : Level) (gs : List Level) → State c gs → length gs + one 41 b ≡ length fs + one 40 b → Good b fs (to c l gs)

-- ---- bytes that are no parenthesis
abbrev Plain : ℕ → Type 0
Plain b = (eqb b 41 ≡ false) × (eqb b 40 ≡ false)

plain_at : (x b : ℕ) → Plain x → eqb b x ≡ true → Plain b
plain_at x b p e = rw (eqb-true b x e) p

plain-id : (b : ℕ) → id_byte b ≡ true → Plain b
unfolding id_byte within
plain-id b e = (id_not b 41 refl e, id_not b 40 refl e)

-- ---- a step, by the state's pieces
branch : {b : ℕ} {fs : List Level} (t : Bool) {x y : Move} → (t ≡ true → Good b fs x) → (t ≡ false → Good b fs y) → Good b fs (cond t x y)
branch true h k = h refl
branch false h k = k refl

closing_good : (b : ℕ) (fs : List Level) (t : Tree) → length fs ≤ depth_most → eqb b 41 ≡ true → Good b fs (closing t fs)
unfolding closing one every
closing_good b [] t few e = dies
closing_good b (f ∷ fs) t few e = goes (Ctl.done t) f fs (record { letters = refl; few = omega arith }) (rw (eqb-true b 41 e) (omega arith))

module _ (b : ℕ) (l : Level) (fs : List Level) (few : length fs ≤ depth_most) where
  -- as deep as before
  keeps : (c : Ctl) (k : Level) → Plain b → every id_byte (due c) ≡ true → Good b fs (to c k fs)
  unfolding one
  keeps c k p f = goes c k fs (record { letters = f; few = few }) (rw (p.0, p.1))

  -- by the byte x
  by : (x : ℕ) (c : Ctl) (k : Level) → Plain x → every id_byte (due c) ≡ true → eqb b x ≡ true → Good b fs (to c k fs)
  by x c k p f e = keeps c k (plain_at x b p e) f

  -- by a letter that is due
  letter : (x : ℕ) (xs : List ℕ) (c : Ctl) → every id_byte (x ∷ xs) ≡ true → (every id_byte xs ≡ true → every id_byte (due c) ≡ true) →
      Good b fs (cond (eqb b x) (to c l fs) dead)
  letter x xs c h f = let i = every_cons id_byte x xs h in branch (eqb b x) (by x c l (plain-id x i.0) (f i.1)) (λ _. dies)

  opening_good : eqb b 40 ≡ true → Good b fs (opening l fs)
  unfolding opening one every
  opening_good e =
      branch (ltb (length fs) depth_most)
      (λ k. goes Ctl.want fresh (l ∷ fs) (record { letters = refl; few = omega (arith, ltb-true (length fs) depth_most k) }) (rw (eqb-true b 40 e) (omega arith)))
      (λ k. sinks (eqb-true b 40 e) (let m = ltb-false (length fs) depth_most k in omega arith))

  ended_good : (t : Tree) → Good b fs (at_ended t l fs b)
  unfolding at_ended every
  ended_good t = branch (eqb b 32) (by 32 (Ctl.done t) l (refl, refl) refl) (λ _. branch (eqb b 41) (closing_good b fs (whole l t) few) (λ _. dies))

  done_good : (t : Tree) → Good b fs (at_done t l fs b)
  unfolding at_done every id_byte within
  done_good t =
      branch (eqb b 65) (by 65 (Ctl.word (78 ∷ 68 ∷ [])) (anded l t) (refl, refl) refl)
      (λ _. branch (eqb b 79) (by 79 (Ctl.word (82 ∷ [])) (ored l t) (refl, refl) refl) (λ _. ended_good t))

  simple_good : (w : List ℕ) (plus : Bool) → Good b fs (at_simple w plus l fs b)
  unfolding at_simple every
  simple_good w plus = branch (eqb b 32) (by 32 (Ctl.spaced w plus) l (refl, refl) refl) (λ _. ended_good (leaf (part w plus [])))

  leave_good : (k : Kind) (w : List ℕ) → Good b fs (leave k w l fs b)
  unfolding leave every id_byte within
  leave_good bare w = dies
  leave_good license w = branch (eqb b 43) (by 43 (Ctl.simple w true) l (refl, refl) refl) (λ _. simple_good w false)
  leave_good reference w = simple_good w false
  leave_good document w = branch (eqb b 58) (by 58 (Ctl.colon (w ++ 58 ∷ []) license_ref) l (refl, refl) refl) (λ _. dies)

-- a byte of an identifier leads on, another as m says
ids_good : (b : ℕ) (l : Level) (fs : List Level) → length fs ≤ depth_most → (c : Ctl) → every id_byte (due c) ≡ true → {m : Move} → Good b fs m →
    Good b fs (cond (id_byte b) (to c l fs) m)
ids_good b l fs few c f h = branch (id_byte b) (λ e. keeps b l fs few c l (plain-id b e) f) (λ _. h)

pub step_good : (l : Level) (fs : List Level) (b : ℕ) (c : Ctl) → State c fs → Good b fs (next c l fs b)
unfolding next every id_byte within
step_good l fs b Ctl.want s =
    branch (eqb b 32) (by b l fs s.few 32 Ctl.want l (refl, refl) refl)
    (λ _. branch (eqb b 40) (opening_good b l fs s.few) (λ _. ids_good b l fs s.few (Ctl.name (b ∷ [])) refl dies))
step_good l fs b (Ctl.name w) s = ids_good b l fs s.few (Ctl.name (w ++ b ∷ [])) refl (leave_good b l fs s.few (kind_of w) w)
step_good l fs b (Ctl.colon w []) s = ids_good b l fs s.few (Ctl.ref (w ++ b ∷ [])) refl dies
step_good l fs b (Ctl.colon w (x ∷ xs)) s = letter b l fs s.few x xs (Ctl.colon (w ++ x ∷ []) xs) s.letters (λ h. h)
step_good l fs b (Ctl.ref w) s = ids_good b l fs s.few (Ctl.ref (w ++ b ∷ [])) refl (simple_good b l fs s.few w false)
step_good l fs b (Ctl.simple w plus) s = simple_good b l fs s.few w plus
step_good l fs b (Ctl.spaced w plus) s =
    branch (eqb b 32) (by b l fs s.few 32 (Ctl.spaced w plus) l (refl, refl) refl)
    (λ _. branch (eqb b 87) (by b l fs s.few 87 (Ctl.withs w plus (73 ∷ 84 ∷ 72 ∷ [])) l (refl, refl) refl)
    (λ _. done_good b l fs s.few (leaf (part w plus []))))
step_good l fs b (Ctl.withs w plus []) s = branch (eqb b 32) (by b l fs s.few 32 (Ctl.exc_due w plus) l (refl, refl) refl) (λ _. dies)
step_good l fs b (Ctl.withs w plus (x ∷ xs)) s = letter b l fs s.few x xs (Ctl.withs w plus xs) s.letters (λ h. h)
step_good l fs b (Ctl.exc_due w plus) s =
    branch (eqb b 32) (by b l fs s.few 32 (Ctl.exc_due w plus) l (refl, refl) refl)
    (λ _. ids_good b l fs s.few (Ctl.exc w plus (b ∷ [])) refl dies)
step_good l fs b (Ctl.exc w plus x) s =
    ids_good b l fs s.few (Ctl.exc w plus (x ++ b ∷ [])) refl
    (branch (is_word x) (λ _. dies) (λ _. ended_good b l fs s.few (leaf (part w plus x))))
step_good l fs b (Ctl.done t) s = done_good b l fs s.few t
step_good l fs b (Ctl.word []) s =
    branch (eqb b 32) (by b l fs s.few 32 Ctl.want l (refl, refl) refl) (λ _. branch (eqb b 40) (opening_good b l fs s.few) (λ _. dies))
step_good l fs b (Ctl.word (x ∷ xs)) s = letter b l fs s.few x xs (Ctl.word xs) s.letters (λ h. h)

pub begin : State Ctl.want []
unfolding every
begin = record { letters = refl; few = omega arith }
