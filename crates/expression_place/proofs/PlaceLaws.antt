-- The place of a refusal is that of the first byte that cannot go on: what stands before it can be completed to an expression, and with it
-- nothing can (`first_bad`). Its number is 13 or 14; 13 only where nothing can with any number of parentheses open (`no_expression`, `no_way_on`), 14 only at
-- a parenthesis that finds 32 open (`too_deep`), and only where an operand is due (`deep-due`): where none is, it is 13, however many are open.
-- Assumes nothing.
use mathlib.Core.Path.{◌≡◌, refl, sym, ap, ◌∙◌}
use Prim.Native.Nat.{ℕ, suc, ◌+◌, ◌≤◌, ◌<◌}
use mathlib.Core.Bool.{Bool, true, false, cond, false≢true}
use mathlib.Core.List.{List, [], ◌∷◌, ◌++◌}
use mathlib.Core.Logic.{◌⊎◌, inl, inr}
use native.Mathlib.Omega.{arith}
use borrow.Author.Tests.{eq-eqb}
use lib.Dec.{eqb}
use lib.ListN.{length, take, get_or}
use Rattle.rules.specs.Bytes.{order, same, starts, within}
use Rattle.expression.specs.Reading.{id_byte, and_word, or_word, with_word, license_ref, document_ref, is_word, Kind, bare, license, reference, document}
use Rattle.expression.specs.Reading.{kind_of, part, Tree, leaf, Level, fresh, whole, Ctl, depth_most, Move, dead, deep, to, Verdict, accepted, refused, closing}
use Rattle.expression.specs.Reading.{at_ended, at_done, at_simple, leave, next, finish, of_kind, stop, follow, run, verdict}
use Rattle.expression.specs.Annex.{Annex}
use Rattle.expression.proofs.WordLaws.{word-is, bare-is}
use Rattle.expression_annex.proofs.WalkLaws.{Sinks, is_deep}
use Rattle.expression_annex.proofs.AnnexLaws.{Accepted, annex_deep}
use Rattle.expression_place.proofs.DepthLaws.{State, begin, one, Good, dies, sinks, goes, step_good}

unfoldable pub is_accepted : Verdict → Bool
is_accepted (accepted t) = true
is_accepted (refused k p) = false

unfoldable is_bare : Kind → Bool
is_bare bare = true
is_bare license = false
is_bare reference = false
is_bare document = false

-- ---- every state can be completed
pub record Alive (c : Ctl) (l : Level) (fs : List Level) (p : ℕ) : Type 0 where
  pub rest : List ℕ
  pub goes : is_accepted (run rest c l fs p) ≡ true

unfoldable closes : List Level → List ℕ
closes [] = []
closes (f ∷ fs) = 41 ∷ closes fs

-- behind an operand t: what is open is closed
closed : (fs : List Level) (c : Ctl) (t : Tree) (l : Level) (p : ℕ) → next c l fs 41 ≡ closing (whole l t) fs
    → stop c l fs p ≡ finish (whole l t) fs p → is_accepted (run (closes fs) c l fs p) ≡ true
unfolding is_accepted closes run follow closing finish next at_done at_ended stop
closed [] c t l p e f = rw f
closed (g ∷ fs) c t l p e f = rw e (closed fs (Ctl.done (whole l t)) (whole l t) g (p + 1) refl refl)

-- one more byte first
by : (b : ℕ) {c d : Ctl} {l : Level} {fs : List Level} {p : ℕ} → next c l fs b ≡ to d l fs → Alive d l fs (p + 1) → Alive c l fs p
unfolding run follow
by b e a = record { rest = b ∷ a.rest; goes = rw e a.goes }

module _ (l : Level) (fs : List Level) where
  ends : (c : Ctl) (t : Tree) (p : ℕ) → next c l fs 41 ≡ closing (whole l t) fs → stop c l fs p ≡ finish (whole l t) fs p → Alive c l fs p
  ends c t p e f = record { rest = closes fs; goes = closed fs c t l p e f }

  simple_alive : (w : List ℕ) (plus : Bool) (p : ℕ) → Alive (Ctl.simple w plus) l fs p
  unfolding next stop at_simple at_ended
  simple_alive w plus p = ends (Ctl.simple w plus) (leaf (part w plus [])) p refl refl

  spaced_alive : (w : List ℕ) (plus : Bool) (p : ℕ) → Alive (Ctl.spaced w plus) l fs p
  unfolding next stop at_done at_ended
  spaced_alive w plus p = ends (Ctl.spaced w plus) (leaf (part w plus [])) p refl refl

  ref_alive : (w : List ℕ) (p : ℕ) → Alive (Ctl.ref w) l fs p
  unfolding next stop at_simple at_ended id_byte within
  ref_alive w p = ends (Ctl.ref w) (leaf (part w false [])) p refl refl

  exc_alive : (w : List ℕ) (plus : Bool) (x : List ℕ) (p : ℕ) → is_word x ≡ false → Alive (Ctl.exc w plus x) l fs p
  unfolding next stop at_ended id_byte within
  exc_alive w plus x p e = ends (Ctl.exc w plus x) (leaf (part w plus x)) p (rw e) (rw e)

  -- ---- in an identifier, by its kind
  colon_alive : (xs w : List ℕ) (p : ℕ) → Alive (Ctl.colon w xs) l fs p
  unfolding next id_byte within
  colon_alive [] w p = by 97 refl (ref_alive (w ++ 97 ∷ []) (p + 1))
  colon_alive (x ∷ xs) w p = by x (rw (eq-eqb x x refl)) (colon_alive xs (w ++ x ∷ []) (p + 1))

  kind_alive : (k : Kind) (w : List ℕ) (p : ℕ) → kind_of w ≡ k → (k ≡ bare → Alive (Ctl.name w) l fs p) → Alive (Ctl.name w) l fs p
  unfolding next stop of_kind leave at_simple at_ended id_byte within
  kind_alive bare w p e h = h refl
  kind_alive license w p e h = ends (Ctl.name w) (leaf (part w false [])) p (rw e) (rw e)
  kind_alive reference w p e h = ends (Ctl.name w) (leaf (part w false [])) p (rw e) (rw e)
  kind_alive document w p e h = by 58 (rw e) (colon_alive license_ref (w ++ 58 ∷ []) (p + 1))

  -- identifier bytes that only more of them can follow: an a does
  longer : (w : List ℕ) (p : ℕ) → is_bare (kind_of (w ++ 97 ∷ [])) ≡ false → Alive (Ctl.name w) l fs p
  unfolding next id_byte within is_bare
  longer w p e =
      by 97 refl (kind_alive (kind_of (w ++ 97 ∷ [])) (w ++ 97 ∷ []) (p + 1) refl (λ f. absurd (false≢true (sym e ∙ ap is_bare f))))

  name_alive : (w : List ℕ) (p : ℕ) → Alive (Ctl.name w) l fs p
  unfolding kind_of is_word same order starts is_bare
  name_alive w p =
      let is = bare-is (λ v. Alive (Ctl.name v) l fs p) (longer document_ref p refl) (longer license_ref p refl) in
      kind_alive (kind_of w) w p refl (is (longer and_word p refl) (longer or_word p refl) (longer with_word p refl) w)

  -- ---- and in all other states
  want_alive : (p : ℕ) → Alive Ctl.want l fs p
  unfolding next id_byte within
  want_alive p = by 97 refl (name_alive (97 ∷ []) (p + 1))

  word_alive : (xs : List ℕ) (p : ℕ) → Alive (Ctl.word xs) l fs p
  unfolding next
  word_alive [] p = by 32 refl (want_alive (p + 1))
  word_alive (x ∷ xs) p = by x (rw (eq-eqb x x refl)) (word_alive xs (p + 1))

  -- an exception that is a word becomes none by an a
  longer_exc : (w : List ℕ) (plus : Bool) (x : List ℕ) (p : ℕ) → is_word (x ++ 97 ∷ []) ≡ false → Alive (Ctl.exc w plus x) l fs p
  unfolding next id_byte within
  longer_exc w plus x p e = by 97 refl (exc_alive w plus (x ++ 97 ∷ []) (p + 1) e)

  in_exc : (w : List ℕ) (plus : Bool) (x : List ℕ) (p : ℕ) (e : Bool) → is_word x ≡ e → Alive (Ctl.exc w plus x) l fs p
  unfolding is_word same order
  in_exc w plus x p true e =
      word-is (λ v. Alive (Ctl.exc w plus v) l fs p) (longer_exc w plus and_word p refl)
      (longer_exc w plus or_word p refl) (longer_exc w plus with_word p refl) x e
  in_exc w plus x p false e = exc_alive w plus x p e

  due_alive : (w : List ℕ) (plus : Bool) (p : ℕ) → Alive (Ctl.exc_due w plus) l fs p
  unfolding next id_byte within
  due_alive w plus p = by 97 refl (in_exc w plus (97 ∷ []) (p + 1) (is_word (97 ∷ [])) refl)

  with_alive : (xs w : List ℕ) (plus : Bool) (p : ℕ) → Alive (Ctl.withs w plus xs) l fs p
  unfolding next
  with_alive [] w plus p = by 32 refl (due_alive w plus (p + 1))
  with_alive (x ∷ xs) w plus p = by x (rw (eq-eqb x x refl)) (with_alive xs w plus (p + 1))

  alive : (c : Ctl) (p : ℕ) → Alive c l fs p
  unfolding next stop at_done at_ended
  alive Ctl.want p = want_alive p
  alive (Ctl.name w) p = name_alive w p
  alive (Ctl.colon w xs) p = colon_alive xs w p
  alive (Ctl.ref w) p = ref_alive w p
  alive (Ctl.simple w plus) p = simple_alive w plus p
  alive (Ctl.spaced w plus) p = spaced_alive w plus p
  alive (Ctl.withs w plus xs) p = with_alive xs w plus p
  alive (Ctl.exc_due w plus) p = due_alive w plus p
  alive (Ctl.exc w plus x) p = in_exc w plus x p (is_word x) refl
  alive (Ctl.done t) p = ends (Ctl.done t) t p refl refl
  alive (Ctl.word xs) p = word_alive xs p

-- ---- the refusal k at r of a run of s from the place p
record From (s : List ℕ) (c : Ctl) (l : Level) (fs : List Level) (p k r : ℕ) : Type 0 where
  pub n : ℕ
  pub place : r ≡ p + n
  pub inside : n ≤ length s
  pub rest : List ℕ
  pub goes : is_accepted (run (take n s ++ rest) c l fs p) ≡ true
  pub stuck : n < length s → (q : List ℕ) → run (take (suc n) s ++ q) c l fs p ≡ refused k r

same_place : {a b k r : ℕ} → refused a b ≡ refused k r → r ≡ b
same_place e = cc

never : {B : Type 0} {t : Tree} {k r : ℕ} → accepted t ≡ refused k r → B
unfolding is_accepted
never e = absurd (false≢true (sym (ap is_accepted e)))

-- where a text ends without being an expression, its length is the place and 13 the number
abbrev AtEnd : ℕ → ℕ → ℕ → Type 0
AtEnd p k r = (r ≡ p) × (k ≡ 13)

no_more : {p k r : ℕ} → refused 13 p ≡ refused k r → AtEnd p k r
no_more e = (cc, cc)

finish-end : (fs : List Level) (t : Tree) (p k r : ℕ) → finish t fs p ≡ refused k r → AtEnd p k r
unfolding finish
finish-end [] t p k r e = never e
finish-end (f ∷ fs) t p k r e = no_more e

kind-end : (i : Kind) (w : List ℕ) (l : Level) (fs : List Level) (p k r : ℕ) → of_kind i w l fs p ≡ refused k r → AtEnd p k r
unfolding of_kind
kind-end bare w l fs p k r e = no_more e
kind-end license w l fs p k r e = finish-end fs (whole l (leaf (part w false []))) p k r e
kind-end reference w l fs p k r e = finish-end fs (whole l (leaf (part w false []))) p k r e
kind-end document w l fs p k r e = no_more e

either_end : (t : Bool) (p k r : ℕ) (v : Verdict) → (v ≡ refused k r → AtEnd p k r) → cond t (refused 13 p) v ≡ refused k r → AtEnd p k r
either_end true p k r v h e = no_more e
either_end false p k r v h e = h e

at-end : (c : Ctl) (l : Level) (fs : List Level) (p k r : ℕ) → stop c l fs p ≡ refused k r → AtEnd p k r
unfolding stop
at-end Ctl.want l fs p k r e = no_more e
at-end (Ctl.name w) l fs p k r e = kind-end (kind_of w) w l fs p k r e
at-end (Ctl.colon w xs) l fs p k r e = no_more e
at-end (Ctl.ref w) l fs p k r e = finish-end fs (whole l (leaf (part w false []))) p k r e
at-end (Ctl.simple w plus) l fs p k r e = finish-end fs (whole l (leaf (part w plus []))) p k r e
at-end (Ctl.spaced w plus) l fs p k r e = finish-end fs (whole l (leaf (part w plus []))) p k r e
at-end (Ctl.withs w plus xs) l fs p k r e = no_more e
at-end (Ctl.exc_due w plus) l fs p k r e = no_more e
at-end (Ctl.exc w plus x) l fs p k r e =
    either_end (is_word x) p k r (finish (whole l (leaf (part w plus x))) fs p) (finish-end fs (whole l (leaf (part w plus x))) p k r) e
at-end (Ctl.done t) l fs p k r e = finish-end fs (whole l t) p k r e
at-end (Ctl.word xs) l fs p k r e = no_more e

here : (b : ℕ) (bs : List ℕ) (c : Ctl) (l : Level) (fs : List Level) (p k r : ℕ) → ((q : List ℕ) → run (b ∷ q) c l fs p ≡ refused k r)
    → r ≡ p → From (b ∷ bs) c l fs p k r
here b bs c l fs p k r h e =
    let a = alive l fs c p in
    record { n = 0; place = e ∙ omega arith; inside = omega arith; rest = a.rest; goes = a.goes; stuck = λ i q. h q }

later : (b : ℕ) (bs : List ℕ) (c c' : Ctl) (l l' : Level) (fs fs' : List Level) (p k r : ℕ) → next c l fs b ≡ to c' l' fs'
    → From bs c' l' fs' (p + 1) k r → From (b ∷ bs) c l fs p k r
unfolding run follow
later b bs c c' l l' fs fs' p k r e f =
    record {
      n = suc f.n;
      place = omega (arith, f.place);
      inside = omega (arith, f.inside);
      rest = f.rest;
      goes = rw e f.goes;
      stuck = λ h q. rw e (f.stuck (omega arith) q);
    }

halts : (b : ℕ) (c : Ctl) (l : Level) (fs : List Level) (p : ℕ) (m : Move) (v : Verdict) → next c l fs b ≡ m
    → ((go : Ctl → Level → List Level → Verdict) → follow p go m ≡ v) → (q : List ℕ) → run (b ∷ q) c l fs p ≡ v
unfolding run
halts b c l fs p m v e f q = rw e (f (λ c' l' fs'. run q c' l' fs' (p + 1)))

step-first : (b : ℕ) (bs : List ℕ) (c : Ctl) (l : Level) (fs : List Level) (p k r : ℕ)
    → ((c' : Ctl) (l' : Level) (fs' : List Level) → run bs c' l' fs' (p + 1) ≡ refused k r → From bs c' l' fs' (p + 1) k r)
    → (m : Move) → next c l fs b ≡ m → follow p (λ c' l' fs'. run bs c' l' fs' (p + 1)) m ≡ refused k r → From (b ∷ bs) c l fs p k r
unfolding follow
step-first b bs c l fs p k r ih dead e f = here b bs c l fs p k r (halts b c l fs p dead (refused k r) e (λ go. f)) (same_place f)
step-first b bs c l fs p k r ih deep e f = here b bs c l fs p k r (halts b c l fs p deep (refused k r) e (λ go. f)) (same_place f)
step-first b bs c l fs p k r ih (to c' l' fs') e f = later b bs c c' l l' fs fs' p k r e (ih c' l' fs' f)

first : (s : List ℕ) (c : Ctl) (l : Level) (fs : List Level) (p k r : ℕ) → run s c l fs p ≡ refused k r → From s c l fs p k r
unfolding run
first [] c l fs p k r e =
    let a = alive l fs c p in
    let q : r ≡ p + 0 = (at-end c l fs p k r e).0 ∙ omega arith in
    record { n = 0; place = q; inside = omega arith; rest = a.rest; goes = a.goes; stuck = λ h. absurd (omega (arith, h)) }
first (b ∷ bs) c l fs p k r e =
    step-first b bs c l fs p k r (λ c' l' fs'. first bs c' l' fs' (p + 1) k r) (next c l fs b) refl e

-- of a whole text: up to the place of its refusal it can be completed, and with one byte more it is refused there whatever follows
pub record First (s : List ℕ) (k r : ℕ) : Type 0 where
  pub n : ℕ
  pub place : r ≡ n
  pub inside : n ≤ length s
  pub rest : List ℕ
  pub goes : is_accepted (verdict (take n s ++ rest)) ≡ true
  pub stuck : n < length s → (q : List ℕ) → verdict (take (suc n) s ++ q) ≡ refused k r

pub first_bad : (s : List ℕ) (k r : ℕ) → verdict s ≡ refused k r → First s k r
unfolding verdict
first_bad s k r e =
    let f = first s Ctl.want fresh [] 0 k r e in
    record { n = f.n; place = f.place ∙ omega arith; inside = f.inside; rest = f.rest; goes = f.goes; stuck = f.stuck }

-- ---- the number of a refusal
step-number : (b : ℕ) (bs : List ℕ) (p k r : ℕ) → ((c : Ctl) (l : Level) (fs : List Level) → run bs c l fs (p + 1) ≡ refused k r → (k ≡ 13) ⊎ (k ≡ 14))
    → (m : Move) → follow p (λ c l fs. run bs c l fs (p + 1)) m ≡ refused k r → (k ≡ 13) ⊎ (k ≡ 14)
unfolding follow
step-number b bs p k r ih dead e = inl (cc)
step-number b bs p k r ih deep e = inr (cc)
step-number b bs p k r ih (to c l fs) e = ih c l fs e

run-number : (s : List ℕ) (c : Ctl) (l : Level) (fs : List Level) (p k r : ℕ) → run s c l fs p ≡ refused k r → (k ≡ 13) ⊎ (k ≡ 14)
unfolding run
run-number [] c l fs p k r e = inl (at-end c l fs p k r e).1
run-number (b ∷ bs) c l fs p k r e = step-number b bs p k r (λ c' l' fs'. run-number bs c' l' fs' (p + 1) k r) (next c l fs b) e

pub refused-number : (s : List ℕ) (k r : ℕ) → verdict s ≡ refused k r → (k ≡ 13) ⊎ (k ≡ 14)
unfolding verdict
refused-number s k r e = run-number s Ctl.want fresh [] 0 k r e

-- ---- 13 does not come of the depth: the annex derives no such text, with however many parentheses open
thirteen : (v : Verdict) (r : ℕ) → v ≡ refused 13 r → (t : Tree) → v ≡ accepted t → ⊥
unfolding is_accepted
thirteen v r e t f = false≢true (ap is_accepted (sym e ∙ f))

pub no_expression : (s : List ℕ) (r : ℕ) → verdict s ≡ refused 13 r → (d : ℕ) → Annex d s → ⊥
no_expression s r e d h = neither (annex_deep h) where
  neither : Accepted s ⊎ Sinks (verdict s) → ⊥
  neither (inl a) = thirteen (verdict s) r e a.tree a.told
  neither (inr k) = let f = k.told in let z : ◌≡◌ {A = ℕ} 13 14 = cc in absurd (omega arith)

pub no_way_on : (s : List ℕ) (r : ℕ) → verdict s ≡ refused 13 r → r < length s → (d : ℕ) (q : List ℕ) → Annex d (take (suc r) s ++ q) → ⊥
no_way_on s r e h d q =
    let f = first_bad s 13 r e in
    no_expression (take (suc r) s ++ q) r (ap (λ n. verdict (take (suc n) s ++ q)) f.place ∙ f.stuck (omega (arith, f.place)) q) d

-- how often b stands in s
unfoldable pub count : ℕ → List ℕ → ℕ
count b [] = 0
count b (x ∷ xs) = one b x + count b xs

-- ---- 14 only where an operand is due: a name could stand there
record Due (c : Ctl) (l : Level) (fs : List Level) (p : ℕ) : Type 0 where
  pub rest : List ℕ
  pub goes : is_accepted (run (32 ∷ 97 ∷ rest) c l fs p) ≡ true

module _ (l : Level) (fs : List Level) where
  want-due : (p : ℕ) → Due Ctl.want l fs p
  unfolding run follow next id_byte within
  want-due p = let a = name_alive l fs (97 ∷ []) (p + 1 + 1) in record { rest = a.rest; goes = a.goes }

  word-due : (p : ℕ) → Due (Ctl.word []) l fs p
  unfolding run follow next id_byte within
  word-due p = let a = name_alive l fs (97 ∷ []) (p + 1 + 1) in record { rest = a.rest; goes = a.goes }

  never_deep : {A : Type 0} (m : Move) → is_deep m ≡ false → m ≡ deep → A
  unfolding is_deep
  never_deep m h e = absurd (false≢true (sym h ∙ ap is_deep e))

  -- a letter that is due, or the end
  letter : (t : Bool) (c : Ctl) → is_deep (cond t (to c l fs) dead) ≡ false
  unfolding is_deep
  letter true c = refl
  letter false c = refl

  nowhere : (t : Bool) → is_deep (cond t dead dead) ≡ false
  unfolding is_deep
  nowhere true = refl
  nowhere false = refl

  left : (k : Kind) (w : List ℕ) → is_deep (leave k w l fs 40) ≡ false
  unfolding is_deep leave at_simple at_ended
  left bare w = refl
  left license w = refl
  left reference w = refl
  left document w = refl

  -- in all other states a parenthesis cannot go on
  opens-due : (c : Ctl) (p : ℕ) → next c l fs 40 ≡ deep → Due c l fs p
  unfolding is_deep next id_byte within at_simple at_done at_ended
  opens-due Ctl.want p e = want-due p
  opens-due (Ctl.name w) p e = never_deep _ (left (kind_of w) w) e
  opens-due (Ctl.colon w []) p e = never_deep _ refl e
  opens-due (Ctl.colon w (x ∷ xs)) p e = never_deep _ (letter (eqb 40 x) _) e
  opens-due (Ctl.ref w) p e = never_deep _ refl e
  opens-due (Ctl.simple w plus) p e = never_deep _ refl e
  opens-due (Ctl.spaced w plus) p e = never_deep _ refl e
  opens-due (Ctl.withs w plus []) p e = never_deep _ refl e
  opens-due (Ctl.withs w plus (x ∷ xs)) p e = never_deep _ (letter (eqb 40 x) _) e
  opens-due (Ctl.exc_due w plus) p e = never_deep _ refl e
  opens-due (Ctl.exc w plus x) p e = never_deep _ (nowhere (is_word x)) e
  opens-due (Ctl.done t) p e = never_deep _ refl e
  opens-due (Ctl.word []) p e = word-due p
  opens-due (Ctl.word (x ∷ xs)) p e = never_deep _ (letter (eqb 40 x) _) e

-- ---- 14: the byte n places on is a parenthesis, of those before it and the levels outside all are open, and an operand is due there
record Sunk (s : List ℕ) (c : Ctl) (l : Level) (fs : List Level) (p r : ℕ) : Type 0 where
  pub n : ℕ
  pub place : r ≡ p + n
  pub inside : n < length s
  pub paren : get_or s n 0 ≡ 40
  pub all_open : length fs + count 40 (take n s) ≡ depth_most + count 41 (take n s)
  pub rest : List ℕ
  pub goes : is_accepted (run (take n s ++ 32 ∷ 97 ∷ rest) c l fs p) ≡ true

step_sunk : (b : ℕ) (bs : List ℕ) (c : Ctl) (l : Level) (fs : List Level) (p r : ℕ)
    → ((c' : Ctl) (l' : Level) (gs : List Level) → State c' gs → run bs c' l' gs (p + 1) ≡ refused 14 r → Sunk bs c' l' gs (p + 1) r)
    → (m : Move) → next c l fs b ≡ m → Good b fs m → follow p (λ c' l' gs. run bs c' l' gs (p + 1)) m ≡ refused 14 r → Sunk (b ∷ bs) c l fs p r
unfolding follow run count
step_sunk b bs c l fs p r ih m e dies f = let z : ◌≡◌ {A = ℕ} 13 14 = cc in absurd (omega arith)
step_sunk b bs c l fs p r ih m e (sinks q g) f =
    let d = opens-due l fs c p (rw q at e) in
    let i : r ≡ p = cc in
    record { n = 0; place = omega (arith, i); inside = omega arith; paren = q; all_open = omega arith; rest = d.rest; goes = d.goes }
step_sunk b bs c l fs p r ih m e (goes c' l' gs st q) f =
    let k = ih c' l' gs st f in
    record {
      n = suc k.n;
      place = omega (arith, k.place);
      inside = omega (arith, k.inside);
      paren = k.paren;
      all_open = omega (arith, k.all_open, q);
      rest = k.rest;
      goes = rw e k.goes;
    }

run_sunk : (s : List ℕ) (c : Ctl) (l : Level) (fs : List Level) (p r : ℕ) → State c fs → run s c l fs p ≡ refused 14 r → Sunk s c l fs p r
unfolding run
run_sunk [] c l fs p r st e = let z = (at-end c l fs p 14 r e).1 in absurd (omega arith)
run_sunk (b ∷ bs) c l fs p r st e =
    step_sunk b bs c l fs p r (λ c' l' fs'. run_sunk bs c' l' fs' (p + 1) r) (next c l fs b) refl (step_good l fs b c st) e

-- of a whole text: a parenthesis that opens stands at the place, and of those before it all are open
pub record Deep (s : List ℕ) (r : ℕ) : Type 0 where
  pub inside : r < length s
  pub paren : get_or s r 0 ≡ 40
  pub all_open : count 40 (take r s) ≡ depth_most + count 41 (take r s)

-- with a blank and a name for the parenthesis, some completion is accepted
pub record Operand-due (s : List ℕ) (r : ℕ) : Type 0 where
  pub rest : List ℕ
  pub goes : is_accepted (verdict (take r s ++ 32 ∷ 97 ∷ rest)) ≡ true

module _ (s : List ℕ) (r : ℕ) (e : verdict s ≡ refused 14 r) where
  sunk : Sunk s Ctl.want fresh [] 0 r
  unfolding verdict
  sunk = run_sunk s Ctl.want fresh [] 0 r begin e

  at_place : sunk.n ≡ r
  at_place = omega (arith, sunk.place)

  pub too_deep : Deep s r
  too_deep = record { inside = rw (← at_place) sunk.inside; paren = rw (← at_place) sunk.paren; all_open = rw (← at_place) (omega (arith, sunk.all_open)) }

  pub deep-due : Operand-due s r
  unfolding verdict
  deep-due = record { rest = sunk.rest; goes = ap (λ (n : ℕ). is_accepted (verdict (take n s ++ 32 ∷ 97 ∷ sunk.rest))) (sym at_place) ∙ sunk.goes }
