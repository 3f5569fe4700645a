-- A step that goes on only at places of a smaller measure is what `recurse` does at every place (`recurse-step`); and so the plain step
-- of each definition that recurses so: the search, the starts and ends of top-down, its rounds, and the pieces of a book.
-- Assumes nothing.
use mathlib.Core.Path.{◌≡◌, refl, sym, ap, ap₂, ◌∙◌, subst}
use Prim.Native.Nat.{ℕ, zero, suc, ◌+◌, ◌-◌, ◌≤◌, ◌<◌}
use native.Mathlib.Nat.{not-suc-le-zero}
use native.Mathlib.Omega.{arith}
use mathlib.Core.Bool.{Bool, true, false, cond}
use mathlib.Core.List.{List, [], ◌∷◌}
use mathlib.Core.Option.{none}
use lib.ListN.{length, take, drop, length-drop}
use lib.Dec.{leb, ltb}
use lib.Ieee.{lt, le}
use borrow.Author.Tests.{le-leb, lt-leb, leb-true, leb-false, ltb-true, lt-ltb, le-ltb}
use Rattle.rules.specs.Table.{Value}
use Rattle.rules.specs.Search.{turns, recurse, Made, Index, Span, width, low, high, higher, narrow, sweep_from, sweep, search, ◌>>=◌}
use Rattle.rules.specs.Scan.{steps_on, steps}
use Rattle.rules.specs.Book.{number, Form, Piece, Front, end, whole, broken, front, also, go_on, pieces}
use Rattle.rules.proofs.BoolLaws.{cond_of}

-- the step g at a depends on what it goes on with only at places below a
abbrev pub Falls : {A B : Type 0} → (A → ℕ) → ((A → B) → A → B) → A → Type 0
Falls {A} {B} measure step a = (g h : A → B) → ((b : A) → measure b < measure a → g b ≡ h b) → step g a ≡ step h a

module _ {A B : Type 0} (measure : A → ℕ) (end : A → B) (step : (A → B) → A → B) (falls : (a : A) → Falls measure step a) where
  -- any two depths above the measure give the same
  turns_same : (n m : ℕ) (a : A) → measure a < n → measure a < m → turns n end step a ≡ turns m end step a
  unfolding turns
  turns_same zero m a h k = absurd (not-suc-le-zero h)
  turns_same (suc n) zero a h k = absurd (not-suc-le-zero k)
  turns_same (suc n) (suc m) a h k =
      falls a (turns n end step) (turns m end step) (λ b l. turns_same n m b (omega arith) (omega arith))

  pub recurse-step : (a : A) → recurse measure end step a ≡ step (recurse measure end step) a
  unfolding recurse turns
  recurse-step a =
      falls a (turns (measure a) end step) (recurse measure end step)
      (λ b l. turns_same (measure a) (suc (measure b)) b l (omega arith))

-- ---- the search
abbrev pub lefts : Span → Span
lefts s = record { left = s.left; right = high s - 1 }

abbrev pub rights : Span → Span
rights s = record { left = low s + 1; right = s.right }

-- one turn, which goes on with a, the left part, or with b, the right part
abbrev turn : (ℕ → Made Value) → Span → Made Index → Made Index → Made Index
turn score_at s a b =
    cond (leb (width s) 3) (sweep score_at s)
    (score_at (low s) >>= λ x. score_at (high s) >>= λ y. cond (lt y.score x.score) a b)

narrow_falls : (score_at : ℕ → Made Value) (s : Span) → Falls width (narrow score_at) s
unfolding narrow
narrow_falls score_at s g h e = at (leb (width s) 3) refl
  where
    at : (t : Bool) → leb (width s) 3 ≡ t → turn score_at s (g (lefts s)) (g (rights s)) ≡ turn score_at s (h (lefts s)) (h (rights s))
    at true q = simp q
    at false q =
        let w = leb-false (width s) 3 q in
        ap₂ (turn score_at s) (e (lefts s) (omega arith)) (e (rights s) (omega arith))

pub search-step : (score_at : ℕ → Made Value) (s : Span) →
    search score_at s.left s.right ≡ narrow score_at (λ u. search score_at u.left u.right) s
unfolding search
search-step score_at s = recurse-step width (sweep score_at) (narrow score_at) (narrow_falls score_at) s

-- its two cases
pub search_near : (score_at : ℕ → Made Value) (s : Span) → width s ≤ 3 → search score_at s.left s.right ≡ sweep score_at s
unfolding narrow
search_near score_at s h = search-step score_at s ∙ simp (le-leb (width s) 3 h)

pub search_far : (score_at : ℕ → Made Value) (s : Span) → 3 < width s →
    search score_at s.left s.right ≡
    (score_at (low s) >>= λ x. score_at (high s) >>= λ y.
    cond (lt y.score x.score) (search score_at s.left (high s - 1)) (search score_at (low s + 1) s.right))
unfolding narrow
search_far score_at s h = search-step score_at s ∙ simp (lt-leb (width s) 3 h)

-- what holds of every index of [left, right] with its value holds of the one that a sweep, and the search, finds
module _ (score_at : ℕ → Made Value) (P : Index → Type 0) where
  abbrev at : ℕ → Index
  at i = record { at = i; value = (score_at i).value }

  abbrev Over : Span → Type 0
  Over s = (i : ℕ) → s.left ≤ i → i ≤ s.right → P (at i)

  abbrev Holds : Made Index → Type 0
  Holds m = P m.value

  sweep_from-of : (s : Span) (n i : ℕ) (b : Index) → s.left ≤ i → i + n ≤ suc s.right → Over s → P b → Holds (sweep_from score_at n i b)
  unfolding sweep_from higher
  sweep_from-of s zero i b h k f p = p
  sweep_from-of s (suc n) i b h k f p =
      sweep_from-of s n (suc i) (higher b (at i)) (omega arith) (omega arith) f (cond_of P (le b.value.score (score_at i).value.score) (at i) b (f i h (omega arith)) p)

  sweep-of : (s : Span) → s.left ≤ s.right → Over s → Holds (sweep score_at s)
  unfolding sweep
  sweep-of s h f =
      sweep_from-of s (s.right - s.left) (suc s.left) (at s.left) (omega arith) (omega arith) f (f s.left (omega arith) h)

  search-to : (n : ℕ) (s : Span) → width s < n → s.left ≤ s.right → Over s → Holds (search score_at s.left s.right)
  search-to zero s h k f = absurd (not-suc-le-zero h)
  search-to (suc n) s h k f = by (leb (width s) 3) refl (λ u. search-to n u)
    where
      by : (t : Bool) → leb (width s) 3 ≡ t → ((u : Span) → width u < n → u.left ≤ u.right → Over u → Holds (search score_at u.left u.right)) →
          Holds (search score_at s.left s.right)
      by true q go = subst Holds (sym (search_near score_at s (leb-true (width s) 3 q))) (sweep-of s k f)
      by false q go =
          let w = leb-false (width s) 3 q in
          subst Holds (sym (search_far score_at s w))
          (cond_of Holds (lt (score_at (high s)).value.score (score_at (low s)).value.score) _ _
          (go (lefts s) (omega arith) (omega arith) (λ i p q. f i p (omega arith)))
          (go (rights s) (omega arith) (omega arith) (λ i p q. f i (omega arith) q)))

  pub search-of : (l r : ℕ) → l ≤ r → ((i : ℕ) → l ≤ i → i ≤ r → P (at i)) → P (search score_at l r).value
  search-of l r h f = search-to (suc (r - l)) (record { left = l; right = r }) (omega arith) h f

-- so it lies there, and its value is its scoring's
pub search_in : (score_at : ℕ → Made Value) (l r : ℕ) → l ≤ r → (l ≤ (search score_at l r).value.at) × ((search score_at l r).value.at ≤ r)
search_in score_at l r h = search-of score_at (λ i. (l ≤ i.at) × (i.at ≤ r)) l r h (λ i p q. (p, q))

pub search-scored : (score_at : ℕ → Made Value) (l r : ℕ) → l ≤ r → (search score_at l r).value.value ≡ (score_at (search score_at l r).value.at).value
search-scored score_at l r h = search-of score_at (λ i. i.value ≡ (score_at i.at).value) l r h (λ i p q. refl)

-- ---- starts and ends: a, a + s, .. below n
steps_falls : (s n : ℕ) → 0 < s → (a : ℕ) → Falls (λ i. n - i) (steps_on s n) a
unfolding steps_on
steps_falls s n p a g h e = at (ltb a n) refl
  where
    at : (t : Bool) → ltb a n ≡ t → steps_on s n g a ≡ steps_on s n h a
    at true q = let l = ltb-true a n q in ap (λ (r : List ℕ). cond (ltb a n) (a ∷ r) []) (e (a + s) (omega arith))
    at false q = simp q

steps-step : (s n : ℕ) → 0 < s → (a : ℕ) → steps s a n ≡ steps_on s n (λ i. steps s i n) a
unfolding steps
steps-step s n p a = recurse-step (λ i. n - i) (λ i. []) (steps_on s n) (steps_falls s n p) a

pub steps-more : (s a n : ℕ) → 0 < s → a < n → steps s a n ≡ a ∷ steps s (a + s) n
unfolding steps_on
steps-more s a n p h = steps-step s n p a ∙ simp (lt-ltb a n h)

pub steps-end : (s a n : ℕ) → 0 < s → n ≤ a → steps s a n ≡ []
unfolding steps_on
steps-end s a n p h = steps-step s n p a ∙ simp (le-ltb a n h)

-- ---- the pieces of a byte string
zero≢one : ◌≡◌ {A = ℕ} 0 1 → ⊥
zero≢one z = omega arith

-- a whole piece p at the front of s, and what follows it
pub record Cut (f : Form) (s : List ℕ) (p : Piece) (more : List ℕ) : Type 0 where
  pub fits : f.head + number 4 (drop f.place s) ≤ length s
  pub head : p.head ≡ take f.head s
  pub body : p.body ≡ take (number 4 (drop f.place s)) (drop f.head s)
  pub rest : more ≡ drop (f.head + number 4 (drop f.place s)) s

pub front_cut : (f : Form) (s : List ℕ) (p : Piece) (more : List ℕ) → front f s ≡ whole p more → Cut f s p more
unfolding front
front_cut f [] p more e = let z : ◌≡◌ {A = ℕ} 0 1 = cc in absurd (zero≢one z)
front_cut f (x ∷ xs) p more e = at (leb (f.head + n) (length (x ∷ xs))) refl e
  where
    n : ℕ
    n = number 4 (drop f.place (x ∷ xs))

    cut : Piece
    cut = record { head = take f.head (x ∷ xs); body = take n (drop f.head (x ∷ xs)) }

    at : (t : Bool) → leb (f.head + n) (length (x ∷ xs)) ≡ t →
        ◌≡◌ {A = Front} (cond t (whole cut (drop (f.head + n) (x ∷ xs))) broken) (whole p more) → Cut f (x ∷ xs) p more
    at true q e =
        let c : p ≡ cut = cc in
        record { fits = leb-true (f.head + n) (length (x ∷ xs)) q; head = ap (λ (r : Piece). r.head) c; body = ap (λ (r : Piece). r.body) c; rest = cc }
    at false q e = let z : ◌≡◌ {A = ℕ} 0 1 = cc in absurd (zero≢one z)

pub front_shrinks : (f : Form) (s : List ℕ) (p : Piece) (more : List ℕ) → 0 < f.head → front f s ≡ whole p more → length more < length s
front_shrinks f s p more h e =
    let c = front_cut f s p more e in
    let n = number 4 (drop f.place s) in
    omega (arith, length-drop (f.head + n) s, ap length c.rest)

pieces_falls : {A : Type 0} (f : Form) (read : Piece → A) → 0 < f.head → (s : List ℕ) → Falls length (λ go t. go_on read go (front f t)) s
unfolding go_on
pieces_falls {A} f read p s g h e = at (front f s) refl
  where
    at : (r : Front) → front f s ≡ r → go_on read g r ≡ go_on read h r
    at end q = refl
    at (whole c more) q = ap (also (read c)) (e more (front_shrinks f s c more p q))
    at broken q = refl

pub pieces_step : {A : Type 0} (f : Form) (read : Piece → A) → 0 < f.head → (s : List ℕ) →
    pieces f read s ≡ go_on read (pieces f read) (front f s)
unfolding pieces
pieces_step f read p s = recurse-step length (λ t. none) (λ go t. go_on read go (front f t)) (pieces_falls f read p) s
