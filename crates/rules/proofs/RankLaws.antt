-- Which of two scored texts is the better one, and what the best of all stored texts is.
--     better-any                       the better one is one of the two
--     better-none                      it is the next where there is none yet,
--     better-ahead, better-behind      and where the next goes before; else it is the best so far
--     ahead-higher, ahead_tied         what scores higher goes before, and what scores no lower with a smaller kind;
--     behind, behind-of                what scores no higher, and on equal scores has no smaller kind, does not, and nothing else;
--     behind-lower                     what scores lower does not
--     ahead_not, ahead-between         so it is an order
--     best-one                         what holds of the best so far and of every stored text's scoring holds of the best
--     best-first                       no stored text scores higher than the best; none of an equal score has a smaller kind; none before it has both equal
--     books_first, first-number        so it is of the stored texts of sound books, and the best one's number is its place
-- Assumes nothing.
use mathlib.Core.Path.{◌≡◌, refl, sym, ap, ◌∙◌}
use mathlib.Core.Bool.{Bool, true, false, not, ◌&&◌, ◌||◌, cond, true≢false, false≢true}
use mathlib.Core.List.{List, [], ◌∷◌}
use Prim.Native.Nat.{ℕ, zero, suc, ◌≤◌, ◌<◌}
use native.Mathlib.Nat.{not-suc-le-zero, le_of_suc-le-suc}
use native.Mathlib.Omega.{arith}
use lib.Dec.{T, ltb, eqb}
use lib.Ieee.{lt}
use lib.ListN.{length, get_or}
use borrow.Author.Tests.{ltb-true, ltb-false, lt-ltb, le-ltb, ne_eqb}
use Rattle.rules.specs.Sizes.{text_most}
use Rattle.rules.specs.Points.{utf8}
use Rattle.rules.specs.Lines.{lines, size}
use Rattle.rules.specs.Table.{Table, table_of, view_table, value_of}
use Rattle.rules.specs.Search.{View, viewed, Stored, no_text, scored, Best, no_best, ahead, better, best_from, best}
use Rattle.rules.specs.Book.{all_sound, shelved}
use Rattle.rules.specs.Refusal.{unit}
use Rattle.rules.proofs.BoolLaws.{cond_of}
use Rattle.rules.proofs.DownLaws.{Each, each_at, each_of}
use Rattle.rules.proofs.FloatOrder.{lt_not, lt_between}
use Rattle.rules.proofs.SoundLaws.{StoredSound}
use Rattle.rules.proofs.TableLaws.{table_proper, stored_proper, value-unit}
use Rattle.rules.proofs.GrowthLaws.{view-total}
use Rattle.rules.proofs.ShelfLaws.{shelved-number, shelved-sound}

-- ---- the better of two
pub better-any : (P : Best → Type 0) (b n : Best) → P b → P n → P (better b n)
unfolding better
better-any P b n h k = cond_of P (eqb b.text.kind 0 || ahead b n) n b k h

pub better-none : (b n : Best) → eqb b.text.kind 0 ≡ true → better b n ≡ n
unfolding better
better-none b n k = rw k

pub better-ahead : (b n : Best) → ahead b n ≡ true → better b n ≡ n
unfolding better
better-ahead b n h = at (eqb b.text.kind 0)
  where
    at : (q : Bool) → cond (q || ahead b n) n b ≡ n
    at true = refl
    at false = rw h

pub better-behind : (b n : Best) → eqb b.text.kind 0 ≡ false → ahead b n ≡ false → better b n ≡ b
unfolding better
better-behind b n k h = rw (k, h)

-- ---- n goes before b
pub ahead-higher : (b n : Best) → lt b.value.score n.value.score ≡ true → ahead b n ≡ true
unfolding ahead
ahead-higher b n l = rw l

pub ahead_tied : (b n : Best) → lt n.value.score b.value.score ≡ false → n.text.kind < b.text.kind → ahead b n ≡ true
unfolding ahead
ahead_tied b n l k = at (lt b.value.score n.value.score)
  where
    at : (q : Bool) → q || not (lt n.value.score b.value.score) && ltb n.text.kind b.text.kind ≡ true
    at true = refl
    at false = rw (l, lt-ltb n.text.kind b.text.kind k)

-- it does not: it scores no higher, and where it scores no lower either its kind is no smaller
abbrev pub Behind : Best → Best → Type 0
Behind b n =
    (lt b.value.score n.value.score ≡ false) × (lt n.value.score b.value.score ≡ false → b.text.kind ≤ n.text.kind)

pub behind : (b n : Best) → Behind b n → ahead b n ≡ false
unfolding ahead
behind b n h = at (lt n.value.score b.value.score) refl
  where
    at : (q : Bool) → lt n.value.score b.value.score ≡ q →
        lt b.value.score n.value.score || not q && ltb n.text.kind b.text.kind ≡ false
    at true e = rw h.0
    at false e = rw (h.0, le-ltb n.text.kind b.text.kind (h.1 e))

pub behind-lower : (b n : Best) → lt n.value.score b.value.score ≡ true → ahead b n ≡ false
behind-lower b n l = behind b n (lt_not n.value.score b.value.score l, λ z. absurd (true≢false (sym l ∙ z)))

pub behind-of : (b n : Best) → ahead b n ≡ false → Behind b n
unfolding ahead
behind-of b n h = at (lt b.value.score n.value.score) (lt n.value.score b.value.score) (ltb n.text.kind b.text.kind) refl refl refl h
  where
    at : (p q r : Bool) → lt b.value.score n.value.score ≡ p → lt n.value.score b.value.score ≡ q → ltb n.text.kind b.text.kind ≡ r →
        p || not q && r ≡ false → Behind b n
    at true q r e f g h = absurd (true≢false h)
    at false true r e f g h = (e, λ z. absurd (true≢false (sym f ∙ z)))
    at false false true e f g h = absurd (true≢false h)
    at false false false e f g h = (e, λ z. ltb-false n.text.kind b.text.kind g)

-- what does not score higher and yet goes before has tied, and its kind is smaller
tied_of : (b n : Best) → ahead b n ≡ true → lt b.value.score n.value.score ≡ false →
    (lt n.value.score b.value.score ≡ false) × (n.text.kind < b.text.kind)
unfolding ahead
tied_of b n h l = at (lt n.value.score b.value.score) (ltb n.text.kind b.text.kind) refl refl (rw l at h)
  where
    at : (q r : Bool) → lt n.value.score b.value.score ≡ q → ltb n.text.kind b.text.kind ≡ r → not q && r ≡ true →
        (lt n.value.score b.value.score ≡ false) × (n.text.kind < b.text.kind)
    at true r e f h = absurd (false≢true h)
    at false true e f h = (e, ltb-true n.text.kind b.text.kind f)
    at false false e f h = absurd (false≢true h)

pub ahead_not : (b n : Best) → ahead b n ≡ true → ahead n b ≡ false
ahead_not b n h = at (lt b.value.score n.value.score) refl
  where
    at : (p : Bool) → lt b.value.score n.value.score ≡ p → ahead n b ≡ false
    at true e = behind-lower n b e
    at false e =
        let t = tied_of b n h e in
        behind n b (t.0, λ z. omega (arith, t.1))

-- its score is from 0.0 to 1.0
abbrev Fair : Best → Type 0
Fair b = T (unit b.value.score)

pub ahead-between : (x y z : Best) → Fair x → Fair y → Fair z → ahead x z ≡ true → ahead y z ≡ false → ahead x y ≡ true
ahead-between x y z fx fy fz h k = at (lt x.value.score z.value.score) refl
  where
    low : Behind y z
    low = behind-of y z k

    -- x and z tie, and z's kind is smaller
    tied : (lt z.value.score x.value.score ≡ false) × (z.text.kind < x.text.kind) → (p q : Bool) → lt z.value.score y.value.score ≡ p →
        lt y.value.score x.value.score ≡ q → ahead x y ≡ true
    tied t p true e f = absurd (true≢false (sym (lt_between y.value.score z.value.score x.value.score fz f t.0) ∙ low.0))
    tied t false false e f = ahead_tied x y f (omega (arith, t.1, low.1 e))
    tied t true false e f = over (lt x.value.score y.value.score) refl
      where
        over : (r : Bool) → lt x.value.score y.value.score ≡ r → ahead x y ≡ true
        over true g = ahead-higher x y g
        over false g = absurd (true≢false (sym (lt_between z.value.score x.value.score y.value.score fx e g) ∙ t.0))

    at : (p : Bool) → lt x.value.score z.value.score ≡ p → ahead x y ≡ true
    at true e = ahead-higher x y (lt_between x.value.score y.value.score z.value.score fy e low.0)
    at false e = tied (tied_of x z h e) (lt z.value.score y.value.score) (lt y.value.score x.value.score) refl refl

-- ---- the best of all: a stored text with what it scores
abbrev pub entered : Table → Stored → Best
entered t s = record { text = s; value = value_of t s.table }

pub best-one : (P : Best → Type 0) (t : Table) (v : View) (ss : List Stored) (b : Best) → Each (λ s. P (entered t s)) ss → P b → P (best_from t v ss b).value
unfolding best_from scored
best-one P t v [] b h k = k
best-one P t v (s ∷ ss) b h k = best-one P t v ss (better b (entered t s)) h.1 (better-any P b (entered t s) k h.0)

-- it is a text, which has a kind, and its score is from 0.0 to 1.0
abbrev pub Ranks : Best → Type 0
Ranks b = (eqb b.text.kind 0 ≡ false) × Fair b

module _ (t : Table) where
  -- the stored text at a place
  abbrev pub placed : List Stored → ℕ → Best
  placed ss k = entered t (get_or ss k no_text)

  -- r is one of them: none goes before it, and it goes before all that stand before it
  record Leads (ss : List Stored) (r : Best) : Type 0 where
    pub at : ℕ
    pub inside : at < length ss
    pub is : r ≡ placed ss at
    pub of-all : (k : ℕ) → k < length ss → ahead r (placed ss k) ≡ false
    pub of_those_before : (k : ℕ) → k < at → ahead (placed ss k) r ≡ true

  -- the best of b and of those behind it: b, unless one goes before it
  data Ranked (ss : List Stored) (b r : Best) : Type 0 where
    stays : r ≡ b → ((k : ℕ) → k < length ss → ahead b (placed ss k) ≡ false) → Ranked ss b r
    moves : ahead b r ≡ true → Leads ss r → Ranked ss b r

  ahead_self : (b : Best) → ahead b b ≡ false
  ahead_self b = at (ahead b b) refl
    where
      at : (q : Bool) → ahead b b ≡ q → ahead b b ≡ false
      at true e = ahead_not b b e
      at false e = e

  -- one text more in front: it leads, or what leads goes before it
  leads_here : (s : Stored) (ss : List Stored) (r : Best) → r ≡ entered t s → ((k : ℕ) → k < length ss → ahead r (placed ss k) ≡ false) → Leads (s ∷ ss) r
  leads_here s ss r e none = record { at = 0; inside = omega arith; is = e; of-all = each; of_those_before = λ k l. absurd (not-suc-le-zero l) }
    where
      each : (k : ℕ) → k < length (s ∷ ss) → ahead r (placed (s ∷ ss) k) ≡ false
      each zero l = rw e (ahead_self (entered t s))
      each (suc k) l = none k (le_of_suc-le-suc l)

  leads_on : (s : Stored) (ss : List Stored) (r : Best) → ahead (entered t s) r ≡ true → Leads ss r → Leads (s ∷ ss) r
  leads_on s ss r g w = record { at = suc w.at; inside = omega (arith, w.inside); is = w.is; of-all = each; of_those_before = before }
    where
      each : (k : ℕ) → k < length (s ∷ ss) → ahead r (placed (s ∷ ss) k) ≡ false
      each zero l = ahead_not (entered t s) r g
      each (suc k) l = w.of-all k (le_of_suc-le-suc l)

      before : (k : ℕ) → k < suc w.at → ahead (placed (s ∷ ss) k) r ≡ true
      before zero l = g
      before (suc k) l = w.of_those_before k (le_of_suc-le-suc l)

  ranked : (v : View) (ss : List Stored) (b : Best) → Each (λ s. Ranks (entered t s)) ss → Ranks b → Ranked ss b (best_from t v ss b).value
  unfolding best_from scored
  ranked v [] b h k = stays refl (λ k l. absurd (not-suc-le-zero l))
  ranked v (s ∷ ss) b h k = at (λ x f. ranked v ss x h.1 f) (ahead b new) refl
    where
      new : Best
      new = entered t s

      rest : Best → Best
      rest x = (best_from t v ss x).value

      fair : (x : Best) → Ranks x → Fair (rest x)
      fair x f = (best-one Ranks t v ss x h.1 f).1

      -- s goes before b, and the best of the rest is s or goes before it
      over : ahead b new ≡ true → Ranked ss new (rest new) → Ranked (s ∷ ss) b (rest new)
      over g (stays e none) = moves (ap (ahead b) e ∙ g) (leads_here s ss (rest new) e (λ k l. ap (λ (x : Best). ahead x (placed ss k)) e ∙ none k l))
      over g (moves f w) =
          moves (ahead-between b (rest new) new k.1 (fair new h.0) h.0.1 g (ahead_not new (rest new) f)) (leads_on s ss (rest new) f w)

      -- s does not, so whatever goes before b goes before s
      under : ahead b new ≡ false → Ranked ss b (rest b) → Ranked (s ∷ ss) b (rest b)
      under g (stays e none) = stays e each
        where
          each : (k : ℕ) → k < length (s ∷ ss) → ahead b (placed (s ∷ ss) k) ≡ false
          each zero l = g
          each (suc k) l = none k (le_of_suc-le-suc l)
      under g (moves f w) = moves f (leads_on s ss (rest b) (past (ahead new (rest b)) refl) w)
        where
          past : (q : Bool) → ahead new (rest b) ≡ q → ahead new (rest b) ≡ true
          past true e = e
          past false e = absurd (true≢false (sym (ahead-between b new (rest b) k.1 h.0.1 (fair b k) f e) ∙ g))

      at : ((x : Best) → Ranks x → Ranked ss x (rest x)) → (q : Bool) → ahead b new ≡ q → Ranked (s ∷ ss) b (rest (better b new))
      at go true g = rw (better-ahead b new g) (over g (go new h.0))
      at go false g = rw (better-behind b new k.0 g) (under g (go b k))

-- the text at place `at`: no stored text scores higher; none of an equal score has a smaller kind; none before it has both equal
pub record First (t : Table) (ss : List Stored) (r : Best) : Type 0 where
  pub at : ℕ
  pub inside : at < length ss
  pub is : r ≡ placed t ss at
  pub no-higher : (k : ℕ) → k < length ss → lt r.value.score (placed t ss k).value.score ≡ false
  pub no-smaller-kind : (k : ℕ) → k < length ss → lt (placed t ss k).value.score r.value.score ≡ false → r.text.kind ≤ (placed t ss k).text.kind
  pub none_before : (k : ℕ) → k < at → lt (placed t ss k).value.score r.value.score ≡ false → (placed t ss k).text.kind ≡ r.text.kind → ⊥

leads_first : (t : Table) (ss : List Stored) (r : Best) → Leads t ss r → First t ss r
leads_first t ss r w =
    record {
      at = w.at;
      inside = w.inside;
      is = w.is;
      no-higher = λ k l. (behind-of r (placed t ss k) (w.of-all k l)).0;
      no-smaller-kind = λ k l. (behind-of r (placed t ss k) (w.of-all k l)).1;
      none_before = λ k l z e. omega (arith, (tied_of (placed t ss k) r (w.of_those_before k l) z).1, e);
    }

pub best-first : (ss : List Stored) (ls : List (List ℕ)) (v : View) → 0 < length ss → Each (λ s. Ranks (entered (view_table (viewed ls v)) s)) ss →
    First (view_table (viewed ls v)) ss (best ss ls v).value
unfolding best best_from scored better no_best no_text
best-first [] ls v n h = absurd (not-suc-le-zero n)
best-first (s ∷ ss) ls v n h = leads_first t (s ∷ ss) (best_from t v ss new).value (at (ranked t v ss new h.1 h.0))
  where
    t : Table
    t = view_table (viewed ls v)

    new : Best
    new = entered t s

    at : Ranked t ss new (best_from t v ss new).value → Leads t (s ∷ ss) (best_from t v ss new).value
    at (stays e none) = leads_here t s ss _ e (λ k l. ap (λ (x : Best). ahead x (placed t ss k)) e ∙ none k l)
    at (moves f w) = leads_on t s ss _ f w

-- ---- of the stored texts of sound books, for any view of a text that is not refused, also with lines blanked
scored_ranks : (e : ℕ) (t : List ℕ) (ls : List (List ℕ)) (v : View) (s : Stored) → utf8 false t ≡ true → length t ≤ text_most → size ls ≤ size (lines e t) → StoredSound s →
    Ranks (entered (view_table (viewed ls v)) s)
unfolding view_table table_of
scored_ranks e t ls v s u h k q = (
  ne_eqb s.kind 0 (λ z. omega (arith, q.kind-from, z)),
  value-unit (view_table (viewed ls v)) s.table (table_proper _ (view-total e t ls v u h k)) (stored_proper s q),
)

pub books_first : (e : ℕ) (t : List ℕ) (bs : List (List ℕ)) (ls : List (List ℕ)) (v : View) → utf8 false t ≡ true → length t ≤ text_most → size ls ≤ size (lines e t) →
    all_sound bs ≡ true → 0 < length (shelved 0 bs) → First (view_table (viewed ls v)) (shelved 0 bs) (best (shelved 0 bs) ls v).value
books_first e t bs ls v u h k sound some =
    best-first (shelved 0 bs) ls v some (each_of (λ s. Ranks (entered (view_table (viewed ls v)) s)) (shelved 0 bs) no_text (λ i l.
    scored_ranks e t ls v (get_or (shelved 0 bs) i no_text) u h k (each_at StoredSound (shelved 0 bs) i no_text l (shelved-sound 0 bs sound))))

-- its place is its number
pub first-number : (t : Table) (bs : List (List ℕ)) (r : Best) (f : First t (shelved 0 bs) r) → r.text.number ≡ f.at
first-number t bs r f = omega (arith, ap (λ (b : Best). b.text.number) f.is, shelved-number 0 bs f.at f.inside)
