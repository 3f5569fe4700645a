-- Tables strictly rise by bytes and count from 1 (`Rising`), a text's and a sound book's. So m is at most each total, the same either way
-- round, and half of t exactly if the tables are equal; and the rules' sentences on the score hold of `value_of` (`value-..`).
-- Assumes nothing.
use mathlib.Core.Path.{◌≡◌, refl, sym, ap, ap₂, ◌∙◌}
use mathlib.Core.Logic.{◌↔◌, ◌≢◌, inl, inr}
use Prim.Native.Nat.{ℕ, ◌+◌, ◌*◌, ◌^◌, ◌≤◌, ◌<◌, min, Ordering}
use native.Mathlib.Nat.{zero-add, add_comm, min_comm, eq-zero-or-pos}
use native.Mathlib.Omega.{arith}
use mathlib.Core.Bool.{Bool, true, false, ◌&&◌, cond}
use mathlib.Core.List.{List, [], ◌∷◌}
use lib.Dec.{T, ltb}
use lib.ListN.{length}
use borrow.Author.Tests.{ltb-true}
use Rattle.rules.specs.Sizes.{total_most}
use Rattle.rules.specs.Bytes.{order, same, rises}
use Rattle.rules.specs.Prefix.{Counted}
use Rattle.rules.specs.Table.{Table, tally, tallied, occurs, table_of, count_in, meet, nought, one, score, value_of, Close}
use Rattle.rules.specs.Book.{sum, Above, Rising, Proper, sound_entries}
use Rattle.rules.specs.Search.{Stored}
use Rattle.rules.specs.Refusal.{unit}
use Rattle.rules.proofs.BoolLaws.{and_left, and_right}
use Rattle.rules.proofs.SoundLaws.{StoredSound}
use Rattle.rules.proofs.OrderLaws.{flip, order_eq, order_flip, order_trans, rises-is, same_by}
use Rattle.rules.proofs.ScoreLaws.{ScoreFacts, score_facts}

-- ---- counts from 1, strictly rising by bytes
pub above_trans : (g h : List ℕ) (es : List Counted) → order g h ≡ Ordering.lt → Above h es → Above g es
above_trans g h [] l a = tt
above_trans g h (e ∷ es) l a = (rises-is g e.bytes).1 (order_trans g h e.bytes l ((rises-is h e.bytes).0 a))

turned : (o : Ordering) (xs ys : List ℕ) → order xs ys ≡ o → order ys xs ≡ flip o
turned o xs ys e = order_flip xs ys ∙ ap flip e

-- ---- tally
unfoldable pub placed : Ordering → List ℕ → Counted → List Counted → List Counted
placed o g e es = elim o [
  | Ordering.lt ↦ record { bytes = g; count = 1 } ∷ e ∷ es
  | Ordering.eq ↦ record { bytes = g; count = e.count + 1 } ∷ es
  | Ordering.gt ↦ e ∷ tally g es
]

pub tally_cons : (g : List ℕ) (e : Counted) (es : List Counted) → tally g (e ∷ es) ≡ placed (order g e.bytes) g e es
unfolding tally placed
tally_cons g e es = refl

tally_above : (h g : List ℕ) (es : List Counted) → order h g ≡ Ordering.lt → Above h es → Above h (tally g es)
unfolding tally placed
tally_above h g [] l a = (rises-is h g).1 l
tally_above h g (e ∷ es) l a = rw (tally_cons g e es) (go (order g e.bytes))
  where
    go : (o : Ordering) → Above h (placed o g e es)
    go Ordering.lt = (rises-is h g).1 l
    go Ordering.eq = (rises-is h g).1 l
    go Ordering.gt = a

tally-rising : (g : List ℕ) (es : List Counted) → Rising es → Rising (tally g es)
unfolding tally placed
tally-rising g [] r = (omega arith, tt, tt)
tally-rising g (e ∷ es) r = rw (tally_cons g e es) (go (order g e.bytes) refl (tally-rising g es r.2))
  where
    go : (o : Ordering) → order g e.bytes ≡ o → Rising (tally g es) → Rising (placed o g e es)
    go Ordering.lt q more = (omega arith, (rises-is g e.bytes).1 q, r)
    go Ordering.eq q more = (omega arith, rw ((order_eq g e.bytes).0 q) r.1, r.2)
    go Ordering.gt q more = (r.0, tally_above e.bytes g es (turned Ordering.gt g e.bytes q) r.1, more)

tally-sum : (g : List ℕ) (es : List Counted) → sum (tally g es) ≡ sum es + 1
unfolding tally placed sum
tally-sum g [] = omega arith
tally-sum g (e ∷ es) = rw (tally_cons g e es) (go (order g e.bytes) (tally-sum g es))
  where
    go : (o : Ordering) → sum (tally g es) ≡ sum es + 1 → sum (placed o g e es) ≡ e.count + sum es + 1
    go Ordering.lt more = omega arith
    go Ordering.eq more = omega arith
    go Ordering.gt more = omega arith

-- one more of g, and none more of any other
tally-count : (g h : List ℕ) (es : List Counted) → count_in (tally g es) h ≡ cond (same g h) 1 0 + count_in es h
unfolding tally placed count_in
tally-count g h [] = refl
tally-count g h (e ∷ es) = rw (tally_cons g e es) (go (order g e.bytes) refl (tally-count g h es))
  where
    more : (t : Bool) (c n : ℕ) → cond t (c + 1) 0 + n ≡ cond t 1 0 + (cond t c 0 + n)
    more true c n = omega arith
    more false c n = omega arith

    go : (o : Ordering) → order g e.bytes ≡ o → count_in (tally g es) h ≡ cond (same g h) 1 0 + count_in es h
        → count_in (placed o g e es) h ≡ cond (same g h) 1 0 + (cond (same e.bytes h) e.count 0 + count_in es h)
    go Ordering.lt q ih = refl
    go Ordering.eq q ih = rw (← (order_eq g e.bytes).0 q) (more (same g h) e.count (count_in es h))
    go Ordering.gt q ih = omega arith

pub tallied-count : (g : List ℕ) (gs : List (List ℕ)) → count_in (tallied gs) g ≡ occurs g gs
unfolding tallied count_in occurs
tallied-count g [] = refl
tallied-count g (h ∷ gs) = tally-count h g (tallied gs) ∙ ap (λ n. cond (same h g) 1 0 + n) (tallied-count g gs)

pub tallied-rising : (gs : List (List ℕ)) → Rising (tallied gs)
unfolding tallied
tallied-rising [] = tt
tallied-rising (g ∷ gs) = tally-rising g (tallied gs) (tallied-rising gs)

pub tallied-sum : (gs : List (List ℕ)) → sum (tallied gs) ≡ length gs
unfolding tallied sum
tallied-sum [] = refl
tallied-sum (g ∷ gs) = omega (arith, tally-sum g (tallied gs), tallied-sum gs)

-- ---- a sound table body
pub sound-entries-rising : (last : List ℕ) (es : List Counted) → sound_entries last es ≡ true → Above last es × Rising es
unfolding sound_entries
sound-entries-rising last [] e = (tt, tt)
sound-entries-rising last (e ∷ es) h =
    let one_up : Bool = ltb 0 e.count in
    let above : Bool = rises last e.bytes in
    let a = and_left (one_up && above) (sound_entries e.bytes es) h in
    let more = sound-entries-rising e.bytes es (and_right (one_up && above) (sound_entries e.bytes es) h) in
    (and_right one_up above a, (ltb-true 0 e.count (and_left one_up above a), more.0, more.1))

-- ---- m, by where the first entries stand
count_skip : (e : Counted) (es : List Counted) (g : List ℕ) → same e.bytes g ≡ false → count_in (e ∷ es) g ≡ count_in es g
unfolding count_in
count_skip e es g q = rw q (zero-add (count_in es g))

pub count_none : (g : List ℕ) (es : List Counted) → Above g es → Rising es → count_in es g ≡ 0
unfolding count_in
count_none g [] a r = refl
count_none g (e ∷ es) a r =
    let l = (rises-is g e.bytes).0 a in
    count_skip e es g (same_by Ordering.gt e.bytes g (turned Ordering.lt g e.bytes l))
    ∙ count_none g es (above_trans g e.bytes es l r.1) r.2

pub meet_left : (e : Counted) (es fs : List Counted) → Above e.bytes fs → Rising fs → meet (e ∷ es) fs ≡ meet es fs
unfolding meet
meet_left e es fs a r = omega (arith, count_none e.bytes fs a r)

pub meet_right : (es : List Counted) (f : Counted) (fs : List Counted) → Above f.bytes es → Rising es → meet es (f ∷ fs) ≡ meet es fs
unfolding meet
meet_right [] f fs a r = refl
meet_right (e ∷ es) f fs a r =
    let l = (rises-is f.bytes e.bytes).0 a in
    ap₂ (λ n k. min e.count n + k)
    (count_skip f fs e.bytes (same_by Ordering.lt f.bytes e.bytes l))
    (meet_right es f fs (above_trans f.bytes e.bytes es l r.1) r.2)

pub meet-both : (e : Counted) (es : List Counted) (f : Counted) (fs : List Counted)
    → e.bytes ≡ f.bytes → Rising (e ∷ es) → Rising (f ∷ fs) → meet (e ∷ es) (f ∷ fs) ≡ min e.count f.count + meet es fs
unfolding meet count_in
meet-both e es f fs q r s =
    let n : count_in fs e.bytes ≡ 0 = count_none e.bytes fs (rw q s.1) s.2 in
    let y = same_by Ordering.eq f.bytes e.bytes ((order_eq f.bytes e.bytes).1 (sym q)) in
    let m = meet_right es f fs (rw (← q) r.1) r.2 in
    ap₂ (λ n k. min e.count n + k) (rw y (omega arith)) m

-- ---- the walk through two tables, and m along it
data Walk : List Counted → List Counted → ℕ → Type 0 where
  left_end : {fs : List Counted} → Walk [] fs 0
  right_end : {es : List Counted} → Walk es [] 0
  left : {e f : Counted} {es fs : List Counted} {m : ℕ}
      → rises e.bytes f.bytes ≡ true → Walk es (f ∷ fs) m → Walk (e ∷ es) (f ∷ fs) m
  right : {e f : Counted} {es fs : List Counted} {m : ℕ}
      → rises f.bytes e.bytes ≡ true → Walk (e ∷ es) fs m → Walk (e ∷ es) (f ∷ fs) m
  same_bytes : {e f : Counted} {es fs : List Counted} {m : ℕ}
      → e.bytes ≡ f.bytes → Walk es fs m → Walk (e ∷ es) (f ∷ fs) (min e.count f.count + m)

walk-on : (e : Counted) (es : List Counted) → ((fs : List Counted) → (m : ℕ) × Walk es fs m)
    → (fs : List Counted) → (m : ℕ) × Walk (e ∷ es) fs m
walk-on e es go [] = (0, right_end)
walk-on e es go (f ∷ fs) = by (order e.bytes f.bytes) refl (walk-on e es go fs)
  where
    by : (o : Ordering) → order e.bytes f.bytes ≡ o → (m : ℕ) × Walk (e ∷ es) fs m → (m : ℕ) × Walk (e ∷ es) (f ∷ fs) m
    by Ordering.lt q w = ((go (f ∷ fs)).0, left ((rises-is e.bytes f.bytes).1 q) (go (f ∷ fs)).1)
    by Ordering.eq q w = (min e.count f.count + (go fs).0, same_bytes ((order_eq e.bytes f.bytes).0 q) (go fs).1)
    by Ordering.gt q w = (w.0, right ((rises-is f.bytes e.bytes).1 (turned Ordering.gt e.bytes f.bytes q)) w.1)

walk : (es fs : List Counted) → (m : ℕ) × Walk es fs m
walk [] fs = (0, left_end)
walk (e ∷ es) fs = walk-on e es (walk es) fs

meet-none : (es : List Counted) → meet es [] ≡ 0
unfolding meet count_in
meet-none [] = refl
meet-none (e ∷ es) = omega (arith, meet-none es)

walk-meet : {es fs : List Counted} {m : ℕ} → Walk es fs m → Rising es → Rising fs → meet es fs ≡ m
unfolding meet
walk-meet left_end r s = refl
walk-meet (right_end {es = es}) r s = meet-none es
walk-meet (left {e} {f} {es} {fs} l w) r s = meet_left e es (f ∷ fs) l s ∙ walk-meet w r.2 s
walk-meet (right {e} {f} {es} {fs} l w) r s = meet_right (e ∷ es) f fs l r ∙ walk-meet w r s.2
walk-meet (same_bytes {e} {f} {es} {fs} q w) r s =
    meet-both e es f fs q r s ∙ ap (λ k. min e.count f.count + k) (walk-meet w r.2 s.2)

walk_swap : {es fs : List Counted} {m : ℕ} → Walk es fs m → Walk fs es m
walk_swap left_end = right_end
walk_swap right_end = left_end
walk_swap (left l w) = right l (walk_swap w)
walk_swap (right l w) = left l (walk_swap w)
walk_swap (same_bytes {e} {f} {es} {fs} {m} q w) = rw (min_comm e.count f.count) (same_bytes (sym q) (walk_swap w))

walk_le : {es fs : List Counted} {m : ℕ} → Walk es fs m → m ≤ sum es
unfolding sum
walk_le left_end = omega arith
walk_le right_end = omega arith
walk_le (left l w) = omega (arith, walk_le w)
walk_le (right l w) = walk_le w
walk_le (same_bytes {e} {f} {es} {fs} {m} q w) = omega (arith, walk_le w)

sum-none : sum [] ≡ 0
unfolding sum
sum-none = refl

empty : (es : List Counted) → Rising es → sum es ≡ 0 → es ≡ []
unfolding sum
empty [] r z = refl
empty (e ∷ es) r z = absurd (omega arith)

entry_path : (e f : Counted) → e.bytes ≡ f.bytes → e.count ≡ f.count → e ≡ f
entry_path e f p q = λ i. record { bytes = p i; count = q i }

walk-full : {es fs : List Counted} {m : ℕ} → Walk es fs m → Rising es → Rising fs → 2 * m ≡ sum es + sum fs → es ≡ fs
unfolding sum
walk-full (left_end {fs}) r s z = sym (empty fs s (omega arith))
walk-full (right_end {es}) r s z = empty es r (omega arith)
walk-full (left l w) r s z = absurd (omega (arith, walk_le w, walk_le (walk_swap w)))
walk-full (right l w) r s z = absurd (omega (arith, walk_le w, walk_le (walk_swap w)))
walk-full (same_bytes {e} {f} {es} {fs} {m} q w) r s z =
    let a = walk_le w in
    let b = walk_le (walk_swap w) in
    ap₂ ◌∷◌ (entry_path e f q (omega arith)) (walk-full w r.2 s.2 (omega arith))

-- ---- m of two tables
meet-counts : (ds es fs : List Counted) → ((g : List ℕ) → count_in es g ≡ count_in fs g) → meet ds es ≡ meet ds fs
unfolding meet
meet-counts [] es fs c = refl
meet-counts (d ∷ ds) es fs c = ap₂ (λ n k. min d.count n + k) (c d.bytes) (meet-counts ds es fs c)

meet_self : (es : List Counted) → Rising es → meet es es ≡ sum es
unfolding sum
meet_self [] r = unfold meet in refl
meet_self (e ∷ es) r = omega (arith, meet-both e es e es refl r r, meet_self es r.2)

module _ (es fs : List Counted) (r : Rising es) (s : Rising fs) where
  walked : Walk es fs (meet es fs)
  walked = rw (walk-meet (walk es fs).1 r s) (walk es fs).1

  pub meet_le : (meet es fs ≤ sum es) × (meet es fs ≤ sum fs)
  meet_le = (walk_le walked, walk_le (walk_swap walked))

  pub meet_symmetric : meet es fs ≡ meet fs es
  meet_symmetric = sym (walk-meet (walk_swap walked) s r)

  pub meet-full : (2 * meet es fs ≡ sum es + sum fs) ↔ (es ≡ fs)
  meet-full = (walk-full walked r s, full)
    where
      full : es ≡ fs → 2 * meet es fs ≡ sum es + sum fs
      full e = rw (← e) (omega (arith, meet_self es r))

  -- equal entries are equal multisets
  pub entries_exactly : (es ≡ fs) ↔ ((g : List ℕ) → count_in es g ≡ count_in fs g)
  entries_exactly = (λ e g. ap (λ l. count_in l g) e, same-counts)
    where
      same-counts : ((g : List ℕ) → count_in es g ≡ count_in fs g) → es ≡ fs
      same-counts c =
          let a : meet es es ≡ meet es fs = meet-counts es es fs c in
          let b : meet fs es ≡ meet fs fs = meet-counts fs es fs c in
          meet-full.0 (omega (arith, meet_self es r, meet_self fs s, meet_symmetric))

-- ---- tables whose total is the sum of their counts
pub table_proper : (gs : List (List ℕ)) → length gs ≤ total_most → Proper (table_of gs)
unfolding table_of
table_proper gs h = record { rising = tallied-rising gs; summed = sym (tallied-sum gs); limited = h }

pub stored_proper : (s : Stored) → StoredSound s → Proper s.table
stored_proper s h = record { rising = (sound-entries-rising [] s.table.entries h.rising).1; summed = h.total; limited = h.total-to }

-- ---- the rules on the score
module _ (a b : Table) (p : Proper a) (q : Proper b) where
  facts : ScoreFacts (value_of a b).m a.total b.total (value_of a b).score
  unfolding value_of
  facts =
      let l = meet_le a.entries b.entries p.rising q.rising in
      score_facts (meet a.entries b.entries) a.total b.total (omega arith) (omega arith) p.limited q.limited

  pub value_symmetric : value_of a b ≡ value_of b a
  unfolding value_of
  value_symmetric =
      let e = meet_symmetric a.entries b.entries p.rising q.rising in
      let same-score = facts.symmetric ∙ ap (λ m. score m b.total a.total) e in
      λ i. record { score = same-score i; m = e i; t = add_comm a.total b.total i }

  pub value_zero : ((value_of a b).score ≡ nought) ↔ ((value_of a b).m ≡ 0)
  value_zero = facts.zero_exactly

  pub value-one : ((value_of a b).score ≡ one) ↔ ((a.entries ≡ b.entries) × (a.entries ≢ []))
  unfolding value_of
  value-one =
      let full = meet-full a.entries b.entries p.rising q.rising in
      let A = p.summed in
      let B = q.summed in (
        λ h.
            let d = facts.one_exactly.0 h in
            let e = full.0 (omega arith) in
            (e, λ z. absurd (omega (arith, ap sum z ∙ sum-none, ap sum (sym e ∙ z) ∙ sum-none))),
        λ h.
            let d = full.1 h.0 in
            facts.one_exactly.1 (omega arith, some-total h.1),
      )
    where
      some-total : a.entries ≢ [] → 0 < a.total + b.total
      some-total n = elim (eq-zero-or-pos a.total) [
        | inl z ↦ absurd (n (empty a.entries p.rising (sym p.summed ∙ z)))
        | inr l ↦ omega arith
      ]

  pub value_close : Close (value_of a b).m (value_of a b).t (value_of a b).score
  unfolding value_of
  value_close = facts.distance

  pub value-unit : T (unit (value_of a b).score)
  value-unit = facts.in_unit

  -- t is 2 ^ 24 at most, so exact; of a scoring it is less (`scoring_t` of GrowthLaws)
  pub value_t : (value_of a b).t ≤ 2 ^ 24
  unfolding value_of
  value_t = omega (arith, p.limited, q.limited)
