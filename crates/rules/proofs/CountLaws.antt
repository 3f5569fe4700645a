-- The rounds of a search are the least that are enough (`rounds-is`, `rounds_least`), and how many scorings are made by a search, by
-- bounds and by the best of some stored texts (`search-count`, `bounds-count`, `best-count`).
-- Assumes nothing.
use mathlib.Core.Path.{◌≡◌, refl, sym, ap, subst}
use Prim.Native.Nat.{ℕ, zero, suc, ◌+◌, ◌-◌, ◌*◌, ◌^◌, ◌≤◌, ◌<◌}
use native.Mathlib.Nat.{pow-suc, pow-le-pow_left, mul-le-mul_left, not-suc-le-zero, eq-or-lt_of_le}
use native.Mathlib.Omega.{arith}
use mathlib.Core.Logic.{inl, inr}
use mathlib.Core.Bool.{Bool, true, false, cond}
use mathlib.Core.List.{List, [], ◌∷◌, ◌++◌}
use lib.ListN.{length, length-append}
use lib.Dec.{leb}
use lib.Ieee.{lt}
use borrow.Author.Tests.{leb-true, leb-false, ltb-true, ltb-false}
use Rattle.rules.specs.Table.{Table, view_table, Value, value_of}
use Rattle.rules.specs.Search.{View, view, viewed, Stored, Made, ◌>>=◌, scored, score_view, recurse, Span, Index, sweep_from, sweep, width, low, high, search, bounds, Best, no_best, better, best_from, best}
use Rattle.rules.specs.Count.{enough, rounds_on, rounds, most_for}
use Rattle.rules.proofs.BoolLaws.{cond_of}
use Rattle.rules.proofs.Steps.{Falls, recurse-step, lefts, rights, search_near, search_far, search_in}

-- ---- the rounds: k of them are enough for the width w
abbrev pub Enough : (w k : ℕ) → Type 0
Enough w k = 2 ^ k * (w + 1) < 5 * 3 ^ k

-- as many rounds as the width is wide are enough
wide_enough : (k : ℕ) → Enough k k
wide_enough zero = omega arith
wide_enough (suc k) = rw (pow-suc 2 k, pow-suc 3 k) (omega (arith, wide_enough k, pow-le-pow_left {n = 2} {m = 3} (omega arith) k))

-- enough for a wider one is enough
narrower : (w v k : ℕ) → w ≤ v → Enough v k → Enough w k
narrower w v k h e = omega (arith, mul-le-mul_left (2 ^ k) h)

not_enough : (w k : ℕ) → 5 * 3 ^ k ≤ 2 ^ k * (w + 1) → k < w
not_enough w k h = at (leb w k) refl
  where
    at : (t : Bool) → leb w k ≡ t → k < w
    at true q = absurd (omega (arith, narrower w k k (leb-true w k q) (wide_enough k)))
    at false q = leb-false w k q

module _ (w : ℕ) where
  abbrev from : ℕ → ℕ
  from = recurse (λ k. w - k) (λ k. k) (rounds_on w)

  rounds_fall : (k : ℕ) → Falls (λ i. w - i) (rounds_on w) k
  unfolding rounds_on enough
  rounds_fall k g h e = at (enough w k) refl
    where
      at : (t : Bool) → enough w k ≡ t → cond (enough w k) k (g (k + 1)) ≡ cond (enough w k) k (h (k + 1))
      at true q = simp q
      at false q = let l = not_enough w k (ltb-false _ _ q) in simp (q, e (k + 1) (omega arith))

  from_step : (k : ℕ) → from k ≡ cond (enough w k) k (from (k + 1))
  unfolding rounds_on
  from_step k = recurse-step (λ i. w - i) (λ i. i) (rounds_on w) rounds_fall k

  -- x is the least from k on that is enough
  abbrev Least : ℕ → ℕ → Type 0
  Least k x = Enough w x × ((j : ℕ) → k ≤ j → Enough w j → x ≤ j)

  ends-step : (k : ℕ) → (k < w → Least (k + 1) (from (k + 1))) → Least k (from k)
  unfolding enough
  ends-step k more = rw (from_step k) (at (enough w k) refl)
    where
      at : (t : Bool) → enough w k ≡ t → Least k (cond t k (from (k + 1)))
      at true q = (ltb-true _ _ q, λ j l e. l)
      at false q =
          let o = ltb-false _ _ q in
          let i = more (not_enough w k o) in (
            i.0,
            λ j m e. elim (eq-or-lt_of_le m) [
              | inl p ↦ absurd (omega (arith, subst (Enough w) (sym p) e))
              | inr p ↦ i.1 j (omega arith) e
            ],
          )

  ends : (n k : ℕ) → w - k < n → Least k (from k)
  ends zero k h = absurd (not-suc-le-zero h)
  ends (suc n) k h = ends-step k (λ l. ends n (k + 1) (omega arith))

pub rounds-is : (w : ℕ) → Enough w (rounds w)
unfolding rounds
rounds-is w = (ends w (suc w) 0 (omega arith)).0

pub rounds_least : (w j : ℕ) → Enough w j → rounds w ≤ j
unfolding rounds
rounds_least w j e = (ends w (suc w) 0 (omega arith)).1 j (omega arith) e

pub most_mono : (w v : ℕ) → w ≤ v → most_for w ≤ most_for v
unfolding most_for
most_mono w v h = omega (arith, rounds_least w (rounds v) (narrower w v (rounds v) h (rounds-is v)))

-- a round leaves two thirds
a_third_less : (w v k : ℕ) → 3 * (v + 1) ≤ 2 * (w + 1) → Enough w (suc k) → Enough v k
a_third_less w v k h e = omega (arith, mul-le-mul_left (2 ^ k) h, rw (pow-suc 2 k, pow-suc 3 k) at e)

-- ---- a search, over what makes one scoring at each index
module _ (score_at : ℕ → Made Value) (once : (i : ℕ) → length (score_at i).list ≡ 1) where
  sweep_from-count : (n i : ℕ) (b : Index) → length (sweep_from score_at n i b).list ≡ n
  unfolding sweep_from
  sweep_from-count zero i b = refl
  sweep_from-count (suc n) i b = simp (length-append, once, sweep_from-count n) (omega arith)

  sweep-count : (s : Span) → length (sweep score_at s).list ≡ suc (width s)
  unfolding sweep
  sweep-count s = simp (length-append, once, sweep_from-count) (omega arith)

  abbrev count : Span → ℕ
  count s = length (search score_at s.left s.right).list

  near_count : (s : Span) → width s ≤ 3 → count s ≤ 4
  near_count s h = rw (search_near score_at s h) (omega (arith, sweep-count s))

  far_count : (s : Span) (n : ℕ) → 3 < width s → count (lefts s) ≤ n → count (rights s) ≤ n → count s ≤ 2 + n
  far_count s n h a b =
      let t = lt (score_at (high s)).value.score (score_at (low s)).value.score in
      let l = search score_at s.left (high s - 1) in
      let r = search score_at (low s + 1) s.right in
      let c = cond_of (λ m. length m.list ≤ n) t l r a b in
      rw (search_far score_at s h) (simp (length-append, once) (omega arith))

  search-within : (k : ℕ) (s : Span) → Enough (width s) k → count s ≤ 4 + 2 * k
  search-within zero s e = omega (arith, near_count s (omega arith))
  search-within (suc k) s e =
      at (leb (width s) 3) refl
      (λ h. search-within k (lefts s) (a_third_less (width s) (width (lefts s)) k (omega arith) e))
      (λ h. search-within k (rights s) (a_third_less (width s) (width (rights s)) k (omega arith) e))
    where
      at : (t : Bool) → leb (width s) 3 ≡ t →
          (3 < width s → count (lefts s) ≤ 4 + 2 * k) → (3 < width s → count (rights s) ≤ 4 + 2 * k) → count s ≤ 4 + 2 * suc k
      at true q f g = omega (arith, near_count s (leb-true (width s) 3 q))
      at false q f g = let h = leb-false (width s) 3 q in omega (arith, far_count s (4 + 2 * k) h (f h) (g h))

  pub search-count : (l r : ℕ) → length (search score_at l r).list ≤ most_for (r - l)
  unfolding most_for
  search-count l r = search-within (rounds (r - l)) (record { left = l; right = r }) (rounds-is (r - l))

-- ---- bounds: two searches
pub bounds-count : (ls : List (List ℕ)) (v : View) (s : Stored) (n : ℕ) → v.start ≤ v.end → v.end ≤ n →
    length (bounds ls v s).list ≤ 2 * most_for n
unfolding bounds score_view scored
bounds-count ls v s n h k =
    let e = (search (λ e. score_view ls s (view v.start e)) v.start v.end).value.at in
    let i = search_in (λ e. score_view ls s (view v.start e)) v.start v.end h in
    let a = search-count (λ e. score_view ls s (view v.start e)) (λ e. refl) v.start v.end in
    let b = search-count (λ a. score_view ls s (view a e)) (λ a. refl) v.start e in
    simp length-append (omega (arith, most_mono (v.end - v.start) n (omega arith), most_mono (e - v.start) n (omega arith)))

-- ---- the best of N stored texts
best_from-count : (t : Table) (v : View) (ss : List Stored) (b : Best) → length (best_from t v ss b).list ≡ length ss
unfolding best_from scored
best_from-count t v [] b = refl
best_from-count t v (s ∷ ss) b = ap suc (best_from-count t v ss (better b (record { text = s; value = value_of t s.table })))

pub best-count : (ss : List Stored) (ls : List (List ℕ)) (v : View) → length (best ss ls v).list ≡ length ss
unfolding best
best-count ss ls v = best_from-count (view_table (viewed ls v)) v ss no_best

-- of some texts, then of more
pub best-append : (t : Table) (v : View) (xs ys : List Stored) (b : Best) →
    best_from t v (xs ++ ys) b ≡ (best_from t v xs b >>= λ c. best_from t v ys c)
unfolding best_from scored
best-append t v [] ys b = refl
best-append t v (s ∷ xs) ys b =
    ap (λ (m : Made Best). record { list = record { view = v; number = s.number } ∷ m.list; value = m.value })
    (best-append t v xs ys (better b (record { text = s; value = value_of t s.table })))
