-- The limits on what a scan does: its scorings (`elimination-count`, `top_down-count`), which fit 64 bits (`elimination_fits`, `top_down_fits`),
-- and its records (`elimination-records`, `top_down-records`, above 0.0 `top_down-few`), which fit the results area whatever the budget (`results_fit`).
-- Assumes nothing.
use mathlib.Core.Path.{◌≡◌, refl, ap, ◌∙◌}
use Prim.Native.Nat.{ℕ, zero, suc, ◌+◌, ◌-◌, ◌*◌, ◌/◌, ◌^◌, ◌≤◌, ◌<◌, zero-le}
use native.Mathlib.Nat.{not-suc-le-zero, mul-le-mul_left, mul-le-mul, lt-div-mul-add, div-le_self}
use native.Mathlib.Omega.{arith}
use mathlib.Core.Bool.{Bool, true, false, not, ◌||◌, cond}
use mathlib.Core.List.{List, [], ◌∷◌}
use mathlib.Core.Option.{Option, none, some}
use lib.ListN.{length, length-append, length-map}
use lib.Dec.{ltb}
use lib.Ieee.{lt}
use borrow.Author.Tests.{eqb-false, ltb-true, ltb-false}
use Rattle.rules.specs.declared.Limits.{Limits}
use Rattle.rules.specs.declared.Mode.{Mode}
use Rattle.rules.specs.declared.Mode.TheVariants.{Elimination, TopDown}
use Rattle.rules.specs.Sizes.{stored_most, lines_most, record_width}
use Rattle.rules.specs.Table.{nought}
use Rattle.rules.specs.Search.{View, whole, blank, Stored, Scoring, done, Best, best, bounds}
use Rattle.rules.specs.Scan.{Event, overall, found, Recorded, after, stops, below, each_pass, elimination, steps, views_of, Pair, latest, settled, contained, down_from, top_down, events, afford, scorings, records, six, numbers}
use Rattle.rules.specs.Count.{most_for, most_elimination, most_top_down}
use Rattle.rules.specs.Refusal.{step_zero, records_most, results_need}
use Rattle.rules.proofs.BoolLaws.{cond_of}
use Rattle.rules.proofs.Steps.{steps-more, steps-end}
use Rattle.rules.proofs.CountLaws.{rounds_least, best-count, bounds-count}
use Rattle.rules.proofs.DownLaws.{Inside, On, latest_in_lem, contained_in_lem, down_by}
use Rattle.rules.proofs.BesideLaws.{top_down-few}
use Rattle.rules.proofs.BudgetLaws.{scorings-after, records-after, afford-all, records-more}

-- at most so many scorings, and so many records
abbrev Within : ℕ → ℕ → List Event → Type 0
Within n m es = (length (scorings es) ≤ n) × (length (records es) ≤ m)

none_within : (n m : ℕ) → Within n m []
unfolding scorings records
none_within n m = (zero-le, zero-le)

after-within : (ss : List Scoring) (es : List Event) (k n m : ℕ) → length ss ≤ k → Within n m es → Within (k + n) m (after ss es)
after-within ss es k n m h w = simp (scorings-after, records-after, length-append) (omega arith, w.1)

overall-within : (b : Best) (es : List Event) (n m : ℕ) → Within n m es → Within n m (overall b ∷ es)
unfolding scorings records
overall-within b es n m w = w

found_within : (r : Recorded) (es : List Event) (n m : ℕ) → Within n m es → Within n (suc m) (found r ∷ es)
unfolding scorings records
found_within r es n m w = (w.0, omega arith)

-- ---- elimination
pub blank-length : (a e : ℕ) (ls : List (List ℕ)) → length (blank a e ls) ≡ length ls
unfolding blank
blank-length a e [] = refl
blank-length a zero (l ∷ ls) = refl
blank-length zero (suc e) (l ∷ ls) = ap suc (blank-length zero e ls)
blank-length (suc a) (suc e) (l ∷ ls) = ap suc (blank-length a e ls)

-- bounds; then, unless they end it, a record and the best again
pass_within : (xs ys : List Scoring) (t : Bool) (r : Recorded) (es : List Event) (c k n m : ℕ) → length xs ≤ c → length ys ≤ k → Within n m es →
    Within (c + (k + n)) (suc m) (after xs (cond t [] (found r ∷ after ys es)))
pass_within xs ys true r es c k n m h i w = after-within xs [] c (k + n) (suc m) h (none_within (k + n) (suc m))
pass_within xs ys false r es c k n m h i w =
    after-within xs (found r ∷ after ys es) c (k + n) (suc m) h (found_within r (after ys es) (k + n) m (after-within ys es k n m i w))

passes-within : (lim : Limits) (ss : List Stored) (n p : ℕ) (ls : List (List ℕ)) (b : Best) → length ls ≡ n →
    Within (p * (length ss + 2 * most_for n)) p (each_pass lim ss p ls b)
unfolding each_pass whole
passes-within lim ss n zero ls b e = none_within (0 * (length ss + 2 * most_for n)) 0
passes-within lim ss n (suc p) ls b e =
    let m = bounds ls (whole ls) b.text in
    let r : Recorded = record { text = b.text; range = m.value } in
    let rest = blank m.value.first m.value.after ls in
    let next = best ss rest (whole rest) in
    let es = each_pass lim ss p rest next.value in
    let on = passes-within lim ss n p rest next.value (blank-length m.value.first m.value.after ls ∙ e) in
    let first = bounds-count ls (whole ls) b.text n (omega arith) (omega arith) in
    let again : length next.list ≤ length ss = omega (arith, best-count ss rest (whole rest)) in
    let w = pass_within m.list next.list (below lim m.value) r es (2 * most_for n) (length ss) (p * (length ss + 2 * most_for n)) p first again on in
    (omega arith, w.1)

-- none where optimize is off
if_optimize : (t optimize : Bool) (es : List Event) (n m : ℕ) → Within n m es →
    Within n (cond optimize m 0) (cond (t || not optimize) [] es)
if_optimize true true es n m w = none_within n m
if_optimize true false es n m w = none_within n 0
if_optimize false true es n m w = w
if_optimize false false es n m w = none_within n 0

module _ (lim : Limits) (optimize : Bool) (p : ℕ) (ss : List Stored) (ls : List (List ℕ)) where
  elimination-within : Within (most_elimination (length ss) p (length ls)) (cond optimize p 0) (elimination lim optimize p ss ls)
  unfolding elimination most_elimination
  elimination-within =
      let m = best ss ls (whole ls) in
      let most = p * (length ss + 2 * most_for (length ls)) in
      let more = each_pass lim ss p ls m.value in
      let w = if_optimize (stops lim m.value) optimize more most p (passes-within lim ss (length ls) p ls m.value refl) in
      let es = cond (stops lim m.value || not optimize) [] more in
      after-within m.list (overall m.value ∷ es) (length ss) most (cond optimize p 0)
      (omega (arith, best-count ss ls (whole ls))) (overall-within m.value es most (cond optimize p 0) w)

  pub elimination-count : length (scorings (elimination lim optimize p ss ls)) ≤ most_elimination (length ss) p (length ls)
  elimination-count = elimination-within.0

  -- none where optimize is off
  pub elimination-records : length (records (elimination lim optimize p ss ls)) ≤ cond optimize p 0
  elimination-records = elimination-within.1

-- ---- top-down: the views of a round
module _ (s n : ℕ) (p : 0 < s) where
  ends-count : (k a : ℕ) → n < a + k * s → length (steps s a (suc n)) ≤ k
  ends-count zero a h = rw (steps-end s a (suc n) p (omega arith)) zero-le
  ends-count (suc k) a h = at (ltb a (suc n)) refl (ends-count k (a + s) (omega arith))
    where
      at : (t : Bool) → ltb a (suc n) ≡ t → length (steps s (a + s) (suc n)) ≤ k → length (steps s a (suc n)) ≤ suc k
      at true q c = let l = ltb-true a (suc n) q in rw (steps-more s a (suc n) p l) (omega arith)
      at false q c = rw (steps-end s a (suc n) p (ltb-false a (suc n) q)) zero-le

  -- k from the first start, k - 1 from the next, and so on
  views-count : (k c : ℕ) → n < c + k * s → 2 * length (views_of s n (steps s c n)) ≤ k * (k + 1)
  unfolding views_of
  views-count zero c h = rw (steps-end s c n p (omega arith)) (omega arith)
  views-count (suc k) c h = at (ltb c n) refl (views-count k (c + s) (omega arith))
    where
      at : (t : Bool) → ltb c n ≡ t → 2 * length (views_of s n (steps s (c + s) n)) ≤ k * (k + 1) →
          2 * length (views_of s n (steps s c n)) ≤ suc k * (suc k + 1)
      at true q g =
          let l = ltb-true c n q in
          let e = ends-count (suc k) c h in
          rw (steps-more s c n p l) (simp (length-append, length-map) (omega arith))
      at false q g = rw (steps-end s c n p (ltb-false c n q)) (omega arith)

  round_count : (c : ℕ) → length (views_of s n (steps s c n)) ≤ (n / s + 1) * (n / s + 2) / 2
  round_count c = omega (arith, views-count (n / s + 1) c (omega (arith, lt-div-mul-add {a = n} p)))

-- ---- top-down: a round, and all
module _ (lim : Limits) (ss : List Stored) (ls : List (List ℕ)) where
  latest-count : (o : Option Pair) (vs : List View) → length (latest lim ss ls o vs).list ≤ length ss * length vs
  unfolding latest
  latest-count none [] = zero-le
  latest-count (some p) [] = zero-le
  latest-count none (v ∷ vs) =
      let b = (best ss ls v).value in
      let q : Pair = record { view = v; text = b.text } in
      let t = lt b.value.score lim.threshold in
      let not_yet = latest lim ss ls none vs in
      let on = latest lim ss ls (some q) vs in
      let c = cond_of (λ m. length m.list ≤ length ss * length vs) t not_yet on (latest-count none vs) (latest-count (some q) vs) in
      simp (length-append, best-count) (omega arith)
  latest-count (some p) (v ∷ vs) =
      let b = (best ss ls v).value in
      let q : Pair = record { view = v; text = b.text } in
      let t = lt b.value.score lim.threshold in
      let on = latest lim ss ls (some q) vs in
      let c = cond_of (λ m. length m.list ≤ length ss * length vs) t (done (some p)) on zero-le (latest-count (some q) vs) in
      simp (length-append, best-count) (omega arith)

  settled-count : (c n : ℕ) (o : Option Pair) → On (λ q. Inside c n q.view) o → length (settled lim ls o).list ≤ 2 * most_for n
  unfolding settled
  settled-count c n none h = zero-le
  settled-count c n (some q) h = simp length-append (omega (arith, bounds-count ls q.view q.text n h.1 h.2))

module _ (lim : Limits) (s : ℕ) (ss : List Stored) (ls : List (List ℕ)) (p : 0 < s) where
  abbrev most_round : ℕ
  most_round = length ss * ((length ls / s + 1) * (length ls / s + 2) / 2) + 2 * most_for (length ls)

  contained-count : (c : ℕ) → length (contained lim s ss ls c).list ≤ most_round
  unfolding contained
  contained-count c =
      let n = length ls in
      let vs = views_of s n (steps s c n) in
      let l = latest-count lim ss ls none vs in
      let r = settled-count lim ss ls c n (latest lim ss ls none vs).value (latest_in_lem lim s ss ls p c) in
      simp length-append (omega (arith, mul-le-mul_left (length ss) (round_count s n p c)))

  round_within : (c k : ℕ) (es : List Event) → Within (k * most_round) (suc k) es →
      Within (suc k * most_round) (suc k) (after (contained lim s ss ls c).list es)
  round_within c k es w =
      let x = after-within (contained lim s ss ls c).list es most_round (k * most_round) (suc k) (contained-count c) w in
      (omega (arith, x.0), x.1)

  -- where k lines are left
  abbrev Left : ℕ → List Event → Type 0
  Left c es = (k : ℕ) → length ls - c ≤ k → Within (k * most_round) k es

  down_within : (c : ℕ) → Left c (down_from lim s ss ls c)
  down_within c = down_by lim s ss ls p Left past ends goes c
    where
      past : (c : ℕ) → length ls ≤ c → Left c []
      past c h k l = none_within (k * most_round) k

      ends : (c : ℕ) → c < length ls → Left c (after (contained lim s ss ls c).list [])
      ends c h zero l = absurd (not-suc-le-zero {n = c} (omega (arith, h, l)))
      ends c h (suc k) l = round_within c k [] (none_within (k * most_round) (suc k))

      goes : (c : ℕ) (r : Recorded) (es : List Event) → c < length ls → (contained lim s ss ls c).value ≡ some r → Left (r.range.after + 1) es →
          Left c (after (contained lim s ss ls c).list (found r ∷ es))
      goes c r es h e go zero l = absurd (not-suc-le-zero {n = c} (omega (arith, h, l)))
      goes c r es h e go (suc k) l =
          let reach = contained_in_lem lim s ss ls p c r e in
          round_within c k (found r ∷ es) (found_within r es (k * most_round) k (go k (omega arith)))

  pub top_down-count : length (scorings (top_down lim s ss ls)) ≤ most_top_down (length ss) s (length ls)
  unfolding top_down most_top_down
  top_down-count = (down_within 0 (length ls) (omega arith)).0

  pub top_down-records : length (records (top_down lim s ss ls)) ≤ length ls
  unfolding top_down
  top_down-records = (down_within 0 (length ls) (omega arith)).1

-- ---- both limits, at the most that a scan of two books is given, fit 64 bits
most_fits : (n : ℕ) → n ≤ lines_most → most_for n ≤ 52
unfolding most_for
most_fits n h = omega (arith, rounds_least n 24 (omega arith))

pub elimination_fits : (N P L : ℕ) → N ≤ 2 * stored_most → P < 65_536 → L ≤ lines_most → most_elimination N P L < 2 ^ 64
unfolding most_elimination
elimination_fits N P L h k l =
    let c = most_fits L l in
    omega (arith, mul-le-mul {n₁ = P} {m₁ = N + 2 * most_for L} {n₂ = 65_535} {m₂ = 2 * stored_most + 2 * 52} (omega arith) (omega arith))

pub top_down_fits : (N s L : ℕ) → N ≤ 2 * stored_most → L ≤ lines_most → most_top_down N s L < 2 ^ 64
unfolding most_top_down
top_down_fits N s L h l =
    let f = L / s in
    let g = lines_most in
    let c = most_fits L l in
    let d = div-le_self L s in
    let t = mul-le-mul {n₁ = f + 1} {m₁ = f + 2} {n₂ = g + 1} {m₂ = g + 2} (omega arith) (omega arith) in
    let v = mul-le-mul {n₁ = N} {m₁ = (f + 1) * (f + 2) / 2} {n₂ = 2 * stored_most} {m₂ = (g + 1) * (g + 2) / 2} h (omega arith) in
    let r : N * ((f + 1) * (f + 2) / 2) + 2 * most_for L ≤ 2 * stored_most * ((g + 1) * (g + 2) / 2) + 2 * 52 = omega arith in
    omega (arith, mul-le-mul l r)

-- ---- what a budget leaves of the records fits the results area
pub numbers-length : (t : List ℕ) (rs : List Recorded) → length (numbers t rs) ≡ record_width * length rs
unfolding numbers six
numbers-length t [] = refl
numbers-length t (r ∷ rs) = omega (arith, numbers-length t rs)

-- a budget adds no record
afford-records : (b : ℕ) (es : List Event) → length (records (afford b es)) ≤ length (records es)
afford-records b es =
    let all = b + length (scorings es) in
    let m = records-more b all es (omega arith) in
    let e = ap (λ (fs : List Event). length (records fs)) (afford-all all es (omega arith)) in
    omega (arith, simp length-append at (ap length m.is))

few-records : (lim : Limits) (mode : Mode) (ss : List Stored) (ls : List (List ℕ)) → step_zero mode ≡ false →
    length (records (events lim mode ss ls)) ≤ records_most (length ls) lim mode
unfolding events step_zero records_most
few-records lim (Elimination optimize p) ss ls h = elimination-records lim optimize p ss ls
few-records lim (TopDown s) ss ls h = at (lt nought lim.threshold) refl (omega (arith, eqb-false s 0 h))
  where
    at : (t : Bool) → lt nought lim.threshold ≡ t → 0 < s → length (records (top_down lim s ss ls)) ≤ cond t ((length ls + 1) / 2) (length ls)
    at true above p = top_down-few lim above s ss ls p
    at false q p = top_down-records lim s ss ls p

pub results_fit : (t : List ℕ) (lim : Limits) (mode : Mode) (ss : List Stored) (ls : List (List ℕ)) (b : ℕ) → step_zero mode ≡ false →
    length (numbers t (records (afford b (events lim mode ss ls)))) ≤ results_need (length ls) lim mode
unfolding results_need
results_fit t lim mode ss ls b h =
    let es = events lim mode ss ls in
    omega (arith, numbers-length t (records (afford b es)), afford-records b es, few-records lim mode ss ls h)
