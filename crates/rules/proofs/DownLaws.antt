-- Top-down's rounds: what is found from line c on are bounds not below the threshold (`contained-of`), which lie in [c, L], so c strictly rises
-- (`contained_in_lem`); each round is its plain step (`down_step`), and what holds round by round holds of all (`down_by`). Bounds lie in their view (`bounds_in`).
-- Assumes nothing.
use mathlib.Core.Path.{◌≡◌, refl, sym, ap, subst}
use Prim.Native.Nat.{ℕ, zero, suc, ◌+◌, ◌-◌, ◌≤◌, ◌<◌}
use native.Mathlib.Nat.{not-suc-le-zero, le_of_suc-le-suc}
use native.Mathlib.Omega.{arith}
use mathlib.Core.Bool.{Bool, true, false, cond}
use mathlib.Core.List.{List, [], ◌∷◌, ◌++◌, map}
use mathlib.Core.Option.{Option, none, some}
use lib.ListN.{length, get_or}
use lib.Dec.{ltb}
use lib.Ieee.{lt}
use borrow.Author.Tests.{ltb-true, ltb-false, le-ltb}
use Rattle.rules.specs.declared.Limits.{Limits}
use Rattle.rules.specs.Search.{View, view, Stored, Made, score_view, search, best, bounds}
use Rattle.rules.specs.Scan.{Event, found, Recorded, after, below, steps, views_of, Pair, latest, settled, contained, and_on, down_on, down_from}
use Rattle.rules.proofs.BoolLaws.{cond_of}
use Rattle.rules.proofs.Steps.{Falls, recurse-step, search_in, steps-more, steps-end}

-- ---- what holds of each element of a list
abbrev pub Each : {A : Type 0} → (A → Type 0) → List A → Type 0
Each P [] = Unit {0}
Each P (x ∷ xs) = P x × Each P xs

pub each_append : {A : Type 0} (P : A → Type 0) (xs ys : List A) → Each P xs → Each P ys → Each P (xs ++ ys)
each_append P [] ys h k = k
each_append P (x ∷ xs) ys h k = (h.0, each_append P xs ys h.1 k)

-- at each place, and from each place
pub each_at : {A : Type 0} (P : A → Type 0) (l : List A) (k : ℕ) (d : A) → k < length l → Each P l → P (get_or l k d)
each_at P [] k d h e = absurd (not-suc-le-zero h)
each_at P (x ∷ xs) zero d h e = e.0
each_at P (x ∷ xs) (suc k) d h e = each_at P xs k d (le_of_suc-le-suc h) e.1

pub each_of : {A : Type 0} (P : A → Type 0) (l : List A) (d : A) → ((k : ℕ) → k < length l → P (get_or l k d)) → Each P l
each_of P [] d f = tt
each_of P (x ∷ xs) d f = (f 0 (omega arith), each_of P xs d (λ k h. f (suc k) (omega (arith, h))))

each_map : {A B : Type 0} (P : B → Type 0) (f : A → B) (xs : List A) → Each (λ x. P (f x)) xs → Each P (map f xs)
each_map P f [] h = tt
each_map P f (x ∷ xs) h = (h.0, each_map P f xs h.1)

-- ---- the views of a round
steps-to : (P : ℕ → Type 0) (s n : ℕ) → 0 < s → (k a : ℕ) → n - a ≤ k → ((i : ℕ) → a ≤ i → i < n → P i) → Each P (steps s a n)
steps-to P s n p zero a h f = subst (Each P) (sym (steps-end s a n p (omega arith))) tt
steps-to P s n p (suc k) a h f = at (ltb a n) refl (steps-to P s n p k (a + s))
  where
    at : (t : Bool) → ltb a n ≡ t → (n - (a + s) ≤ k → ((i : ℕ) → a + s ≤ i → i < n → P i) → Each P (steps s (a + s) n)) → Each P (steps s a n)
    at true q go =
        let l = ltb-true a n q in
        subst (Each P) (sym (steps-more s a n p l)) (f a (omega arith) l, go (omega arith) (λ i u v. f i (omega arith) v))
    at false q go = subst (Each P) (sym (steps-end s a n p (ltb-false a n q))) tt

pub steps-each : (P : ℕ → Type 0) (s a n : ℕ) → 0 < s → ((i : ℕ) → a ≤ i → i < n → P i) → Each P (steps s a n)
steps-each P s a n p f = steps-to P s n p (n - a) a (omega arith) f

-- a view of lines from c on
abbrev pub Inside : ℕ → ℕ → View → Type 0
Inside c n v = (c ≤ v.start) × (v.start ≤ v.end) × (v.end ≤ n)

views-inside : (s c n : ℕ) → 0 < s → (cs : List ℕ) → Each (λ a. (c ≤ a) × (a < n)) cs → Each (Inside c n) (views_of s n cs)
unfolding views_of
views-inside s c n p [] h = tt
views-inside s c n p (a ∷ cs) h =
    each_append (Inside c n) (map (λ e. view a e) (steps s a (suc n))) (views_of s n cs)
    (each_map (Inside c n) (λ e. view a e) (steps s a (suc n))
    (steps-each (λ e. Inside c n (view a e)) s a (suc n) p (λ e u v. (h.0.0, u, omega arith))))
    (views-inside s c n p cs h.1)

pub round_inside : (s c n : ℕ) → 0 < s → Each (Inside c n) (views_of s n (steps s c n))
round_inside s c n p = views-inside s c n p (steps s c n) (steps-each (λ a. (c ≤ a) × (a < n)) s c n p (λ i u v. (u, v)))

-- ---- bounds
pub bounds_in : (ls : List (List ℕ)) (v : View) (s : Stored) → v.start ≤ v.end →
    (v.start ≤ (bounds ls v s).value.first) ×
    ((bounds ls v s).value.first ≤ (bounds ls v s).value.after) ×
    ((bounds ls v s).value.after ≤ v.end)
unfolding bounds
bounds_in ls v s h =
    let e = search_in (λ e. score_view ls s (view v.start e)) v.start v.end h in
    let m = (search (λ e. score_view ls s (view v.start e)) v.start v.end).value.at in
    let a = search_in (λ a. score_view ls s (view a m)) v.start m e.0 in
    (a.0, a.1, e.1)

-- ---- the pair of a round, and what is found
abbrev pub On : {A : Type 0} → (A → Type 0) → Option A → Type 0
On P none = Unit {0}
On P (some a) = P a

pub on_both : {A : Type 0} (P Q : A → Type 0) (o : Option A) → On P o → On Q o → On (λ a. P a × Q a) o
on_both P Q none h k = tt
on_both P Q (some a) h k = (h, k)

module _ (lim : Limits) (ss : List Stored) (ls : List (List ℕ)) (P : View → Type 0) where
  abbrev Holds : Made (Option Pair) → Type 0
  Holds m = On (λ p. P p.view) m.value

  pub latest-of : (o : Option Pair) (vs : List View) → On (λ p. P p.view) o → Each P vs → On (λ p. P p.view) (latest lim ss ls o vs).value
  unfolding latest
  latest-of none [] h k = h
  latest-of (some p) [] h k = h
  latest-of none (v ∷ vs) h k =
      let b = (best ss ls v).value in
      let q : Pair = record { view = v; text = b.text } in
      cond_of Holds (lt b.value.score lim.threshold) (latest lim ss ls none vs) (latest lim ss ls (some q) vs)
      (latest-of none vs tt k.1) (latest-of (some q) vs k.0 k.1)
  latest-of (some p) (v ∷ vs) h k =
      let b = (best ss ls v).value in
      let q : Pair = record { view = v; text = b.text } in
      cond_of Holds (lt b.value.score lim.threshold) (record { list = []; value = some p }) (latest lim ss ls (some q) vs)
      h (latest-of (some q) vs k.0 k.1)

-- a range of lines from c on
abbrev pub Reach : ℕ → ℕ → Recorded → Type 0
Reach c n r = (c ≤ r.range.first) × (r.range.first ≤ r.range.after) × (r.range.after ≤ n)

-- ---- what is settled are the bounds of such a pair, not below the threshold
module _ (lim : Limits) (ls : List (List ℕ)) (I : Pair → Type 0) (R : Recorded → Type 0) where
  abbrev pub Settles : Type 0
  Settles =
      (q : Pair) → I q → below lim (bounds ls q.view q.text).value ≡ false → R (record { text = q.text; range = (bounds ls q.view q.text).value })

  pub settled-of : Settles → (o : Option Pair) → On I o → On R (settled lim ls o).value
  unfolding settled
  settled-of makes none h = tt
  settled-of makes (some q) h = at (below lim (bounds ls q.view q.text).value) refl
    where
      at : (t : Bool) → below lim (bounds ls q.view q.text).value ≡ t →
          On R (cond t none (some (record { text = q.text; range = (bounds ls q.view q.text).value })))
      at true e = tt
      at false e = makes q h e

module _ (lim : Limits) (s : ℕ) (ss : List Stored) (ls : List (List ℕ)) (p : 0 < s) where
  pub latest_in_lem : (c : ℕ) → On (λ q. Inside c (length ls) q.view) (latest lim ss ls none (views_of s (length ls) (steps s c (length ls)))).value
  latest_in_lem c = latest-of lim ss ls (Inside c (length ls)) none (views_of s (length ls) (steps s c (length ls))) tt (round_inside s c (length ls) p)

  -- in a round, of a view from line c on
  pub contained-of : (c : ℕ) (R : Recorded → Type 0) → Settles lim ls (λ q. Inside c (length ls) q.view) R →
      (r : Recorded) → (contained lim s ss ls c).value ≡ some r → R r
  unfolding contained
  contained-of c R makes r e =
      let o = (latest lim ss ls none (views_of s (length ls) (steps s c (length ls)))).value in
      subst (On R) e (settled-of lim ls (λ q. Inside c (length ls) q.view) R makes o (latest_in_lem c))

  pub contained_in_lem : (c : ℕ) (r : Recorded) → (contained lim s ss ls c).value ≡ some r → Reach c (length ls) r
  contained_in_lem c r e =
      contained-of c (Reach c (length ls)) (λ q i k. let b = bounds_in ls q.view q.text i.1 in (omega (arith, i.0, b.0), b.1, omega (arith, b.2, i.2))) r e

  down_falls : (c : ℕ) → Falls (λ i. length ls - i) (down_on lim s ss ls) c
  unfolding down_on and_on
  down_falls c g h e = at (ltb c (length ls)) refl
    where
      m : Made (Option Recorded)
      m = contained lim s ss ls c

      on : (o : Option Recorded) → m.value ≡ o → c < length ls → and_on g o ≡ and_on h o
      on none k l = refl
      on (some r) k l =
          let reach = contained_in_lem c r k in
          ap (λ (es : List Event). found r ∷ es) (e (r.range.after + 1) (omega arith))

      at : (t : Bool) → ltb c (length ls) ≡ t → down_on lim s ss ls g c ≡ down_on lim s ss ls h c
      at true q = ap (λ (es : List Event). cond (ltb c (length ls)) (after m.list es) []) (on m.value refl (ltb-true c (length ls) q))
      at false q = simp q

  pub down_step : (c : ℕ) → down_from lim s ss ls c ≡ down_on lim s ss ls (down_from lim s ss ls) c
  unfolding down_from
  down_step c = recurse-step (λ i. length ls - i) (λ i. []) (down_on lim s ss ls) down_falls c

  -- ---- what holds behind the last line, and of a round where it holds of what follows it, holds from every line on
  module _ (Q : ℕ → List Event → Type 0) (past : (c : ℕ) → length ls ≤ c → Q c [])
      (ends : (c : ℕ) → c < length ls → Q c (after (contained lim s ss ls c).list []))
      (goes : (c : ℕ) (r : Recorded) (es : List Event) → c < length ls → (contained lim s ss ls c).value ≡ some r → Q (r.range.after + 1) es →
      Q c (after (contained lim s ss ls c).list (found r ∷ es))) where
    behind : (c : ℕ) → length ls ≤ c → Q c (down_from lim s ss ls c)
    unfolding down_on
    behind c h = rw (down_step c) (simp (le-ltb c (length ls) h) (past c h))

    down_to : (k c : ℕ) → length ls - c ≤ k → Q c (down_from lim s ss ls c)
    unfolding down_on and_on
    down_to zero c h = behind c (omega arith)
    down_to (suc k) c h = at (ltb c (length ls)) refl (down_to k)
      where
        m : Made (Option Recorded)
        m = contained lim s ss ls c

        on : (o : Option Recorded) → m.value ≡ o → c < length ls → ((d : ℕ) → length ls - d ≤ k → Q d (down_from lim s ss ls d)) →
            Q c (after m.list (and_on (down_from lim s ss ls) o))
        on none e l go = ends c l
        on (some r) e l go =
            let reach = contained_in_lem c r e in
            goes c r (down_from lim s ss ls (r.range.after + 1)) l e (go (r.range.after + 1) (omega arith))

        at : (t : Bool) → ltb c (length ls) ≡ t → ((d : ℕ) → length ls - d ≤ k → Q d (down_from lim s ss ls d)) → Q c (down_from lim s ss ls c)
        at true q go = rw (down_step c) (simp q (on m.value refl (ltb-true c (length ls) q) go))
        at false q go = behind c (ltb-false c (length ls) q)

    pub down_by : (c : ℕ) → Q c (down_from lim s ss ls c)
    down_by c = down_to (length ls - c) c (omega arith)
