-- A round's views one part after the other: `latest` over a front and a rest is the walk of the front, and then, unless that has ended it, of
-- the rest (`latest-append`); and the walk of views is that of the first, and then of the others (`walk-one`, `walk-next`).
-- Assumes nothing.
use mathlib.Core.Path.{◌≡◌, refl, sym, ap, ap₂, ◌∙◌}
use mathlib.Core.Bool.{Bool, true, false, cond}
use mathlib.Core.List.{List, [], ◌∷◌, ◌++◌, append_assoc}
use mathlib.Core.Option.{Option, none, some}
use lib.Ieee.{lt}
use Prim.Native.Nat.{ℕ}
use Rattle.rules.specs.declared.Limits.{Limits}
use Rattle.rules.specs.declared.View.{View}
use Rattle.rules.specs.Search.{Stored, Scoring, Made, done, ◌>>=◌, Best, best}
use Rattle.rules.specs.Scan.{Pair, latest}
use Rattle.scan_view.specs.Down.{Seen, walk}

-- ---- one run after another
pub bind_assoc : {A B C : Type 0} (m : Made A) (f : A → Made B) (g : B → Made C) → (m >>= f) >>= g ≡ m >>= (λ a. f a >>= g)
bind_assoc {A} {B} {C} m f g =
    ap (λ (l : List Scoring). record { list = l; value = (g (f m.value).value).value })
    (append_assoc m.list (f m.value).list (g (f m.value).value).list)

cond_bind : {A B : Type 0} (t : Bool) (a b : Made A) (g : A → Made B) → cond t a b >>= g ≡ cond t (a >>= g) (b >>= g)
cond_bind true a b g = refl
cond_bind false a b g = refl

-- m's answer decides, and each way the rest is the same
bind_same : {A B : Type 0} (m : Made A) (f g : A → Made B) → f m.value ≡ g m.value → m >>= f ≡ m >>= g
bind_same {A} {B} m f g e = ap (λ (r : Made B). record { list = m.list ++ r.list; value = r.value }) e

-- one view, and then either way on
next : {C : Type 0} (k : Seen → Made C) (m : Made Best) (t : Bool) (a b : Made Seen) (f : Best → Made Seen) → f m.value ≡ cond t a b → (g : Best → Made C) →
    g m.value ≡ cond t (a >>= λ r. k r) (b >>= λ r. k r) → m >>= g ≡ (m >>= f) >>= λ r. k r
next {C} k m t a b f e g h =
    bind_same m g (λ x. f x >>= λ r. k r) (h ∙ sym (cond_bind t a b (λ r. k r)) ∙ ap (λ (w : Made Seen). w >>= λ r. k r) (sym e)) ∙
    sym (bind_assoc m f (λ r. k r))

-- what the walk comes to at a score below the threshold
unfoldable pub lower_seen : Option Pair → Seen
lower_seen none = record { pair = none; ended = false }
lower_seen (some p) = record { pair = some p; ended = true }

module _ (lim : Limits) (ss : List Stored) (ls : List (List ℕ)) where
  -- below the threshold
  abbrev pub low : Best → Bool
  low b = lt b.value.score lim.threshold

  abbrev pub pair_of : View → Best → Option Pair
  pair_of v b = some (record { view = v; text = b.text })

  -- one view
  pub walk-one : (o : Option Pair) (v : View) →
      walk lim ss ls o (v ∷ []) ≡ best ss ls v >>= λ b. cond (low b) (done (lower_seen o)) (done (record { pair = pair_of v b; ended = false }))
  unfolding walk lower_seen
  walk-one none v = refl
  walk-one (some p) v = refl

  module _ (ys : List View) where
    -- what follows the walk of a front, in a walk and in the search for the latest
    abbrev pub walk-on : Seen → Made Seen
    walk-on r = cond r.ended (done r) (walk lim ss ls r.pair ys)

    abbrev pub after-walk : Seen → Made (Option Pair)
    after-walk r = cond r.ended (done r.pair) (latest lim ss ls r.pair ys)

    pub walk-next : (o : Option Pair) (v : View) → walk lim ss ls o (v ∷ ys) ≡ walk lim ss ls o (v ∷ []) >>= λ r. walk-on r
    unfolding walk
    walk-next none v =
        let m = best ss ls v in
        next (λ r. walk-on r) m (low m.value) (done (record { pair = none; ended = false })) (done (record { pair = pair_of v m.value; ended = false }))
        (λ b. cond (low b) (done (record { pair = none; ended = false })) (done (record { pair = pair_of v b; ended = false }))) refl
        (λ b. cond (low b) (walk lim ss ls none ys) (walk lim ss ls (pair_of v b) ys)) refl
    walk-next (some p) v =
        let m = best ss ls v in
        next (λ r. walk-on r) m (low m.value) (done (record { pair = some p; ended = true })) (done (record { pair = pair_of v m.value; ended = false }))
        (λ b. cond (low b) (done (record { pair = some p; ended = true })) (done (record { pair = pair_of v b; ended = false }))) refl
        (λ b. cond (low b) (done (record { pair = some p; ended = true })) (walk lim ss ls (pair_of v b) ys)) refl

    pub latest-append : (o : Option Pair) (xs : List View) → latest lim ss ls o (xs ++ ys) ≡ walk lim ss ls o xs >>= λ r. after-walk r
    unfolding walk latest
    latest-append none [] = refl
    latest-append (some p) [] = refl
    latest-append none (v ∷ xs) =
        let m = best ss ls v in
        next (λ r. after-walk r) m (low m.value) (walk lim ss ls none xs) (walk lim ss ls (pair_of v m.value) xs)
        (λ b. cond (low b) (walk lim ss ls none xs) (walk lim ss ls (pair_of v b) xs)) refl
        (λ b. cond (low b) (latest lim ss ls none (xs ++ ys)) (latest lim ss ls (pair_of v b) (xs ++ ys)))
        (ap₂ (cond (low m.value)) (latest-append none xs) (latest-append (pair_of v m.value) xs))
    latest-append (some p) (v ∷ xs) =
        let m = best ss ls v in
        let ended : Made Seen = done (record { pair = some p; ended = true }) in
        next (λ r. after-walk r) m (low m.value) ended (walk lim ss ls (pair_of v m.value) xs)
        (λ b. cond (low b) (done (record { pair = some p; ended = true })) (walk lim ss ls (pair_of v b) xs)) refl
        (λ b. cond (low b) (done (some p)) (latest lim ss ls (pair_of v b) (xs ++ ys)))
        (ap (λ (r : Made (Option Pair)). cond (low m.value) (done (some p)) r) (latest-append (pair_of v m.value) xs))
