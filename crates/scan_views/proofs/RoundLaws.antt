-- A round of top-down: the ends from one start, all starts.
--     Ending, ends-first, ends_next                     the ends still to come, paid from what is left, are all ends paid from the budget
--     ends-out, ends-over, ends-end                     the ways out
--     Starting and its like                             the same of the starts
-- Assumes nothing.
use mathlib.Core.Path.{◌≡◌, refl, sym, ap, ◌∙◌, subst}
use mathlib.Core.Bool.{Bool, true, false, cond}
use mathlib.Core.List.{List, [], ◌∷◌, ◌++◌, map}
use mathlib.Core.Option.{Option, none, some}
use Prim.Native.Nat.{ℕ, suc, ◌+◌, ◌≤◌, ◌<◌, min}
use native.Mathlib.Nat.{min-eq_left}
use native.Mathlib.Omega.{arith}
use lib.Dec.{leb}
use borrow.Author.Tests.{leb-true, leb-false}
use Rattle.rules.specs.declared.Limits.{Limits}
use Rattle.rules.specs.declared.View.{View}
use Rattle.rules.specs.Search.{Made, Stored, view, done}
use Rattle.rules.specs.Scan.{Pair, steps, views_of, latest}
use Rattle.rules.proofs.Steps.{steps-more, steps-end}
use Rattle.preproc_table.specs.Entries.{lines_at}
use Rattle.license_charge.specs.declared.Scorings.{Scorings}
use Rattle.license_charge.specs.Pay.{Paid, pay}
use Rattle.license_notes.specs.Laid.{Held}
use Rattle.license_charge.proofs.PayLaws.{and_then, pay_bind, pay-done}
use Rattle.detection_shelf.specs.Shelves.{Shelf, texts}
use Rattle.scan_ranges.specs.declared.Scope.{Scope}
use Rattle.scan_view.specs.declared.Latest.{Latest}
use Rattle.scan_view.specs.declared.Walked.{Walked}
use Rattle.std.specs.Prelude.{None, Some}
use Rattle.std.specs.Prelude as prelude
use Rattle.license_charge.specs.declared.Charged.{Charged}
use Rattle.scan_ranges.specs.Run.{Scanning}
use Rattle.scan_view.specs.Down.{Seen, walk, latest_in, walked_in, pair_in, LatestStands, WalkedStands, PairStands, Walks, Pairs}
use Rattle.scan_ranges.proofs.HeldLaws.{held_none, held_more, scanning_held}
use Rattle.scan_view.proofs.WalkLaws.{walk-on, after-walk, walk-next, latest-append}

-- ---- steps
pub steps_least : (s a n : ℕ) → 0 < s → steps s (min (a + s) n) n ≡ steps s (a + s) n
steps_least s a n p = at (leb (a + s) n) refl
  where
    at : (t : Bool) → leb (a + s) n ≡ t → steps s (min (a + s) n) n ≡ steps s (a + s) n
    at true q = ap (λ (k : ℕ). steps s k n) (min-eq_left (leb-true (a + s) n q))
    at false q =
        let l = leb-false (a + s) n q in
        steps-end s (min (a + s) n) n p (omega arith) ∙ sym (steps-end s (a + s) n p (omega arith))

-- ---- a walk of views, of which the first is done; and a round, of which a front is done
module _ (lim : Limits) (ss : List Stored) (ls : List (List ℕ)) (books : Shelf) (o : Option Pair) (left : ℕ) (r : prelude.Option (Charged Walked)) where
  pub walk-past : (v : View) (vs : List View) → walked_in books r ≡ pay (walk lim ss ls o (v ∷ [])) left →
      pay (walk lim ss ls o (v ∷ vs)) left ≡ and_then (walked_in books r) (λ a n. pay (walk-on lim ss ls vs a) n)
  walk-past v vs h =
      ap (λ (m : Made Seen). pay m left) (walk-next lim ss ls vs o v) ∙ pay_bind (walk lim ss ls o (v ∷ [])) (λ a. walk-on lim ss ls vs a) left ∙
      ap (λ (p : Option (Paid Seen)). and_then p (λ a n. pay (walk-on lim ss ls vs a) n)) (sym h)

  pub latest-past : (xs ys : List View) → walked_in books r ≡ pay (walk lim ss ls o xs) left →
      pay (latest lim ss ls o (xs ++ ys)) left ≡ and_then (walked_in books r) (λ a n. pay (after-walk lim ss ls ys a) n)
  latest-past xs ys h =
      ap (λ (m : Made (Option Pair)). pay m left) (latest-append lim ss ls ys o xs) ∙ pay_bind (walk lim ss ls o xs) (λ a. after-walk lim ss ls ys a) left ∙
      ap (λ (p : Option (Paid Seen)). and_then p (λ a n. pay (after-walk lim ss ls ys a) n)) (sym h)

-- ---- the ends from one start
abbrev pub ends_from : ℕ → ℕ → ℕ → ℕ → List View
ends_from start step lines e = map (λ x. view start x) (steps step e (suc lines))

pub record Ending (scope : Scope) (class area₀ words₀ : List ℕ) (books : Shelf) (start step : ℕ) (o : prelude.Option Latest) (budget : ℕ) (area words : List ℕ) (l : prelude.Option Latest) (left : Scorings) (end : ℕ) : Type 0 where
  pub ready : Scanning scope class area words books
  pub held : Held scope.n scope.lines area₀ words₀ area words
  pub stands : LatestStands books scope.lines l
  pub from : start ≤ end
  pub to : end ≤ suc scope.lines
  pub paid :
      pay (walk scope.limits (texts books) (lines_at area₀ words₀ scope.lines) (latest_in books l) (ends_from start step scope.lines end)) left.count ≡
      pay (walk scope.limits (texts books) (lines_at area₀ words₀ scope.lines) (latest_in books o) (ends_from start step scope.lines start)) budget

pub ends-first : {scope : Scope} {class area words : List ℕ} {books : Shelf} (start step : ℕ) (o : prelude.Option Latest) (budget : Scorings) → Scanning scope class area words books →
    LatestStands books scope.lines o → start ≤ scope.lines → Ending scope class area words books start step o budget.count area words o budget start
ends-first start step o budget s h l = record {
  ready = s;
  held = held_none s.laid;
  stands = h;
  from = omega arith;
  to = omega arith;
  paid = refl;
}

module _ {scope : Scope} {class area₀ words₀ : List ℕ} {books : Shelf} {start step : ℕ} {o : prelude.Option Latest} {budget : ℕ} {area words : List ℕ} {l : prelude.Option Latest} {left : Scorings} {end : ℕ}
    (i : Ending scope class area₀ words₀ books start step o budget area words l left end) (p : 0 < step) where
  abbrev lim : Limits
  lim = scope.limits

  abbrev ls : List (List ℕ)
  ls = lines_at area₀ words₀ scope.lines

  abbrev ends : ℕ → List View
  ends e = ends_from start step scope.lines e

  abbrev pub all_ends : List Stored → List (List ℕ) → Made Seen
  all_ends ss ms = walk lim ss ms (latest_in books o) (ends start)

  abbrev pub one_end : List Stored → List (List ℕ) → Made Seen
  one_end ss ms = walk lim ss ms (latest_in books l) (view start end ∷ [])

  ends-split : end < suc scope.lines → ends end ≡ view start end ∷ ends (min (end + step) (suc scope.lines))
  ends-split h =
      ap (map (λ x. view start x)) (steps-more step end (suc scope.lines) p h ∙ ap (λ (m : List ℕ). end ∷ m) (sym (steps_least step end (suc scope.lines) p)))

  module _ {area' words' : List ℕ} {r : prelude.Option (Charged Walked)} (h : end < suc scope.lines) (w : Walks scope area words area' words' books (λ ss ms. one_end ss ms) left.count r) where
    past : and_then (walked_in books r) (λ a n. pay (walk-on lim (texts books) ls (ends (min (end + step) (suc scope.lines))) a) n) ≡ pay (all_ends (texts books) ls) budget
    past =
        sym (walk-past lim (texts books) ls books (latest_in books l) left.count r (view start end) (ends (min (end + step) (suc scope.lines)))
        (w.is ∙ ap (λ (ms : List (List ℕ)). pay (one_end (texts books) ms) left.count) i.held.same)) ∙
        ap (λ (vs : List View). pay (walk lim (texts books) ls (latest_in books l) vs) left.count) (sym (ends-split h)) ∙ i.paid

  module _ {area' words' : List ℕ} (h : end < suc scope.lines) where
    pub ends-out : Walks scope area words area' words' books (λ ss ms. one_end ss ms) left.count None →
        Walks scope area₀ words₀ area' words' books (λ ss ms. all_ends ss ms) budget None
    unfolding walked_in and_then WalkedStands
    ends-out w = record { is = past h w; stands = tt; held = held_more i.held w.held }

    module _ (s : Charged Walked) (w : Walks scope area words area' words' books (λ ss ms. one_end ss ms) left.count (Some s)) where
      pub ends-over : s.value.ended ≡ true → Walks scope area₀ words₀ area' words' books (λ ss ms. all_ends ss ms) budget (Some s)
      unfolding walked_in and_then WalkedStands
      ends-over e =
          let seen : Seen = record { pair = latest_in books s.value.latest; ended = s.value.ended } in
          let rest = walk lim (texts books) ls (latest_in books s.value.latest) (ends (min (end + step) (suc scope.lines))) in
          record {
            is = sym (pay-done seen s.left.count) ∙ sym (ap (λ (q : Bool). pay (cond q (done seen) rest) s.left.count) e) ∙ past h w;
            stands = w.stands;
            held = held_more i.held w.held;
          }

      pub ends_next : {end' : ℕ} → s.value.ended ≡ false → end' ≡ min (end + step) (suc scope.lines) →
          Ending scope class area₀ words₀ books start step o budget area' words' s.value.latest s.left end'
      unfolding walked_in and_then WalkedStands
      ends_next {end'} f e =
          let seen : Seen = record { pair = latest_in books s.value.latest; ended = s.value.ended } in
          let rest = walk lim (texts books) ls (latest_in books s.value.latest) (ends (min (end + step) (suc scope.lines))) in
          record {
            ready = scanning_held i.ready w.held;
            held = held_more i.held w.held;
            stands = w.stands;
            from = omega (arith, e, i.from, h);
            to = omega (arith, e);
            paid = ap (λ (k : ℕ). pay (walk lim (texts books) ls (latest_in books s.value.latest) (ends k)) s.left.count) e ∙
                sym (ap (λ (q : Bool). pay (cond q (done seen) rest) s.left.count) f) ∙ past h w;
          }

  pub ends-end : suc scope.lines ≤ end → Walks scope area₀ words₀ area words books (λ ss ms. all_ends ss ms) budget (Some (record { value = record { latest = l; ended = false }; left = left }))
  unfolding walked_in WalkedStands walk
  ends-end h = record {
    is = sym (sym i.paid ∙ ap (λ (m : List ℕ). pay (walk lim (texts books) ls (latest_in books l) (map (λ x. view start x) m)) left.count) (steps-end step end (suc scope.lines) p h) ∙
        none_left (latest_in books l));
    stands = i.stands;
    held = i.held;
  }
    where
      none_left : (q : Option Pair) → pay (walk lim (texts books) ls q []) left.count ≡ some (record { value = record { pair = q; ended = false }; left = left.count })
      none_left none = pay-done (record { pair = none; ended = false }) left.count
      none_left (some x) = pay-done (record { pair = some x; ended = false }) left.count

-- ---- the starts
abbrev pub views_from : ℕ → ℕ → ℕ → List View
views_from step lines a = views_of step lines (steps step a lines)

pub record Starting (scope : Scope) (class area₀ words₀ : List ℕ) (books : Shelf) (c step : ℕ) (budget : ℕ) (area words : List ℕ) (l : prelude.Option Latest) (left : Scorings) (start : ℕ) : Type 0 where
  pub ready : Scanning scope class area words books
  pub held : Held scope.n scope.lines area₀ words₀ area words
  pub stands : LatestStands books scope.lines l
  pub to : start ≤ scope.lines
  pub paid :
      pay (latest scope.limits (texts books) (lines_at area₀ words₀ scope.lines) (latest_in books l) (views_from step scope.lines start)) left.count ≡
      pay (latest scope.limits (texts books) (lines_at area₀ words₀ scope.lines) none (views_from step scope.lines c)) budget

pub starts_first : {scope : Scope} {class area words : List ℕ} {books : Shelf} (c step : ℕ) (budget : Scorings) → Scanning scope class area words books → c ≤ scope.lines →
    Starting scope class area words books c step budget.count area words None budget c
unfolding latest_in LatestStands
starts_first c step budget s l = record { ready = s; held = held_none s.laid; stands = tt; to = l; paid = refl }

module _ {scope : Scope} {class area₀ words₀ : List ℕ} {books : Shelf} {c step : ℕ} {budget : ℕ} {area words : List ℕ} {l : prelude.Option Latest} {left : Scorings} {start : ℕ}
    (i : Starting scope class area₀ words₀ books c step budget area words l left start) (p : 0 < step) where
  abbrev slim : Limits
  slim = scope.limits

  abbrev sls : List (List ℕ)
  sls = lines_at area₀ words₀ scope.lines

  abbrev views : ℕ → List View
  views a = views_from step scope.lines a

  abbrev pub all_starts : List Stored → List (List ℕ) → Made (Option Pair)
  all_starts ss ms = latest slim ss ms none (views c)

  abbrev pub one_start : List Stored → List (List ℕ) → Made Seen
  one_start ss ms = walk slim ss ms (latest_in books l) (ends_from start step scope.lines start)

  starts-split : start < scope.lines → views start ≡ ends_from start step scope.lines start ++ views (min (start + step) scope.lines)
  unfolding views_of
  starts-split h =
      ap (views_of step scope.lines) (steps-more step start scope.lines p h ∙ ap (λ (m : List ℕ). start ∷ m) (sym (steps_least step start scope.lines p)))

  module _ {area' words' : List ℕ} {r : prelude.Option (Charged Walked)} (h : start < scope.lines) (w : Walks scope area words area' words' books (λ ss ms. one_start ss ms) left.count r) where
    past-start : and_then (walked_in books r) (λ a n. pay (after-walk slim (texts books) sls (views (min (start + step) scope.lines)) a) n) ≡ pay (all_starts (texts books) sls) budget
    past-start =
        sym (latest-past slim (texts books) sls books (latest_in books l) left.count r (ends_from start step scope.lines start) (views (min (start + step) scope.lines))
        (w.is ∙ ap (λ (ms : List (List ℕ)). pay (one_start (texts books) ms) left.count) i.held.same)) ∙
        ap (λ (vs : List View). pay (latest slim (texts books) sls (latest_in books l) vs) left.count) (sym (starts-split h)) ∙ i.paid

  module _ {area' words' : List ℕ} (h : start < scope.lines) where
    pub starts-out : Walks scope area words area' words' books (λ ss ms. one_start ss ms) left.count None →
        Pairs scope area₀ words₀ area' words' books (λ ss ms. all_starts ss ms) budget None
    unfolding walked_in pair_in and_then WalkedStands PairStands
    starts-out w = record { is = past-start h w; stands = tt; held = held_more i.held w.held }

    module _ (s : Charged Walked) (w : Walks scope area words area' words' books (λ ss ms. one_start ss ms) left.count (Some s)) where
      pub starts-over : s.value.ended ≡ true → Pairs scope area₀ words₀ area' words' books (λ ss ms. all_starts ss ms) budget (Some (record { value = s.value.latest; left = s.left }))
      unfolding walked_in pair_in and_then WalkedStands PairStands
      starts-over e =
          let pair = latest_in books s.value.latest in
          let rest = latest slim (texts books) sls pair (views (min (start + step) scope.lines)) in
          record {
            is = sym (pay-done pair s.left.count) ∙ sym (ap (λ (q : Bool). pay (cond q (done pair) rest) s.left.count) e) ∙ past-start h w;
            stands = w.stands;
            held = held_more i.held w.held;
          }

      pub starts-next : {start' : ℕ} → s.value.ended ≡ false → start' ≡ min (start + step) scope.lines →
          Starting scope class area₀ words₀ books c step budget area' words' s.value.latest s.left start'
      unfolding walked_in and_then WalkedStands
      starts-next {start'} f e =
          let pair = latest_in books s.value.latest in
          let rest = latest slim (texts books) sls pair (views (min (start + step) scope.lines)) in
          record {
            ready = scanning_held i.ready w.held;
            held = held_more i.held w.held;
            stands = w.stands;
            to = omega (arith, e);
            paid = ap (λ (k : ℕ). pay (latest slim (texts books) sls (latest_in books s.value.latest) (views k)) s.left.count) e ∙
                sym (ap (λ (q : Bool). pay (cond q (done pair) rest) s.left.count) f) ∙ past-start h w;
          }

  pub starts-end : scope.lines ≤ start → Pairs scope area₀ words₀ area words books (λ ss ms. all_starts ss ms) budget (Some (record { value = l; left = left }))
  unfolding pair_in PairStands views_of latest
  starts-end h = record {
    is = sym (sym i.paid ∙ ap (λ (m : List ℕ). pay (latest slim (texts books) sls (latest_in books l) (views_of step scope.lines m)) left.count) (steps-end step start scope.lines p h) ∙
        none_left (latest_in books l));
    stands = i.stands;
    held = i.held;
  }
    where
      none_left : (q : Option Pair) → pay (latest slim (texts books) sls q []) left.count ≡ some (record { value = q; left = left.count })
      none_left none = pay-done none left.count
      none_left (some x) = pay-done (some x) left.count
