-- Top-down, round by round: what a round finds, and the loop over the rounds.
--     settle_none, settle_out, settle_below, settle_found       the pair's bounds
--     contains-out, contains-settled                            a round: not paid, or settled
--     Downing, rounds-first, rounds-found                       the rounds still to come, paid from what is left, are all paid from the budget
--     rounds-out, rounds_nothing, rounds-end                    the ways out
-- Assumes nothing.
use mathlib.Core.Path.{◌≡◌, sym, ap, ◌∙◌, subst}
use mathlib.Core.Bool.{Bool, true, false, cond}
use mathlib.Core.List.{List, ◌∷◌, ◌++◌}
use mathlib.Core.Option.{Option, none, some}
use Prim.Native.Nat.{ℕ, suc, ◌+◌, ◌*◌, ◌≤◌, ◌<◌}
use native.Mathlib.Omega.{arith}
use lib.ListN.{length, take, drop}
use borrow.Author.Tests.{lt-ltb, le-ltb}
use Rattle.rules.specs.declared.Bounds.{Bounds}
use Rattle.rules.specs.declared.View.{View}
use Rattle.rules.specs.Sizes.{record_width}
use Rattle.rules.specs.Lines.{line_start}
use Rattle.rules.specs.Search.{Made, Stored, done, ◌>>=◌, bounds}
use Rattle.rules.specs.Scan as rules
use Rattle.rules.specs.Scan.{Event, found, Recorded, Pair, after, below, latest, settled, and_on, down_on, down_from, top_down}
use Rattle.rules.proofs.DownLaws.{contained_in_lem, down_step}
use Rattle.rules.proofs.PlaceLaws.{start_none}
use Rattle.preproc_table.specs.Entries.{lines_at}
use Rattle.preproc_table.proofs.EntryLaws.{lines-length}
use Rattle.std.specs.Prelude.{None, Some}
use Rattle.std.specs.Prelude as prelude
use Rattle.license_charge.specs.declared.Charged.{Charged}
use Rattle.license_charge.specs.declared.Scorings.{Scorings}
use Rattle.license_charge.specs.Pay.{Paid, pay}
use Rattle.license_notes.specs.Laid.{Held}
use Rattle.license_charge.proofs.PayLaws.{and_then, pay_bind, pay-done, out_of, paid_of}
use Rattle.detection_shelf.specs.declared.Shelved.{Shelved}
use Rattle.detection_shelf.specs.Shelves.{Shelf, texts, text_in, Stands}
use Rattle.scan_ranges.specs.declared.Run.{Run}
use Rattle.scan_ranges.specs.declared.Scope.{Scope}
use Rattle.scan_view.specs.declared.Latest.{Latest}
use Rattle.scan_top_down.specs.declared.Contained.{Contained}
use Rattle.scan_ranges.specs.Run.{Scanning, RangeDone, RangeFits, paid_numbers, run_of, Ran}
use Rattle.scan_view.specs.Down.{latest_in, pair_in, LatestStands, Pairs}
use Rattle.scan_top_down.specs.Contains.{contained_in, ContainedStands, Contains}
use Rattle.scan_ranges.proofs.RunLaws.{paid-is}
use Rattle.scan_ranges.proofs.HeldLaws.{fits_of, held_none, held_more, scanning_held}
use Rattle.scan_ranges.proofs.GoingLaws.{Going, going_first, going_as, going_paid, going_out, going_room, going_found, going_end, six_of}
use Rattle.scan_views.proofs.RoundLaws.{views_from}

-- ---- the pair's bounds
module _ {scope : Scope} {class area₀ words₀ : List ℕ} {books : Shelf} (s : Scanning scope class area₀ words₀ books) (budget : Scorings) where
  abbrev pub settles : prelude.Option Latest → List Stored → List (List ℕ) → Made (Option Recorded)
  settles l ss ms = settled scope.limits ms (latest_in books l)

  pub settle_none : (l : prelude.Option Latest) → l ≡ None →
      Contains scope area₀ words₀ area₀ words₀ books (λ ss ms. settles l ss ms) budget.count (Some (record { value = None; left = budget }))
  unfolding settled latest_in contained_in ContainedStands
  settle_none l e = rw e (record { is = sym (pay-done none budget.count); stands = tt; held = held_none s.laid })

  module _ (l : prelude.Option Latest) (pair : Latest) (e : l ≡ Some pair) where
    abbrev v : View
    v = pair.view

    abbrev t : Shelved
    t = pair.text

    abbrev ls : List (List ℕ)
    ls = lines_at area₀ words₀ scope.lines

    abbrev kept : Bounds → Option Recorded
    kept r = cond (below scope.limits r) none (some (record { text = text_in books t; range = r }))

    pair-paid : pay (settles l (texts books) ls) budget.count ≡ and_then (pay (bounds ls v (text_in books t)) budget.count) (λ r n. pay (done (kept r)) n)
    unfolding settled latest_in
    pair-paid = ap (λ (k : prelude.Option Latest). pay (settles k (texts books) ls) budget.count) e ∙ pay_bind (bounds ls v (text_in books t)) (λ r. done (kept r)) budget.count

    pub settle_out : {area words : List ℕ} → RangeDone scope class area₀ words₀ area words v books t budget.count None →
        Contains scope area₀ words₀ area words books (λ ss ms. settles l ss ms) budget.count None
    unfolding contained_in ContainedStands and_then
    settle_out d = record {
      is = sym (pair-paid ∙ ap (λ (o : Option (Paid Bounds)). and_then o (λ r n. pay (done (kept r)) n)) (out_of (pay (bounds ls v (text_in books t)) budget.count) d.is));
      stands = tt;
      held = d.held;
    }

    module _ {area words : List ℕ} (r : Charged Bounds) (d : RangeDone scope class area₀ words₀ area words v books t budget.count (Some r)) where
      abbrev range : Bounds
      range = r.value

      abbrev left : Scorings
      left = r.left

      range-paid : pay (bounds ls v (text_in books t)) budget.count ≡ some (record { value = range; left = left.count })
      range-paid = paid_of (pay (bounds ls v (text_in books t)) budget.count) r d.is

      kept-paid : pay (settles l (texts books) ls) budget.count ≡ pay (done (kept range)) left.count
      unfolding and_then
      kept-paid = pair-paid ∙ ap (λ (o : Option (Paid Bounds)). and_then o (λ r n. pay (done (kept r)) n)) range-paid

      pub settle_below : below scope.limits range ≡ true → Contains scope area₀ words₀ area words books (λ ss ms. settles l ss ms) budget.count (Some (record { value = None; left = left }))
      unfolding contained_in ContainedStands
      settle_below b = record {
        is = sym (kept-paid ∙ ap (λ (q : Bool). pay (done (cond q none (some (record { text = text_in books t; range = range })))) left.count) b ∙ pay-done none left.count);
        stands = tt;
        held = d.held;
      }

      pub settle_found : below scope.limits range ≡ false → LatestStands books scope.lines l →
          Contains scope area₀ words₀ area words books (λ ss ms. settles l ss ms) budget.count (Some (record { value = Some (record { text = t; range = range }); left = left }))
      unfolding contained_in ContainedStands LatestStands
      settle_found b h = record {
        is = sym (kept-paid ∙ ap (λ (q : Bool). pay (done (cond q none (some (record { text = text_in books t; range = range })))) left.count) b ∙
            pay-done (some (record { text = text_in books t; range = range })) left.count);
        stands = (both.0, fits_of s v t both.1 both.2 both.0 range (sym (paid-is (bounds ls v (text_in books t)) budget.count (record { value = range; left = left.count }) range-paid).0));
        held = d.held;
      }
        where
          both : Stands books t × (v.start ≤ v.end) × (v.end ≤ scope.lines)
          both = subst (LatestStands books scope.lines) e h

-- ---- a round
module _ (scope : Scope) (area₀ words₀ : List ℕ) (books : Shelf) (c step budget : ℕ) where
  abbrev lines_of : List (List ℕ)
  lines_of = lines_at area₀ words₀ scope.lines

  abbrev pub seeks : List Stored → List (List ℕ) → Made (Option Pair)
  seeks ss ms = latest scope.limits ss ms none (views_from step scope.lines c)

  abbrev pub contains : List Stored → List (List ℕ) → Made (Option Recorded)
  contains ss ms = rules.contained scope.limits step ss ms c

  round_paid : pay (contains (texts books) lines_of) budget ≡
      and_then (pay (seeks (texts books) lines_of) budget) (λ p n. pay (settled scope.limits lines_of p) n)
  unfolding rules.contained lines_at
  round_paid =
      ap (λ (n : ℕ). pay (latest scope.limits (texts books) lines_of none (views_from step n c) >>= λ p. settled scope.limits lines_of p) budget) (lines-length area₀ words₀ 0 scope.lines) ∙
      pay_bind (seeks (texts books) lines_of) (λ p. settled scope.limits lines_of p) budget

  module _ {area₁ words₁ : List ℕ} where
    pub contains-out : Pairs scope area₀ words₀ area₁ words₁ books (λ ss ms. seeks ss ms) budget None →
        Contains scope area₀ words₀ area₁ words₁ books (λ ss ms. contains ss ms) budget None
    unfolding pair_in contained_in ContainedStands and_then
    contains-out w = record {
      is = sym (round_paid ∙ ap (λ (o : Option (Paid (Option Pair))). and_then o (λ p n. pay (settled scope.limits lines_of p) n)) (sym w.is));
      stands = tt;
      held = w.held;
    }

    -- the walk came to a pair or none, and then it was settled
    pub contains-settled : {area words : List ℕ} (l : Charged (prelude.Option Latest)) {r : prelude.Option (Charged (prelude.Option Contained))} →
        Pairs scope area₀ words₀ area₁ words₁ books (λ ss ms. seeks ss ms) budget (Some l) →
        Contains scope area₁ words₁ area words books (λ ss ms. settled scope.limits ms (latest_in books l.value)) l.left.count r →
        Contains scope area₀ words₀ area words books (λ ss ms. contains ss ms) budget r
    unfolding pair_in and_then
    contains-settled l w d = record {
      is = d.is ∙ ap (λ (ms : List (List ℕ)). pay (settled scope.limits ms (latest_in books l.value)) l.left.count) w.held.same ∙
          sym (round_paid ∙ ap (λ (o : Option (Paid (Option Pair))). and_then o (λ p n. pay (settled scope.limits lines_of p) n)) (sym w.is));
      stands = d.stands;
      held = held_more w.held d.held;
    }

-- ---- the rounds
pub record Downing (note : List ℕ) (scope : Scope) (class area₀ words₀ : List ℕ) (books : Shelf) (r₀ : List ℕ) (step budget : ℕ) (area words r : List ℕ) (left c at k : ℕ) : Type 0 where
  pub ready : Scanning scope class area words books
  pub held : Held scope.n scope.lines area₀ words₀ area words
  pub within : k ≤ c
  pub to : c ≤ suc scope.lines
  pub place : at ≡ line_start c note
  pub going :
      Going note (top_down scope.limits step (texts books) (lines_at area₀ words₀ scope.lines)) budget r₀ r k left
      (down_from scope.limits step (texts books) (lines_at area₀ words₀ scope.lines) c)

pub rounds-first : {note : List ℕ} {scope : Scope} {class area words : List ℕ} {books : Shelf} (r : List ℕ) (step budget : ℕ) → Scanning scope class area words books →
    length (paid_numbers note budget (top_down scope.limits step (texts books) (lines_at area words scope.lines))) ≤ length r →
    Downing note scope class area words books r step budget area words r budget 0 0 0
unfolding top_down
rounds-first {note} r step budget s h = record {
  ready = s;
  held = held_none s.laid;
  within = omega arith;
  to = omega arith;
  place = sym (start_none note);
  going = going_first note _ budget r h;
}

module _ {note : List ℕ} {scope : Scope} {class area₀ words₀ : List ℕ} {books : Shelf} {r₀ : List ℕ} {step budget : ℕ} {area words r : List ℕ} {left c at k : ℕ}
    (i : Downing note scope class area₀ words₀ books r₀ step budget area words r left c at k) (p : 0 < step) where
  abbrev all_lines : List (List ℕ)
  all_lines = lines_at area₀ words₀ scope.lines

  abbrev pub whole : List Event
  whole = top_down scope.limits step (texts books) all_lines

  abbrev made : Made (Option Recorded)
  made = rules.contained scope.limits step (texts books) all_lines c

  abbrev on : ℕ → List Event
  on a = down_from scope.limits step (texts books) all_lines a

  many : length all_lines ≡ scope.lines
  unfolding lines_at
  many = lines-length area₀ words₀ 0 scope.lines

  down_split : c < scope.lines → on c ≡ after made.list (and_on (λ a. on a) made.value)
  unfolding down_on
  down_split h = down_step scope.limits step (texts books) all_lines p c ∙ simp (lt-ltb c (length all_lines) (omega (arith, many)))

  -- a round, over the areas as they stand
  round_is : {area' words' : List ℕ} {x : prelude.Option (Charged (prelude.Option Contained))} → Contains scope area words area' words' books (λ ss ms. rules.contained scope.limits step ss ms c) left x →
      contained_in books x ≡ pay made left
  round_is d = d.is ∙ ap (λ (ms : List (List ℕ)). pay (rules.contained scope.limits step (texts books) ms c) left) i.held.same

  module _ (h : c < scope.lines) where
    pub rounds-out : {area' words' : List ℕ} (x : Run) → Contains scope area words area' words' books (λ ss ms. rules.contained scope.limits step ss ms c) left None →
        x ≡ run_of k none → Ran note whole budget r₀ r x
    unfolding contained_in
    rounds-out x d q = going_out made (and_on (λ a. on a) made.value) x (sym (round_is d)) q (going_as (down_split h) i.going)

    -- past a round that is paid
    paid-past : (o : Option Recorded) (rest : ℕ) → pay made left ≡ some (record { value = o; left = rest }) → Going note whole budget r₀ r k rest (and_on (λ a. on a) o)
    paid-past o rest e =
        going_paid made (and_on (λ a. on a) o) (record { value = o; left = rest }) e
        (going_as (down_split h ∙ ap (λ (q : Option Recorded). after made.list (and_on (λ a. on a) q)) (sym (paid-is made left (record { value = o; left = rest }) e).0)) i.going)

    pub rounds_nothing : {area' words' : List ℕ} (x : Run) (w : Charged (prelude.Option Contained)) → w.value ≡ None →
        Contains scope area words area' words' books (λ ss ms. rules.contained scope.limits step ss ms c) left (Some w) → x ≡ run_of k (some w.left.count) → Ran note whole budget r₀ r x
    unfolding contained_in and_on
    rounds_nothing x w z d q = going_end x q (paid-past none w.left.count (rw z at (sym (round_is d))))

    module _ {area' words' : List ℕ} (w : Charged (prelude.Option Contained)) (x : Contained) (known : w.value ≡ Some x)
        (d : Contains scope area words area' words' books (λ ss ms. rules.contained scope.limits step ss ms c) left (Some w)) where
      abbrev recorded : Recorded
      recorded = record { text = text_in books x.text; range = x.range }

      paid-found : pay made left ≡ some (record { value = some recorded; left = w.left.count })
      unfolding contained_in
      paid-found = rw known at (sym (round_is d))

      past : Going note whole budget r₀ r k w.left.count (found recorded ∷ on (x.range.after + 1))
      unfolding and_on
      past = paid-past (some recorded) w.left.count paid-found

      pub rounds_fits : RangeFits scope.lines x.range
      unfolding ContainedStands
      rounds_fits = (rw known at d.stands).1

      pub rounds-room : record_width * k + record_width ≤ length r
      rounds-room = going_room recorded (on (x.range.after + 1)) past

      pub rounds-from : c ≤ x.range.first
      rounds-from =
          (contained_in_lem scope.limits step (texts books) all_lines p c recorded (sym (paid-is made left (record { value = some recorded; left = w.left.count }) paid-found).0)).0

      pub rounds_rise : c ≤ x.range.after
      rounds_rise = omega (arith, rounds-from, rounds_fits.order)

      pub rounds-found : {r' : List ℕ} {at' : ℕ} → r' ≡ take (record_width * k) r ++ six_of note recorded ++ drop (record_width * k + record_width) r → at' ≡ line_start (x.range.after + 1) note →
          Downing note scope class area₀ words₀ books r₀ step budget area' words' r' w.left.count (x.range.after + 1) at' (k + 1)
      rounds-found {r'} e f = record {
        ready = scanning_held i.ready d.held;
        held = held_more i.held d.held;
        within = omega (arith, i.within, rounds_rise);
        to = omega (arith, rounds_fits.high);
        place = f;
        going = going_found recorded (on (x.range.after + 1)) past r' e;
      }

  pub rounds-end : (x : Run) → scope.lines ≤ c → x ≡ run_of k (some left) → Ran note whole budget r₀ r x
  unfolding down_on
  rounds-end x h q =
      going_end x q
      (going_as (down_step scope.limits step (texts books) all_lines p c ∙ simp (le-ltb c (length all_lines) (omega (arith, many)))) i.going)
