-- One view of a round: not paid (`see-out`), below the threshold (`see-low`), and not below it (`see-high`).
-- Assumes nothing.
use mathlib.Core.Path.{◌≡◌, sym, ap, ◌∙◌}
use mathlib.Core.Bool.{Bool, true, false, cond}
use mathlib.Core.List.{List, [], ◌∷◌}
use mathlib.Core.Option.{Option, none, some}
use Prim.Native.Nat.{ℕ, ◌≤◌, ◌<◌}
use lib.Ieee.{Float, lt}
use lib.ListN.{length}
use Rattle.rules.specs.declared.View.{View}
use Rattle.rules.specs.Search as rules
use Rattle.rules.specs.Search.{Made, Stored, done, view}
use Rattle.preproc_table.specs.Entries.{lines_at}
use Rattle.license_charge.specs.declared.Scorings.{Scorings}
use Rattle.license_charge.specs.Pay.{Paid, pay}
use Rattle.license_charge.proofs.PayLaws.{and_then, pay_bind, pay-done}
use Rattle.detect_best.specs.declared.Best.{Best}
use Rattle.std.specs.Prelude.{None, Some, IsSomeAnd}
use Rattle.std.specs.Prelude as prelude
use Rattle.license_charge.specs.declared.Charged.{Charged}
use Rattle.detect_best.specs.Beats.{best_in}
use Rattle.detect.specs.Bests.{ChosenStands, Alike, ChosenFor, BestAbove}
use Rattle.detect.proofs.AlikeLaws.{alike-low, alike-high}
use Rattle.detection_shelf.specs.Shelves.{Shelf, texts, text_in, Stands}
use Rattle.scan_ranges.specs.declared.Scope.{Scope}
use Rattle.scan_view.specs.declared.Latest.{Latest}
use Rattle.scan_view.specs.declared.Walked.{Walked}
use Rattle.scan_view.specs.Down.{Seen, walk, latest_in, walked_in, lower_in, LatestStands, WalkedStands, Walks}
use Rattle.scan_view.proofs.WalkLaws.{pair_of, lower_seen, walk-one}

lower-is : (books : Shelf) (l : prelude.Option Latest) (left : Scorings) →
    walked_in books (Some (record { value = lower_in l; left = left })) ≡ pay (done (lower_seen (latest_in books l))) left.count
unfolding walked_in lower_in lower_seen latest_in
lower-is books None left = sym (pay-done (record { pair = none; ended = false }) left.count)
lower-is books (Some l) left = sym (pay-done (record { pair = some (record { view = l.view; text = text_in books l.text }); ended = true }) left.count)

lower-stands : (books : Shelf) (lines : ℕ) (l : prelude.Option Latest) (left : Scorings) → LatestStands books lines l →
    WalkedStands books lines (Some (record { value = lower_in l; left = left }))
unfolding WalkedStands lower_in
lower-stands books lines None left h = h
lower-stands books lines (Some l) left h = h

module _ (scope : Scope) (area₀ words₀ : List ℕ) (books : Shelf) (v : View) (budget : ℕ) (l : prelude.Option Latest) where
  abbrev pub one : List Stored → List (List ℕ) → Made Seen
  one ss ls = walk scope.limits ss ls (latest_in books l) (v ∷ [])

  abbrev seen : rules.Best → Made Seen
  seen b = cond (lt b.value.score scope.limits.threshold) (done (lower_seen (latest_in books l))) (done (record { pair = pair_of scope.limits (texts books) (lines_at area₀ words₀ scope.lines) v b; ended = false }))

  abbrev all_lines : List (List ℕ)
  all_lines = lines_at area₀ words₀ scope.lines

  one-paid : pay (one (texts books) all_lines) budget ≡ and_then (pay (rules.best (texts books) all_lines v) budget) (λ b n. pay (seen b) n)
  one-paid =
      ap (λ (m : Made Seen). pay m budget) (walk-one scope.limits (texts books) all_lines (latest_in books l) v) ∙
      pay_bind (rules.best (texts books) all_lines v) (λ b. seen b) budget

  abbrev floor : Float
  floor = scope.limits.threshold

  pub see-out : {area words : List ℕ} → BestAbove scope.n scope.lines area₀ words₀ area words v books floor budget None →
      Walks scope area₀ words₀ area words books (λ ss ls. one ss ls) budget None
  unfolding ChosenFor walked_in WalkedStands and_then
  see-out d = record {
    is = sym (one-paid ∙ ap (λ (o : Option (Paid rules.Best)). and_then o (λ b n. pay (seen b) n)) d.is);
    stands = tt;
    held = d.held;
  }

  module _ {area words : List ℕ} (c : Charged (prelude.Option Best)) (d : BestAbove scope.n scope.lines area₀ words₀ area words v books floor budget (Some c)) where
    -- the books store a text, so that they have a best
    pub see-none : {A : Type 0} → c.value ≡ None → 0 < length (texts books) → A
    unfolding ChosenStands
    see-none z u = let no : IsSomeAnd {T = Best} None (λ b. Stands books b.text) = rw z at (d.stands u) in absurd no

    module _ (b : Best) (known : c.value ≡ Some b) where
      -- the definition's best, which b is unless both are below the threshold
      real : (x : rules.Best) × ((pay (rules.best (texts books) all_lines v) budget ≡ some (record { value = x; left = c.left.count })) × Alike floor (best_in books (Some b)) x)
      unfolding ChosenFor
      real = rw known at d.is

      found-paid : pay (one (texts books) all_lines) budget ≡ pay (seen real.0) c.left.count
      unfolding and_then
      found-paid = one-paid ∙ ap (λ (o : Option (Paid rules.Best)). and_then o (λ x n. pay (seen x) n)) real.1.0

      pub see-low : (w : Walked) → lt b.value.score floor ≡ true → LatestStands books scope.lines l → w ≡ lower_in l →
          Walks scope area₀ words₀ area words books (λ ss ls. one ss ls) budget (Some (record { value = w; left = c.left }))
      unfolding best_in
      see-low w t h e = rw e (record {
        is = lower-is books l c.left ∙ sym (found-paid ∙ ap (λ (q : Bool). pay (cond q (done (lower_seen (latest_in books l))) (done (record { pair = some (record { view = v; text = real.0.text }); ended = false }))) c.left.count)
            (alike-low floor (best_in books (Some b)) real.0 real.1.1 t));
        stands = lower-stands books scope.lines l c.left h;
        held = d.held;
      })

      pub see-high : lt b.value.score floor ≡ false → (v.start ≤ v.end) × (v.end ≤ scope.lines) → 0 < length (texts books) →
          Walks scope area₀ words₀ area words books (λ ss ls. one ss ls) budget
          (Some (record { value = record { latest = Some (record { view = v; text = b.text }); ended = false }; left = c.left }))
      unfolding best_in walked_in latest_in WalkedStands LatestStands ChosenStands
      see-high t h u = record {
        is = sym (found-paid ∙ ap (λ (x : rules.Best). pay (seen x) c.left.count) (sym (alike-high floor (best_in books (Some b)) real.0 real.1.1 t)) ∙
            ap (λ (q : Bool). pay (cond q (done (lower_seen (latest_in books l))) (done (record { pair = some (record { view = v; text = text_in books b.text }); ended = false }))) c.left.count) t ∙
            pay-done (record { pair = some (record { view = v; text = text_in books b.text }); ended = false }) c.left.count);
        stands = (rw known at (d.stands u), h.0, h.1);
        held = d.held;
      }
