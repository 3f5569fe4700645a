-- The steps of a loop that charges and records: a run of scorings that is paid, one that is not, a record, the overall best, and the end.
-- Assumes nothing.
use mathlib.Core.Path.{◌≡◌, refl, sym, ap, ◌∙◌}
use mathlib.Core.Bool.{Bool, true, false, cond}
use mathlib.Core.List.{List, [], ◌∷◌, ◌++◌}
use mathlib.Core.Option.{Option, none, some}
use Prim.Native.Nat.{ℕ, ◌-◌, ◌≤◌, ◌<◌}
use native.Mathlib.Nat.{sub-zero}
use native.Mathlib.Omega.{arith}
use lib.Dec.{leb, leb-zero}
use lib.ListN.{length, length-append}
use borrow.Author.Tests.{leb-true, leb-false}
use Rattle.rules.specs.Search.{Made, Best}
use Rattle.rules.specs.Scan.{Event, found, overall, Recorded, after, afford, scorings, records, six, numbers}
use Rattle.rules.proofs.BudgetLaws.{scorings-after, records-paid, records_unpaid, pays-paid, pays_unpaid}
use Rattle.license_charge.specs.Pay.{Paid, pay}
use Rattle.scan_ranges.specs.Run.{paid_numbers, left_over}

-- what is known where a run is paid, and where it is not
pub paid-is : {A : Type 0} (m : Made A) (b : ℕ) (p : Paid A) → pay m b ≡ some p →
    (p.value ≡ m.value) × (p.left ≡ b - length m.list) × (length m.list ≤ b)
unfolding pay
paid-is {A} m b p e = at (leb (length m.list) b) refl e
  where
    q : Paid A
    q = record { value = m.value; left = b - length m.list }

    at : (t : Bool) → leb (length m.list) b ≡ t → ◌≡◌ {A = Option (Paid A)} (cond t (some q) none) (some p) →
        (p.value ≡ m.value) × (p.left ≡ b - length m.list) × (length m.list ≤ b)
    at true h k = let s : p ≡ q = cc in (ap (λ (r : Paid A). r.value) s, ap (λ (r : Paid A). r.left) s, leb-true (length m.list) b h)
    at false h k = let z : ◌≡◌ {A = ℕ} 0 1 = cc in absurd (no z)
      where
        no : ◌≡◌ {A = ℕ} 0 1 → ⊥
        no z = omega arith

pub unpaid_is : {A : Type 0} (m : Made A) (b : ℕ) → pay m b ≡ none → b < length m.list
unfolding pay
unpaid_is {A} m b e = at (leb (length m.list) b) refl e
  where
    q : Paid A
    q = record { value = m.value; left = b - length m.list }

    at : (t : Bool) → leb (length m.list) b ≡ t → ◌≡◌ {A = Option (Paid A)} (cond t (some q) none) none → b < length m.list
    at true h k = let z : ◌≡◌ {A = ℕ} 0 1 = cc in absurd (no z)
      where
        no : ◌≡◌ {A = ℕ} 0 1 → ⊥
        no z = omega arith
    at false h k = leb-false (length m.list) b h

-- ---- a run of scorings, then es
module _ {A : Type 0} (m : Made A) (b : ℕ) (es : List Event) where
  pub out_written : (t : List ℕ) → pay m b ≡ none → paid_numbers t b (after m.list es) ≡ []
  unfolding paid_numbers numbers
  out_written t h = ap (numbers t) (records_unpaid b m.list es (unpaid_is m b h))

  pub out-left : pay m b ≡ none → left_over b (after m.list es) ≡ none
  unfolding left_over
  out-left h = simp (pays_unpaid b m.list es (unpaid_is m b h))

  pub paid-written : (t : List ℕ) (p : Paid A) → pay m b ≡ some p → paid_numbers t b (after m.list es) ≡ paid_numbers t p.left es
  unfolding paid_numbers
  paid-written t p h =
      let k = paid-is m b p h in
      ap (numbers t) (records-paid b m.list es k.2) ∙ ap (λ (n : ℕ). numbers t (records (afford n es))) (sym k.1)

  pub paid-left : (p : Paid A) → pay m b ≡ some p → left_over b (after m.list es) ≡ left_over p.left es
  unfolding left_over
  paid-left p h =
      let k = paid-is m b p h in
      let e : b - length (scorings (after m.list es)) ≡ p.left - length (scorings es) =
      omega (arith, k.1, k.2, ap length (scorings-after m.list es), length-append m.list (scorings es)) in
      let q : leb (length (scorings (after m.list es))) b ≡ leb (length (scorings es)) p.left =
      pays-paid b m.list es k.2 ∙ ap (λ (n : ℕ). leb (length (scorings es)) n) (sym k.1) in
      simp (q, e)

-- ---- a record, the overall best, the end
pub found-written : (t : List ℕ) (b : ℕ) (r : Recorded) (es : List Event) →
    paid_numbers t b (found r ∷ es) ≡ six t r.text.number r.range ++ paid_numbers t b es
unfolding paid_numbers afford records numbers
found-written t b r es = refl

pub found_left : (b : ℕ) (r : Recorded) (es : List Event) → left_over b (found r ∷ es) ≡ left_over b es
unfolding left_over scorings
found_left b r es = refl

pub overall-written : (t : List ℕ) (b : ℕ) (x : Best) (es : List Event) → paid_numbers t b (overall x ∷ es) ≡ paid_numbers t b es
unfolding paid_numbers afford records
overall-written t b x es = refl

pub overall-left : (b : ℕ) (x : Best) (es : List Event) → left_over b (overall x ∷ es) ≡ left_over b es
unfolding left_over scorings
overall-left b x es = refl

pub end-written : (t : List ℕ) (b : ℕ) → paid_numbers t b [] ≡ []
unfolding paid_numbers afford records numbers
end-written t b = refl

pub end-left : (b : ℕ) → left_over b [] ≡ some b
unfolding left_over scorings
end-left b = simp (leb-zero, sub-zero)
