-- A loop that records: what stands in the results area and what is still to come, paid from what is left, are the whole paid from the budget.
--     going_first                       before the first event
--     going_paid, going_out             past a run of scorings that is paid, and at one that is not
--     going_room, going_found           past a record
--     going_end                         after the last event
-- Assumes nothing.
use mathlib.Core.Path.{◌≡◌, refl, sym, ap, ◌∙◌, subst}
use mathlib.Core.List.{List, [], ◌∷◌, ◌++◌}
use mathlib.Core.Option.{none, some}
use Prim.Native.Nat.{ℕ, ◌+◌, ◌*◌, ◌≤◌}
use native.Mathlib.Omega.{arith}
use lib.ListN.{length, take, drop}
use Rattle.lists.proofs.WriteLaws.{Part, part-start, part_skip, part_end, part_puts, part-space}
use Rattle.rules.specs.Sizes.{record_width}
use Rattle.rules.specs.Search.{Made}
use Rattle.rules.specs.Scan.{Event, found, Recorded, after, six}
use Rattle.license_charge.specs.Pay.{Paid, pay}
use Rattle.scan_ranges.specs.declared.Run.{Run}
use Rattle.scan_ranges.specs.Run.{paid_numbers, left_over, run_of, Ran}
use Rattle.scan_ranges.proofs.RunLaws.{out_written, out-left, paid-written, paid-left, found-written, found_left, end-written, end-left}

pub record Going (t : List ℕ) (whole : List Event) (budget : ℕ) (r₀ r : List ℕ) (k left : ℕ) (rest : List Event) : Type 0 where
  pub part : Part (paid_numbers t budget whole) (paid_numbers t left rest) r₀ r (record_width * k)
  pub rest-left : left_over left rest ≡ left_over budget whole

pub going_first : (t : List ℕ) (es : List Event) (b : ℕ) (r : List ℕ) → length (paid_numbers t b es) ≤ length r → Going t es b r r 0 b es
going_first t es b r h = record { part = part-start (paid_numbers t b es) r h; rest-left = refl }

-- the numbers of a record, as many as its width
abbrev pub six_of : List ℕ → Recorded → List ℕ
six_of t f = six t f.text.number f.range

six-length : (t : List ℕ) (f : Recorded) → length (six_of t f) ≡ record_width
unfolding six
six-length t f = refl

ran_as : {t : List ℕ} {whole : List Event} {budget : ℕ} {r₀ r : List ℕ} {x y : Run} → x ≡ y → Ran t whole budget r₀ r y → Ran t whole budget r₀ r x
ran_as {t} {whole} {budget} {r₀} {r} {x} {y} e h = subst (λ (z : Run). Ran t whole budget r₀ r z) (sym e) h

module _ {t : List ℕ} {whole : List Event} {budget : ℕ} {r₀ r : List ℕ} {k left : ℕ} where
  pub going_as : {es fs : List Event} → es ≡ fs → Going t whole budget r₀ r k left es → Going t whole budget r₀ r k left fs
  going_as {es} {fs} e g = subst (λ (x : List Event). Going t whole budget r₀ r k left x) e g

  pub going_paid : {A : Type 0} (m : Made A) (es : List Event) (p : Paid A) → pay m left ≡ some p →
      Going t whole budget r₀ r k left (after m.list es) → Going t whole budget r₀ r k p.left es
  going_paid m es p h g =
      record { part = part_skip (paid-written m left es t p h) g.part; rest-left = sym (paid-left m left es p h) ∙ g.rest-left }

  pub going_out : {A : Type 0} (m : Made A) (es : List Event) (x : Run) → pay m left ≡ none → x ≡ run_of k none →
      Going t whole budget r₀ r k left (after m.list es) → Ran t whole budget r₀ r x
  unfolding run_of
  going_out m es x h e g =
      ran_as e (record {
        wrote = part_end (out_written m left es t h) g.part;
        run = ap (run_of k) (sym (out-left m left es h) ∙ g.rest-left);
      })

  pub going_end : (x : Run) → x ≡ run_of k (some left) → Going t whole budget r₀ r k left [] → Ran t whole budget r₀ r x
  unfolding run_of
  going_end x e g =
      ran_as e (record {
        wrote = part_end (end-written t left) g.part;
        run = ap (run_of k) (sym (end-left left) ∙ g.rest-left);
      })

  module _ (f : Recorded) (es : List Event) (g : Going t whole budget r₀ r k left (found f ∷ es)) where
    pub going_room : record_width * k + record_width ≤ length r
    going_room = subst (λ (n : ℕ). record_width * k + n ≤ length r) (six-length t f) (part-space (six_of t f) (paid_numbers t left es) (found-written t left f es) g.part)

    pub going_found : (r' : List ℕ) → r' ≡ take (record_width * k) r ++ six_of t f ++ drop (record_width * k + record_width) r →
        Going t whole budget r₀ r' (k + 1) left es
    going_found r' e =
        let at : record_width * (k + 1) ≡ record_width * k + length (six_of t f) = omega (arith, six-length t f) in
        let to : record_width * k + record_width ≡ record_width * (k + 1) = omega arith in
        record {
          part = part_puts (six_of t f) (found-written t left f es) at
              (e ∙ ap (λ (n : ℕ). take (record_width * k) r ++ six_of t f ++ drop n r) to) g.part;
          rest-left = sym (found_left left f es) ∙ g.rest-left;
        }
