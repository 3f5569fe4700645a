-- Parts that end at a newline: they hold none, and a string without one is where the part starts if it is where the text does. The
-- groups of a table, one after the other, and the walks over them.
-- Assumes nothing.
use mathlib.Core.Path.{◌≡◌, refl, ap}
use mathlib.Core.Bool.{Bool, true, false, cond, not, ◌&&◌}
use mathlib.Core.List.{List, [], ◌∷◌, ◌++◌}
use Prim.Native.Nat.{ℕ, zero, suc, ◌+◌, ◌*◌, ◌≤◌, ◌<◌}
use native.Mathlib.Omega.{arith}
use lib.Dec.{ltb, eqb}
use lib.ListN.{length, drop, get_or, length-drop}
use lib.Seq.{slice, get_or-drop}
use borrow.Author.Tests.{ltb-true, ltb-false, eqb-true, eqb-false, ne_eqb}
use Rattle.lists.proofs.SliceLaws.{slice_next, slice_done}
use Rattle.rules.specs.Bytes.{newline, every, starts}
use Rattle.rules.specs.Prefix.{Counted, reached}
use Rattle.rules.proofs.BoolLaws.{and_left, and_right}
use Rattle.sort_spread.specs.Sort.{ends_part, marks_left, part_of}
use Rattle.sort_tally.specs.Group.{entries_from, entries_at}
use Rattle.prefix_list.specs.Listing.{plain}
use Rattle.prefix_choice.specs.Choice.{Beaten}

-- ---- parts that end at a newline
pub starts-part : (w l : List ℕ) → plain w ≡ true → starts w (part_of 10 1 l) ≡ starts w l
unfolding starts part_of ends_part marks_left plain every newline
starts-part [] l h = refl
starts-part (w ∷ ws) [] h = refl
starts-part (w ∷ ws) (x ∷ xs) h =
    go (eqb x 10) refl (starts-part ws xs (and_right (not (eqb w 10)) (every (λ y. not (eqb y 10)) ws) h))
  where
    other : (t : Bool) → eqb w 10 ≡ t → not t ≡ true → w ≡ 10 → ⊥
    other true e k q = let z : ◌≡◌ {A = ℕ} 0 1 = cc in omega arith
    other false e k q = eqb-false w 10 e q

    go : (t : Bool) → eqb x 10 ≡ t → starts ws (part_of 10 1 xs) ≡ starts ws xs →
        starts (w ∷ ws) (cond (cond t true false) [] (x ∷ part_of 10 (cond t 0 1) xs)) ≡ (eqb w x && starts ws xs)
    go true e ih =
        let n = other (eqb w 10) refl (and_left (not (eqb w 10)) (every (λ y. not (eqb y 10)) ws) h) in
        let q : x ≡ 10 = eqb-true x 10 e in
        rw (ne_eqb w x (λ z. n (omega arith)))
    go false e ih = ap (λ (b : Bool). eqb w x && b) ih

pub part-plain : (l : List ℕ) → plain (part_of 10 1 l) ≡ true
unfolding part_of ends_part marks_left plain every newline
part-plain [] = refl
part-plain (x ∷ xs) = go (eqb x 10) refl (part-plain xs)
  where
    go : (t : Bool) → eqb x 10 ≡ t → every (λ y. not (eqb y 10)) (part_of 10 1 xs) ≡ true →
        every (λ y. not (eqb y 10)) (cond (cond t true false) [] (x ∷ part_of 10 (cond t 0 1) xs)) ≡ true
    go true e ih = refl
    go false e ih = rw e ih

pub part-whole : (q r : List ℕ) → plain q ≡ true → part_of 10 1 (q ++ 10 ∷ r) ≡ q
unfolding part_of ends_part marks_left plain every newline
part-whole [] r h = refl
part-whole (x ∷ xs) r h =
    go (eqb x 10) (and_left (not (eqb x 10)) (every (λ y. not (eqb y 10)) xs) h) (part-whole xs r (and_right (not (eqb x 10)) (every (λ y. not (eqb y 10)) xs) h))
  where
    go : (t : Bool) → not t ≡ true → part_of 10 1 (xs ++ 10 ∷ r) ≡ xs → cond (cond t true false) [] (x ∷ part_of 10 (cond t 0 1) (xs ++ 10 ∷ r)) ≡ x ∷ xs
    go true k ih = let z : ◌≡◌ {A = ℕ} 0 1 = cc in absurd (omega arith)
    go false k ih = ap (λ (l : List ℕ). x ∷ l) ih

-- ---- the groups in p, from j on
module _ (text p : List ℕ) (k d : ℕ) where
  abbrev pub entries : ℕ → List Counted
  entries j = entries_from 10 1 text (slice j d p) (slice j d (drop k p))

  pub entries_next : (j : ℕ) → j < d → d ≤ k → k + k ≤ length p →
      entries j ≡ record { bytes = part_of 10 1 (drop (get_or p j 0) text); count = get_or p (k + j) 0 } ∷ entries (j + 1)
  unfolding entries_from
  entries_next j h l r =
      let a : d ≤ length p = omega arith in
      let b : d ≤ length (drop k p) = rw length-drop (omega arith) in
      rw (slice_next p j d h a, slice_next (drop k p) j d h b, get_or-drop k p j 0)

  pub entries-done : (j : ℕ) → d ≤ j → entries j ≡ []
  unfolding entries_from
  entries-done j h = rw (slice_done p j d h)

-- the sum over the groups before j is there
pub record Reaching (text p w : List ℕ) (k d sum j : ℕ) : Type 0 where
  pub within : j ≤ d
  pub small : sum ≤ j * 4294967296
  pub total : sum + reached w (entries text p k d j) ≡ reached w (entries_at 10 1 text p k d)

pub reaching_start : (text p w : List ℕ) (k d : ℕ) → Reaching text p w k d 0 0
unfolding entries_at
reaching_start text p w k d = record { within = omega arith; small = omega arith; total = omega arith }

module _ {text p w : List ℕ} {k d sum j : ℕ} (r : Reaching text p w k d sum j) where
  module _ (h : j < d) (few : d ≤ k) (room : k + k ≤ length p) (smooth : plain w ≡ true) (start count : ℕ) (e₁ : start ≡ get_or p j 0) (e₂ : count ≡ get_or p (k + j) 0) where
    split : (t : Bool) → starts w (drop start text) ≡ t → reached w (entries text p k d j) ≡ cond t (count + 1) 0 + reached w (entries text p k d (j + 1))
    unfolding reached
    split t e = rw (entries_next text p k d j h few room, starts-part w (drop (get_or p j 0) text) smooth, ← e₁, e, ← e₂)

    pub reaching_hit : starts w (drop start text) ≡ true → count < 4294967296 → Reaching text p w k d (sum + (count + 1)) (j + 1)
    reaching_hit e l =
        record { within = omega arith; small = omega (arith, r.small); total = omega (arith, split true e, r.total) }

    pub reaching_miss : starts w (drop start text) ≡ false → Reaching text p w k d sum (j + 1)
    reaching_miss e = record { within = omega arith; small = omega (arith, r.small); total = omega (arith, split false e, r.total) }

  pub reaching_end : d ≤ j → sum ≡ reached w (entries_at 10 1 text p k d)
  unfolding reached
  reaching_end h = omega (arith, ap (reached w) (entries-done text p k d j h), r.total)

-- ---- which of two groups wins
module _ (p : List ℕ) (k j w : ℕ) where
  pub beaten_less : get_or p (k + j) 0 < get_or p (k + w) 0 → Beaten p k j w
  beaten_less h = record { most = omega arith; first = λ e. absurd (omega arith) }

  pub beaten_first : get_or p (k + j) 0 ≤ get_or p (k + w) 0 → get_or p w 0 ≤ get_or p j 0 → Beaten p k j w
  beaten_first h l = record { most = h; first = λ e. l }

pub beaten_trans : (p : List ℕ) (k i j w : ℕ) → Beaten p k i j → Beaten p k j w → Beaten p k i w
beaten_trans p k i j w a b =
    record {
      most = omega (arith, a.most, b.most);
      first = λ e.
          let x : get_or p (k + i) 0 ≡ get_or p (k + j) 0 = omega (arith, a.most, b.most) in
          let y : get_or p (k + j) 0 ≡ get_or p (k + w) 0 = omega (arith, a.most, b.most) in
          omega (arith, a.first x, b.first y);
    }

abbrev Told : List ℕ → ℕ → ℕ → ℕ → Bool → Type 0
Told p k best i t = (t ≡ true → Beaten p k best i) × (t ≡ false → Beaten p k i best)

module _ (p : List ℕ) (k best i : ℕ) where
  pub told_counts : (get_or p (k + best) 0 ≡ get_or p (k + i) 0 → ⊥) → Told p k best i (ltb (get_or p (k + best) 0) (get_or p (k + i) 0))
  told_counts n = (
    λ e. beaten_less p k best i (ltb-true (get_or p (k + best) 0) (get_or p (k + i) 0) e),
    λ e. let l = ltb-false (get_or p (k + best) 0) (get_or p (k + i) 0) e in beaten_less p k i best (omega arith),
  )

  pub told_tie : get_or p (k + i) 0 ≤ get_or p (k + best) 0 → get_or p (k + best) 0 ≤ get_or p (k + i) 0 → Told p k best i (ltb (get_or p i 0) (get_or p best 0))
  told_tie h l = (
    λ e. beaten_first p k best i l (let x = ltb-true (get_or p i 0) (get_or p best 0) e in omega arith),
    λ e. beaten_first p k i best h (ltb-false (get_or p i 0) (get_or p best 0) e),
  )

-- of the first i groups none beats `best`
pub record Leading (p : List ℕ) (k i best : ℕ) : Type 0 where
  pub within : best < i
  pub most : (j : ℕ) → j < i → Beaten p k j best

pub leading_start : (p : List ℕ) (k : ℕ) → Leading p k 1 0
leading_start p k = record { within = omega arith; most = λ j h. only j h }
  where
    only : (j : ℕ) → j < 1 → Beaten p k j 0
    only zero h = beaten_first p k 0 0 (omega arith) (omega arith)
    only (suc j) h = absurd (omega arith)

module _ {p : List ℕ} {k i best : ℕ} (l : Leading p k i best) where
  either : (w : ℕ) → ((j : ℕ) → j < i → Beaten p k j w) → Beaten p k i w → (j : ℕ) → j < i + 1 → Beaten p k j w
  either w f h j b = go (ltb j i) refl
    where
      go : (t : Bool) → ltb j i ≡ t → Beaten p k j w
      go true e = f j (ltb-true j i e)
      go false e = let n = ltb-false j i e in let q : j ≡ i = omega arith in rw q h

  pub leading_new : Beaten p k best i → Leading p k (i + 1) i
  leading_new b = record { within = omega arith; most = either i (λ j h. beaten_trans p k j best i (l.most j h) b) (beaten_first p k i i (omega arith) (omega arith)) }

  pub leading_old : Beaten p k i best → Leading p k (i + 1) best
  leading_old b = record { within = omega (arith, l.within); most = either best l.most b }
