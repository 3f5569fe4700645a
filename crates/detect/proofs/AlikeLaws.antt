-- The best so far, told only as far as it is not below a floor.
--     alike_next       one text more, judged against what it has to beat: the code's best and the definition's stay alike
--     alike-low        where the one is below the floor, the other is
--     alike-high       where the one is not, they are the same
--     alike-lowest     with the floor at 0.0 they are the same
-- Assumes nothing.
use mathlib.Core.Path.{◌≡◌, refl, sym, ap, ◌∙◌}
use Prim.Native.Nat.{◌≤◌}
use mathlib.Core.Bool.{Bool, true, false, not, ◌||◌, cond, true≢false, false≢true}
use lib.Dec.{T, eqb, ltb}
use lib.Ieee.{Float, lt}
use borrow.Author.Tests.{not-true, ltb-false}
use Rattle.rules.specs.declared.Value.{Value}
use Rattle.rules.specs.Table.{nought}
use Rattle.rules.specs.Search.{Stored, Best, better}
use Rattle.rules.specs.Refusal.{unit}
use Rattle.rules.proofs.FloatOrder.{lt_between}
use Rattle.rules.proofs.RankLaws.{better-any, better-none, better-ahead, better-behind, ahead-higher, behind, behind-lower}
use Rattle.floors.specs.Floors.{beats, Judged}
use Rattle.floors.proofs.LowestLaws.{beats-lowest}
use Rattle.detect_best.specs.Beats.{to_beat}
use Rattle.detect.specs.Bests.{Alike, same, both_below}

pub better-unit : (b n : Best) → T (unit b.value.score) → T (unit n.value.score) → T (unit (better b n).value.score)
better-unit b n h k = better-any (λ (x : Best). T (unit x.value.score)) b n h k

-- ---- one text more: v is its value, and r is what is told of it
module _ (floor : Float) (c x : Best) (s : Stored) (v r : Value) where
  abbrev pub told : Best
  told = record { text = s; value = r }

  abbrev pub real : Best
  real = record { text = s; value = v }

  -- against the floor, where ties do
  module _ (j : Judged (record { score = floor; ties = true }) v r) where
    told_above : lt v.score floor ≡ false → r ≡ v
    unfolding beats
    told_above q = j.real (ap not q)

    told_below : lt v.score floor ≡ true → lt r.score floor ≡ true
    unfolding beats
    told_below q = at (lt r.score floor) refl
      where
        at : (t : Bool) → lt r.score floor ≡ t → t ≡ true
        at true e = refl
        at false e = sym e ∙ ap (λ (y : Value). lt y.score floor) (j.told (ap not e)) ∙ q

    first : c ≡ x → eqb c.text.kind 0 ≡ true → Alike floor (better c told) (better x real)
    first e k =
        let y = better-none c told k in
        let z = better-none x real (ap (λ (b : Best). eqb b.text.kind 0) (sym e) ∙ k) in
        rw (y, z) (at (lt v.score floor) refl)
      where
        at : (t : Bool) → lt v.score floor ≡ t → Alike floor told real
        at true q = both_below (told_below q) q j.real-unit
        at false q = same (ap (λ (y : Value). record { text = s; value = y }) (told_above q))

    below : lt c.value.score floor ≡ true → lt x.value.score floor ≡ true → T (unit x.value.score) →
        Alike floor (better c told) (better x real)
    below p q u = at (lt v.score floor) refl
      where
        at : (t : Bool) → lt v.score floor ≡ t → Alike floor (better c told) (better x real)
        at true l =
            both_below (better-any (λ (b : Best). lt b.value.score floor ≡ true) c told p (told_below l))
            (better-any (λ (b : Best). lt b.value.score floor ≡ true) x real q l) (better-unit x real u j.real-unit)
        at false l =
            let e : told ≡ real = ap (λ (y : Value). record { text = s; value = y }) (told_above l) in
            let a = better-ahead c real (ahead-higher c real (lt_between c.value.score v.score floor j.real-unit p l)) in
            let b = better-ahead x real (ahead-higher x real (lt_between x.value.score v.score floor j.real-unit q l)) in
            same (ap (better c) e ∙ a ∙ sym b)

  -- against the best so far, which has reached the floor: where the next's kind does not go before it has to score higher,
  above_best : Judged (record { score = c.value.score; ties = false }) v r → c ≡ x → eqb c.text.kind 0 ≡ false → c.text.kind ≤ s.kind →
      Alike floor (better c told) (better x real)
  unfolding beats
  above_best j e k g = at (lt c.value.score v.score) refl
    where
      at : (t : Bool) → lt c.value.score v.score ≡ t → Alike floor (better c told) (better x real)
      at true q = same (ap (λ (y : Value). better c (record { text = s; value = y })) (j.real q) ∙ ap (λ (b : Best). better b real) e)
      at false q =
          same
          (better-behind c told k (behind c told (lost (lt c.value.score r.score) refl, λ z. g)) ∙
          sym (better-behind c real k (behind c real (q, λ z. g))) ∙ ap (λ (b : Best). better b real) e)
        where
          lost : (t : Bool) → lt c.value.score r.score ≡ t → lt c.value.score r.score ≡ false
          lost false l = l
          lost true l = ap (λ (y : Value). lt c.value.score y.score) (j.told l) ∙ q

  -- where it does, only what scores lower is not told
  tied_best : Judged (record { score = c.value.score; ties = true }) v r → c ≡ x → eqb c.text.kind 0 ≡ false → Alike floor (better c told) (better x real)
  unfolding beats
  tied_best j e k = at (lt v.score c.value.score) refl
    where
      at : (t : Bool) → lt v.score c.value.score ≡ t → Alike floor (better c told) (better x real)
      at false q = same (ap (λ (y : Value). better c (record { text = s; value = y })) (j.real (ap not q)) ∙ ap (λ (b : Best). better b real) e)
      at true q =
          same
          (better-behind c told k (behind-lower c told (low (lt r.score c.value.score) refl)) ∙ sym (better-behind c real k (behind-lower c real q)) ∙
          ap (λ (b : Best). better b real) e)
        where
          low : (t : Bool) → lt r.score c.value.score ≡ t → lt r.score c.value.score ≡ true
          low true l = l
          low false l = ap (λ (y : Value). lt y.score c.value.score) (j.told (ap not l)) ∙ q

  reached : Judged (record { score = c.value.score; ties = ltb s.kind c.text.kind }) v r → c ≡ x → eqb c.text.kind 0 ≡ false →
      Alike floor (better c told) (better x real)
  reached j e k = at (ltb s.kind c.text.kind) refl j
    where
      at : (t : Bool) → ltb s.kind c.text.kind ≡ t → Judged (record { score = c.value.score; ties = t }) v r → Alike floor (better c told) (better x real)
      at true g i = tied_best i e k
      at false g i = above_best i e k (ltb-false s.kind c.text.kind g)

  pub alike_next : Alike floor c x → T (unit x.value.score) → Judged (to_beat floor c.text.kind c.value.score s.kind) v r →
      Alike floor (better c told) (better x real)
  unfolding to_beat
  alike_next a u j = at (eqb c.text.kind 0) (lt c.value.score floor) refl refl a j
    where
      at : (k l : Bool) → eqb c.text.kind 0 ≡ k → lt c.value.score floor ≡ l → Alike floor c x →
          Judged (cond (k || l) (record { score = floor; ties = true }) (record { score = c.value.score; ties = ltb s.kind c.text.kind })) v r →
          Alike floor (better c told) (better x real)
      at true l f g (same e) i = first i e f
      at true l f g (both_below p q w) i = below i p q w
      at false true f g (same e) i = below i g (ap (λ (b : Best). lt b.value.score floor) (sym e) ∙ g) u
      at false true f g (both_below p q w) i = below i p q w
      at false false f g (same e) i = reached i e f
      at false false f g (both_below p q w) i = absurd (false≢true (sym g ∙ p))

-- ---- by the test against the floor
pub alike-low : (floor : Float) (b x : Best) → Alike floor b x → lt b.value.score floor ≡ true → lt x.value.score floor ≡ true
alike-low floor b x (same e) h = ap (λ (y : Best). lt y.value.score floor) (sym e) ∙ h
alike-low floor b x (both_below p q u) h = q

pub alike-high : (floor : Float) (b x : Best) → Alike floor b x → lt b.value.score floor ≡ false → b ≡ x
alike-high floor b x (same e) h = e
alike-high floor b x (both_below p q u) h = absurd (true≢false (sym p ∙ h))

-- ---- the floor at 0.0
not_below-nought : (y : Float) → T (unit y) → lt y nought ≡ false
unfolding beats
not_below-nought y u = not-true (lt y nought) (beats-lowest y u)

pub alike-lowest : (floor : Float) (b x : Best) → floor ≡ nought → Alike floor b x → b ≡ x
alike-lowest floor b x e (same p) = p
alike-lowest floor b x e (both_below p q u) =
    absurd (true≢false (sym q ∙ ap (λ (f : Float). lt x.value.score f) e ∙ not_below-nought x.value.score u))
