-- What a score has to beat.
--     beats_falls      where a score does not beat the floor, no lower one does
--     useless_to       where n shared is not enough, nothing less is
--     judged           the value made of what is reached tells the real one
-- Assumes nothing.
use Rattle.std.proofs.Common.{◌≡◌, ℕ, ◌+◌, ◌≤◌, Bool, true, false, not, T, leb, sym, refl, ap, ◌∙◌, true≢false, arith, leb-false, leb-true}
use mathlib.Core.Bool.{false≢true}
use lib.Ieee.{Float, lt, le}
use borrow.Author.Tests.{not-false}
use Rattle.rules.specs.declared.Value.{Value}
use Rattle.rules.specs.Sizes.{total_most}
use Rattle.rules.specs.Table.{score}
use Rattle.rules.specs.Refusal.{unit}
use Rattle.rules.proofs.FloatOrder.{le_not, lt_between}
use Rattle.rules.proofs.ScoreLaws.{score_facts, score_mono}
use Rattle.floors.specs.declared.Floor.{Floor}
use Rattle.floors.specs.Floors.{beats, Judged}
use Rattle.ngram_score.specs.Shares.{Useless, Reached}

-- ---- a lower score beats no more
module _ (x y : Float) (l : T (le x y)) (u : T (unit x)) (v : T (unit y)) where
  not_above : (f : Float) → lt f y ≡ false → lt f x ≡ false
  not_above f h = at (lt f x) refl
    where
      at : (t : Bool) → lt f x ≡ t → t ≡ false
      at false q = refl
      at true q = absurd (true≢false (sym (lt_between f y x v q (le_not x y l)) ∙ h))

  still_below : (f : Float) → lt y f ≡ true → lt x f ≡ true
  still_below f h = at (lt x f) refl
    where
      at : (t : Bool) → lt x f ≡ t → t ≡ true
      at true q = refl
      at false q = absurd (true≢false (sym (lt_between y x f u h q) ∙ le_not x y l))

  pub beats_falls : (floor : Floor) → beats floor y ≡ false → beats floor x ≡ false
  unfolding beats
  beats_falls floor h = at floor.ties floor.score h
    where
      at : (t : Bool) (f : Float) → beats (record { score = f; ties = t }) y ≡ false → beats (record { score = f; ties = t }) x ≡ false
      at true f k = ap not (still_below f (not-false (lt y f) k))
      at false f k = not_above f k

-- ---- by what is shared
module _ (floor : Floor) (a b : ℕ) (A : a ≤ total_most) (B : b ≤ total_most) where
  fair : (m : ℕ) → m ≤ a → m ≤ b → T (unit (score m a b))
  fair m h k = (score_facts m a b h k A B).in_unit

  pub useless_to : (n w : ℕ) → n ≤ a → n ≤ b → w ≡ n + 1 → beats floor (score n a b) ≡ false → Useless floor a b w
  unfolding Useless
  useless_to n w h k e q m l i j =
      beats_falls (score m a b) (score n a b) (score_mono m n a b (omega (arith, l, e)) h k A B) (fair m i j) (fair n h k) floor q

  pub useless_none : Useless floor a b 0
  unfolding Useless
  useless_none m l = absurd (omega (arith, l))

  abbrev pub value_at : ℕ → Value
  value_at m = record { score = score m a b; m = m; t = a + b }

  -- what beats the floor shares at least w
  enough : (w m : ℕ) → Useless floor a b w → m ≤ a → m ≤ b → beats floor (score m a b) ≡ true → w ≤ m
  unfolding Useless
  enough w m u h k q = at (leb w m) refl
    where
      at : (t : Bool) → leb w m ≡ t → w ≤ m
      at true e = leb-true w m e
      at false e = absurd (false≢true (sym (u m (leb-false w m e) h k) ∙ q))

  pub judged : (w n m : ℕ) → n ≤ a → n ≤ b → Useless floor a b w → Reached w n m → Judged floor (value_at n) (value_at m)
  judged w n m h k u r =
      let i : m ≤ a = omega (arith, r.most, h) in
      let j : m ≤ b = omega (arith, r.most, k) in
      record {
        real = λ q. ap value_at (r.whole (enough w n u h k q));
        told = λ q. let l = enough w m u i j q in ap value_at (r.whole (omega (arith, l, r.most)));
        real-unit = fair n h k;
        told-unit = fair m i j;
      }
