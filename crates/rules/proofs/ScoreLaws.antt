-- What the rules say of a score, over m and the two totals: `score_facts`. By m and t alone it is 2 m / t rounded once
-- (`score_by_t`), and with the same totals more shared gives no lower a score (`score_mono`). From 0.0 to 1.0 is no NaN (`no_nan`).
-- Assumes nothing.
use mathlib.Core.Path.{◌≡◌, refl, sym, ap, ap₂, ◌∙◌}
use mathlib.Core.Logic.{◌↔◌, inl, inr}
use Prim.Native.Nat.{ℕ, ◌+◌, ◌*◌, ◌≤◌, ◌<◌, zero-le}
use native.Mathlib.Nat.{add_comm, mul-le-mul_right, eq-zero-or-pos, eq-or-lt_of_le}
use native.Mathlib.Omega.{arith}
use mathlib.Core.Bool.{Bool, true, false, not, ◌||◌, cond}
use lib.Dec.{T, eqb}
use lib.Ieee.{Float, nan, inf, fin, is_nan, binary32, div, le, fits}
use lib.Ieee.Fits.{and_i, round-fits}
use lib.Ieee.Order.{round_mono}
use borrow.Author.Tests.{eq-eqb, eqb-true}
use Rattle.rules.specs.Sizes.{total_most}
use Rattle.rules.specs.Table.{nought, one, float, score, Close}
use Rattle.rules.specs.Refusal.{unit}
use Rattle.rules.proofs.ScoreRound.{R, quotient, one_at, zero_at, below_one, above_zero, close, close_zero}

-- r is the score of m shared among totals a and b
pub record ScoreFacts (m a b : ℕ) (r : Float) : Type 0 where
  pub symmetric : r ≡ score m b a
  pub zero_exactly : (r ≡ nought) ↔ (m ≡ 0)
  pub one_exactly : (r ≡ one) ↔ ((2 * m ≡ a + b) × (0 < a + b))
  pub distance : Close m (a + b) r
  pub in_unit : T (unit r)
  pub held : T (fits binary32 r)

-- ---- symmetric
or_comm : (p q : Bool) → p || q ≡ q || p
or_comm true true = refl
or_comm true false = refl
or_comm false true = refl
or_comm false false = refl

score_swap : (m a b : ℕ) → score m a b ≡ score m b a
unfolding score
score_swap m a b = ap₂ (λ p t. cond p nought (div binary32 (float (2 * m)) (float t))) (or_comm (eqb a 0) (eqb b 0)) (add_comm a b)

-- ---- by m and t = a + b alone
pub score_by_t : (m a b : ℕ) → m ≤ a → m ≤ b → a ≤ total_most → b ≤ total_most → 0 < a + b → score m a b ≡ R (2 * m) (a + b)
unfolding score
score_by_t m a b h k A B P = go (eqb a 0) (eqb b 0) refl refl
  where
    none : m ≡ 0 → nought ≡ R (2 * m) (a + b)
    none z = sym (ap (λ n. R (2 * n) (a + b)) z ∙ zero_at (a + b) P)

    go : (p q : Bool) → eqb a 0 ≡ p → eqb b 0 ≡ q
        → cond (p || q) nought (div binary32 (float (2 * m)) (float (a + b))) ≡ R (2 * m) (a + b)
    go true q e f = none (omega (arith, eqb-true a 0 e))
    go false true e f = none (omega (arith, eqb-true b 0 f))
    go false false e f = quotient (2 * m) (a + b) (omega arith) P (omega arith)

score-none : (m a b : ℕ) → a + b ≡ 0 → score m a b ≡ nought
unfolding score
score-none m a b z = rw (eq-eqb a 0 (omega arith))

-- ---- the facts
nought-one : nought ≡ one → ⊥
nought-one e = let z : ◌≡◌ {A = ℕ} 0 1 = cc in omega arith

quotient_unit : (n t : ℕ) → 0 < t → n ≤ t → T (unit (R n t))
unfolding unit
quotient_unit n t P h =
    and_i (le nought (R n t)) (le (R n t) one)
    (rw (zero_at t P) at (round_mono binary32 0 t n t P P (mul-le-mul_right t zero-le)))
    (rw (one_at t P) at (round_mono binary32 n t t t P P (mul-le-mul_right t h)))

facts_none : (m a b : ℕ) → m ≤ a → a + b ≡ 0 → ScoreFacts m a b nought
facts_none m a b h z =
    let n : m ≡ 0 = omega arith in
    record {
      symmetric = sym (score-none m b a (omega arith));
      zero_exactly = (λ _. n, λ _. refl);
      one_exactly = (λ e. absurd (nought-one e), λ p. absurd (omega arith));
      distance = rw n (close_zero (a + b));
      in_unit = unfold unit le in tt;
      held = unfold fits in tt;
    }

facts_some : (m a b : ℕ) → m ≤ a → m ≤ b → a ≤ total_most → b ≤ total_most → 0 < a + b → ScoreFacts m a b (R (2 * m) (a + b))
facts_some m a b h k A B P =
    let t = a + b in
    let L : t ≤ 2 * total_most = omega arith in
    let D : 2 * m ≤ t = omega arith in
    record {
      symmetric = sym (score_by_t m a b h k A B P) ∙ score_swap m a b;
      zero_exactly = (
        λ e. elim (eq-zero-or-pos m) [ inl z ↦ z | inr p ↦ absurd (above_zero (2 * m) t (omega arith) P L e) ],
        λ z. ap (λ n. R (2 * n) t) z ∙ zero_at t P,
      );
      one_exactly = (
        λ e. elim (eq-or-lt_of_le D) [ inl y ↦ (y, P) | inr l ↦ absurd (below_one (2 * m) t l L e) ],
        λ p. ap (λ n. R n t) p.0 ∙ one_at t P,
      );
      distance = close m t P L D;
      in_unit = quotient_unit (2 * m) t P D;
      held = round-fits binary32 false (2 * m) t;
    }

pub score_facts : (m a b : ℕ) → m ≤ a → m ≤ b → a ≤ total_most → b ≤ total_most → ScoreFacts m a b (score m a b)
score_facts m a b h k A B = elim (eq-zero-or-pos (a + b)) [
  | inl z ↦ rw (score-none m a b z) (facts_none m a b h z)
  | inr P ↦ rw (score_by_t m a b h k A B P) (facts_some m a b h k A B P)
]

-- ---- more shared, no lower
pub score_mono : (m n a b : ℕ) → m ≤ n → n ≤ a → n ≤ b → a ≤ total_most → b ≤ total_most → T (le (score m a b) (score n a b))
score_mono m n a b l h k A B = elim (eq-zero-or-pos (a + b)) [
  | inl z ↦ rw (score-none m a b z, score-none n a b z) (unfold le in tt)
  | inr P ↦
      let le-two : 2 * m ≤ 2 * n = omega arith in
      rw (score_by_t m a b (omega arith) (omega arith) A B P, score_by_t n a b h k A B P)
      (round_mono binary32 (2 * m) (a + b) (2 * n) (a + b) P P (mul-le-mul_right (a + b) le-two))
]

-- ---- and it has bits
pub no_nan : (x : Float) → T (unit x) → T (not (is_nan x))
unfolding unit le is_nan
no_nan nan t = absurd t
no_nan (inf s) t = tt
no_nan (fin s m e) t = tt
