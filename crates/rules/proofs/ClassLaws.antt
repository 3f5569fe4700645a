-- The class of a code point settles each test that the passes make: each is a range of classes, in every edition. One law turns what antt
-- computes at all 256 entries, in edition 1 and in edition 2, into the rule.
-- Assumes nothing.
use mathlib.Core.Path.{◌≡◌, refl, sym, subst, ap, ◌∙◌}
use mathlib.Core.Bool.{Bool, true, false, not, ◌&&◌, ◌||◌, beq, cond}
use Prim.Native.Nat.{ℕ, zero, suc, ◌<◌}
use native.Mathlib.Nat.{not-suc-le-zero}
use native.Mathlib.Omega.{arith}
use lib.Dec.{T, eqb}
use borrow.Author.Tests.{eqb-true, eqb-false}
use Rattle.rules.specs.Bytes.{text, within, among, space, upper, digit, word, quote, dropped}
use Rattle.rules.specs.Lines.{slip, gap}
use Rattle.rules.specs.Class.{class_of}
use Rattle.rules.proofs.Opened.{opened}

-- the code points that pass an edition's test are those of its classes lo to hi
abbrev pub Ruled : (ℕ → ℕ → Bool) → ℕ → ℕ → Type 0
Ruled test lo hi = (e x : ℕ) → x < 256 → test e x ≡ within lo hi (class_of e x)

abbrev agrees : (ℕ → ℕ → Bool) → ℕ → ℕ → ℕ → ℕ → Bool
agrees test lo hi e x = beq (test e x) (within lo hi (class_of e x))

below : (ℕ → Bool) → ℕ → Bool
below p zero = true
below p (suc n) = p n && below p n

beq_true : (a b : Bool) → T (beq a b) → a ≡ b
beq_true true true t = refl
beq_true true false t = absurd t
beq_true false true t = absurd t
beq_true false false t = refl

both : (a b : Bool) → T (a && b) → T a × T b
both true b t = (tt, t)
both false b t = absurd t

below_at : (p : ℕ → Bool) (n : ℕ) → T (below p n) → (x : ℕ) → x < n → T (p x)
unfolding below
below_at p zero t x h = absurd (not-suc-le-zero h)
below_at p (suc n) t x h = at (eqb x n) refl (below_at p n (both (p n) (below p n) t).1 x)
  where
    at : (u : Bool) → eqb x n ≡ u → (x < n → T (p x)) → T (p x)
    at true q go = subst (λ (y : ℕ). T (p y)) (sym (eqb-true x n q)) (both (p n) (below p n) t).0
    at false q go = let e = eqb-false x n q in go (omega arith)

-- an edition is 1, or as 2
abbrev pub like_of : ℕ → ℕ
like_of e = cond (eqb e 1) 1 2

slip_like : (e x : ℕ) → slip e x ≡ slip (like_of e) x
unfolding slip
slip_like e x = at (eqb e 1) refl
  where
    at : (t : Bool) → eqb e 1 ≡ t → slip e x ≡ slip (cond t 1 2) x
    at true q = rw q refl
    at false q = rw q refl

-- what depends on the edition does so by that digit alone
pub class_like : (e x : ℕ) → class_of e x ≡ class_of (like_of e) x
unfolding class_of
class_like e x = rw (slip_like e x) refl

gap_like : (e x : ℕ) → gap e x ≡ gap (like_of e) x
unfolding gap
gap_like e x = rw (slip_like e x) refl

rule : (test : ℕ → ℕ → Bool) → ((e x : ℕ) → test e x ≡ test (like_of e) x) → (lo hi : ℕ) →
    T (below (agrees test lo hi 1) 256) → T (below (agrees test lo hi 2) 256) → Ruled test lo hi
rule test like lo hi first second e x h = like e x ∙ at (eqb e 1) ∙ ap (within lo hi) (sym (class_like e x))
  where
    at : (t : Bool) → test (cond t 1 2) x ≡ within lo hi (class_of (cond t 1 2) x)
    at true = beq_true (test 1 x) (within lo hi (class_of 1 x)) (below_at (agrees test lo hi 1) 256 first x h)
    at false = beq_true (test 2 x) (within lo hi (class_of 2 x)) (below_at (agrees test lo hi 2) 256 second x h)

-- a test that does not look at the edition
abbrev free : (ℕ → Bool) → ℕ → ℕ → Bool
free test e x = test x

rule_free : (test : ℕ → Bool) (lo hi : ℕ) → T (below (agrees (free test) lo hi 1) 256) → T (below (agrees (free test) lo hi 2) 256) → Ruled (free test) lo hi
rule_free test lo hi first second = rule (free test) (λ e x. refl) lo hi first second

-- ---- the line passes: 2, 4, and 5 five times
pub dropped_class : Ruled (free dropped) 1 2
unfolding below opened
dropped_class = rule_free dropped 1 2 tt tt

pub gap_class : Ruled gap 2 5
unfolding below opened
gap_class = rule gap gap_like 2 5 tt tt

pub quote_class : Ruled (free quote) 13 13
unfolding below opened
quote_class = rule_free quote 13 13 tt tt

pub dash_class : Ruled (free (among (text "-"))) 14 14
unfolding below opened
dash_class = rule_free (among (text "-")) 14 14 tt tt

pub open_class : Ruled (free (among (text "([{"))) 15 15
unfolding below opened
open_class = rule_free (among (text "([{")) 15 15 tt tt

pub close_class : Ruled (free (among (text ")]}"))) 16 16
unfolding below opened
close_class = rule_free (among (text ")]}")) 16 16 tt tt

pub under_class : Ruled (free (among (text "_"))) 12 12
unfolding below opened
under_class = rule_free (among (text "_")) 12 12 tt tt

-- ---- trim, and the aggressive passes: 7, 2, 3 and 4
pub space_class : Ruled (free space) 5 8
unfolding below opened
space_class = rule_free space 5 8 tt tt

pub vertical_class : Ruled (free (within 10 13)) 6 7
unfolding below opened
vertical_class = rule_free (within 10 13) 6 7 tt tt

pub kept_class : Ruled (free (λ x. word x || space x)) 4 12
unfolding below opened
kept_class = rule_free (λ x. word x || space x) 4 12 tt tt

pub upper_class : Ruled (free upper) 11 11
unfolding below opened
upper_class = rule_free upper 11 11 tt tt

-- ---- digits are two classes: the 4 where pass 4 takes it, and the others
pub slip_class : Ruled slip 4 4
unfolding below opened
slip_class = rule slip slip_like 4 4 tt tt

pub digit_class : Ruled (λ e x. digit x && not (slip e x)) 9 9
unfolding below opened
digit_class = rule (λ e x. digit x && not (slip e x)) (λ e x. ap (λ (t : Bool). digit x && not t) (slip_like e x)) 9 9 tt tt
