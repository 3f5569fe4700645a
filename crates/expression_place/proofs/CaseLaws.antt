-- Parts meet if they are equal letter case aside, exactly (`case_aside`), which is an equivalence (`case_self`, `case_flip`, `case_chain`).
-- Assumes nothing.
use mathlib.Core.Path.{◌≡◌, refl, sym, ap, ◌∙◌}
use mathlib.Core.Logic.{◌↔◌}
use Prim.Native.Nat.{ℕ}
use mathlib.Core.Bool.{Bool, true, false, ◌&&◌}
use mathlib.Core.List.{List, map}
use Rattle.rules.specs.Bytes.{same}
use Rattle.rules.proofs.BoolLaws.{and_left, and_right, and_both}
use Rattle.rules.proofs.PrefixLaws.{same_turn}
use Rattle.expression.specs.Reading.{Part, part}
use Rattle.expression.specs.Writing.{lowered, alike, agree, meets}
use Rattle.expression.proofs.WordLaws.{same-is, same_self}

-- ---- strings and signs
alike_is : (v w : List ℕ) → (alike v w ≡ true) ↔ (map lowered v ≡ map lowered w)
unfolding alike
alike_is v w = (λ e. sym (same-is (map lowered v) (map lowered w) e), λ e. ap (same (map lowered v)) (sym e) ∙ same_self (map lowered v))

agree-is : (a b : Bool) → (agree a b ≡ true) ↔ (a ≡ b)
unfolding agree
agree-is true b = (sym, sym)
agree-is false true = (λ e. e, λ e. e)
agree-is false false = (λ _. refl, λ _. refl)

agree-flip : (a b : Bool) → agree a b ≡ agree b a
unfolding agree
agree-flip true true = refl
agree-flip true false = refl
agree-flip false true = refl
agree-flip false false = refl

-- ---- parts
abbrev pub CaseAside : Part → Part → Type 0
CaseAside (part v a x) (part w b y) = (map lowered v ≡ map lowered w) × (a ≡ b) × (map lowered x ≡ map lowered y)

pub case_aside : (p q : Part) → (meets p q ≡ true) ↔ CaseAside p q
unfolding meets
case_aside (part v a x) (part w b y) = (apart, joined) where
  apart : (alike v w && agree a b && alike x y) ≡ true → CaseAside (part v a x) (part w b y)
  apart e =
      let front = and_left (alike v w && agree a b) (alike x y) e in (
        (alike_is v w).0 (and_left (alike v w) (agree a b) front),
        (agree-is a b).0 (and_right (alike v w) (agree a b) front),
        (alike_is x y).0 (and_right (alike v w && agree a b) (alike x y) e),
      )

  joined : CaseAside (part v a x) (part w b y) → (alike v w && agree a b && alike x y) ≡ true
  joined c =
      and_both (alike v w && agree a b) (alike x y)
      (and_both (alike v w) (agree a b) ((alike_is v w).1 c.0) ((agree-is a b).1 c.1)) ((alike_is x y).1 c.2)

pub case_self : (p : Part) → meets p p ≡ true
case_self (part v a x) = (case_aside (part v a x) (part v a x)).1 (refl, refl, refl)

pub case_flip : (p q : Part) → meets p q ≡ meets q p
unfolding meets alike
case_flip (part v a x) (part w b y) =
    rw (same_turn (map lowered v) (map lowered w), agree-flip a b, same_turn (map lowered x) (map lowered y))

pub case_chain : (p q r : Part) → meets p q ≡ true → meets q r ≡ true → meets p r ≡ true
case_chain (part v a x) (part w b y) (part u c z) e f =
    let i = (case_aside (part v a x) (part w b y)).0 e in
    let j = (case_aside (part w b y) (part u c z)).0 f in
    (case_aside (part v a x) (part u c z)).1 (i.0 ∙ j.0, i.1 ∙ j.1, i.2 ∙ j.2)
