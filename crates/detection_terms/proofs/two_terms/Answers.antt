use mathlib.Core.Path.{◌≡◌, sym, ◌∙◌, ap}
use mathlib.Core.Bool.{true, false, not}
use mathlib.Core.List.{List}
use Prim.Native.Nat.{ℕ, ◌+◌, ◌<◌}
use native.Mathlib.Omega.{arith}
use lib.ListN.{length, get_or, drop}
use borrow.Author.Tests.{le-ltb, not-true, not-false}
use Rattle.detection_terms.specs.Terms.{plain_term, wide_term}
use Rattle.detection_terms.proofs.TermLaws.{two_terms_lem, on-plain, on_again, on-early, on-space, on-ascii, on_bad, on-wide, left_one, left_two, wide-within}
use Rattle.detection_terms.proofs.two_terms.Goals as goal
use Rattle.detection_terms.proofs.two_terms.Goals.{After-is_plain, Else-not-wide_at, Else-x-eq32}

pub loop-i-init : goal.loop-i-init
loop-i-init c = (omega arith, omega arith, sym (two_terms_lem c.args.wide c.args.s.now))

-- the byte that is read, and whether it is a plain one
module _ (asked : After-is_plain) where
  abbrev s : List ℕ
  s = asked.args.s.now

pub loop-i-preserved-then-is_plain : goal.loop-i-preserved-then-is_plain
loop-i-preserved-then-is_plain c = let e = on-plain c.args.wide (s (goal.at.loop-i-preserved-then-is_plain c).After-is_plain) c.loop-i.start c.loop-i.i c.loop-i-test.true c.loop-i.invariant.0 (sym c.is_plain.ensures ∙ c.if-is_plain.true) in
    (omega (arith, c.loop-i.invariant.0), omega (arith, c.loop-i-test.true), sym e ∙ c.loop-i.invariant.2)

-- at a space
pub returns-then-start-ne0 : goal.returns-then-start-ne0
returns-then-start-ne0 c = sym (on_again c.args.wide (s (goal.at.returns-then-start-ne0 c).After-is_plain) c.loop-i.start c.loop-i.i c.loop-i-test.true c.loop-i.invariant.0 c.if-x-eq32.true c.if-start-ne0.true) ∙ c.loop-i.invariant.2

pub returns-then-i-eq1 : goal.returns-then-i-eq1
returns-then-i-eq1 c = let k : c.loop-i.i ≡ 0 = omega (arith, c.if-i-eq1.true) in
    sym (on-early c.args.wide (s (goal.at.returns-then-i-eq1 c).After-is_plain) c.loop-i.start c.loop-i.i c.loop-i-test.true c.loop-i.invariant.0 c.if-x-eq32.true c.if-start-ne0.false k) ∙ c.loop-i.invariant.2

pub loop-i-preserved-then-x-eq32 : goal.loop-i-preserved-then-x-eq32
loop-i-preserved-then-x-eq32 c = let k : c.loop-i.i ≡ 0 → ⊥ = λ z. c.if-i-eq1.false (omega arith) in
    let e = on-space c.args.wide (s (goal.at.loop-i-preserved-then-x-eq32 c).After-is_plain) c.loop-i.start c.loop-i.i c.loop-i-test.true c.loop-i.invariant.0 c.if-x-eq32.true c.if-start-ne0.false k in
    (omega arith, omega (arith, c.loop-i-test.true), sym e ∙ c.loop-i.invariant.2)

-- at any other
module _ (p : Else-x-eq32) where
  abbrev is_plain_of_p : After-is_plain
  is_plain_of_p = (goal.at.Else-x-eq32 p).After-is_plain

  no_plain : plain_term (get_or (s is_plain_of_p) p.loop-i.i 0) ≡ false
  no_plain = sym p.is_plain.ensures ∙ p.if-is_plain.false

pub returns-then-not-wide : goal.returns-then-not-wide
returns-then-not-wide c = let e = on-ascii c.args.wide (s (goal.at.returns-then-not-wide c).After-is_plain) c.loop-i.start c.loop-i.i c.loop-i-test.true c.loop-i.invariant.0 c.if-x-eq32.false (no_plain (goal.at.returns-then-not-wide c).Else-x-eq32) (not-true _ (ap not c.if-not-wide.true)) in
    sym e ∙ c.loop-i.invariant.2

pub returns-then-not-wide_at : goal.returns-then-not-wide_at
returns-then-not-wide_at c = let e =
    on_bad c.args.wide (s (goal.at.returns-then-not-wide_at c).After-is_plain) c.loop-i.start c.loop-i.i c.loop-i-test.true c.loop-i.invariant.0 c.if-x-eq32.false (no_plain (goal.at.returns-then-not-wide_at c).Else-x-eq32) (not-false _ (ap not c.if-not-wide.false))
    (sym c.wide_at.ensures ∙ not-true _ (ap not c.if-not-wide_at.true)) in
    sym e ∙ c.loop-i.invariant.2

-- a letter of two bytes
module _ (g : Else-not-wide_at) where
  abbrev is_plain_of_g : After-is_plain
  is_plain_of_g = (goal.at.Else-not-wide_at g).After-is_plain

  abbrev i : ℕ
  i = g.loop-i.i

  two : wide_term (get_or (s is_plain_of_g) i 0) (drop (i + 1) (s is_plain_of_g)) ≡ true
  two = sym g.wide_at.ensures ∙ not-false _ (ap not g.if-not-wide_at.false)

  within : i + 1 < length (s is_plain_of_g)
  within = wide-within (get_or (s is_plain_of_g) i 0) (s is_plain_of_g) (i + 1) two

pub overflow_add-i-in-loop-i : goal.overflow_add-i-in-loop-i
overflow_add-i-in-loop-i c = omega (arith, within (goal.at.overflow_add-i-in-loop-i c).Else-not-wide_at)

pub loop-i-smaller : goal.loop-i-smaller
loop-i-smaller c = omega (arith, within (goal.at.loop-i-smaller c).Else-not-wide_at)

pub loop-i-preserved : goal.loop-i-preserved
loop-i-preserved c = let else_not_wide_at = (goal.at.loop-i-preserved c).Else-not-wide_at in
    let e =
    on-wide c.args.wide (s (goal.at.loop-i-preserved c).After-is_plain) c.loop-i.start c.loop-i.i c.loop-i-test.true c.loop-i.invariant.0 c.if-x-eq32.false (no_plain (goal.at.loop-i-preserved c).Else-x-eq32) (not-false _ (ap not c.if-not-wide.false)) (two else_not_wide_at) in
    (omega (arith, c.loop-i.invariant.0), omega (arith, within else_not_wide_at), sym e ∙ c.loop-i.invariant.2)

-- at the end
pub returns-then-start-gt0 : goal.returns-then-start-gt0
returns-then-start-gt0 c = let n : c.loop-i.start ≡ 0 → ⊥ = λ z. omega (arith, c.if-start-gt0.true) in
    sym (left_two c.args.wide c.args.s.now c.loop-i.start c.loop-i.i c.loop-i-test.false c.loop-i.invariant.1 n) ∙ c.loop-i.invariant.2

pub returns-else-start-gt0 : goal.returns-else-start-gt0
returns-else-start-gt0 c = let k = c.loop-i.start in
    le-ltb 0 k (omega (arith, c.if-start-gt0.false)) ∙
    sym (left_one c.args.wide c.args.s.now k c.loop-i.i c.loop-i-test.false (omega (arith, c.if-start-gt0.false))) ∙ c.loop-i.invariant.2
