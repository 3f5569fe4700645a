use mathlib.Core.Path.{◌≡◌, refl, sym, ap, ◌∙◌}
use mathlib.Core.List.{List, [], ◌∷◌}
use Prim.Native.Nat.{ℕ, ◌+◌}
use native.Mathlib.Omega.{arith}
use lib.ListN.{drop, get_or, drop_of_length-le}
use Rattle.std.proofs.lemmas.List.{nil_from_length}
use Rattle.lists.proofs.SliceLaws.{drop-next}
use Rattle.rules.specs.Bytes.{order}
use Rattle.sort_spread.specs.Sort.{part_of}
use Rattle.ngram_order.specs.Sides.{side_of}
use Rattle.ngram_order.proofs.CompareLaws.{cmp_unlike, none_less, none_same, ended_less, ended_same, longer, unlike, alike}
use Rattle.ngram_order.proofs.compare_first.Goals as goal
use Rattle.ngram_order.proofs.compare_first.Goals.{After-next, After-next-2}

-- what is left of the two, the bytes not out
module _ (q : After-next) where
  abbrev y : ℕ
  y = get_or q.args.bytes.now q.loop-y.y-index 0

  abbrev more : List ℕ
  more = drop (q.loop-y.y-index + 1) q.args.bytes.now

  left : order (part_of 32 q.loop-y.cut.times q.loop-y.rest.rest.now) (y ∷ more) ≡ order (part_of 32 2 q.args.text.now) q.args.bytes.now
  left = rw (drop-next q.args.bytes.now q.loop-y.y-index (omega arith)) at q.loop-y.invariant.1

-- the bytes out
module _ (q : After-next-2) where
  over : order (part_of 32 q.loop-y.cut.times q.loop-y.rest.rest.now) [] ≡ order (part_of 32 2 q.args.text.now) q.args.bytes.now
  over = rw (drop_of_length-le q.args.bytes.now {i = q.loop-y.y-index} q.loop-y-test.false) at q.loop-y.invariant.1

pub returns-in_default : goal.returns-in_default
returns-in_default c = let q = (goal.at.returns-in_default c).After-next in
    let s = nil_from_length _ c.in_default.ensures.steps.0 in
    ap side_of (sym (none_less c.loop-y.cut.times (y q) (more q)) ∙ rw s at (left q))

pub returns-then-ends_at : goal.returns-then-ends_at
returns-then-ends_at c = let q = (goal.at.returns-then-ends_at c).After-next in
    let e = rw c.loop-y.invariant.0 at (sym c.ends_at.ensures ∙ c.if-ends_at.true) in
    ap side_of (sym (ended_less c.loop-y.cut.times c.in-Some.x.now _ e (y q) (more q)) ∙ rw c.in-Some.ensures.steps at (left q))

pub returns-then-x-y : goal.returns-then-x-y
returns-then-x-y c = let q = (goal.at.returns-then-x-y c).After-next in
    let e = rw c.loop-y.invariant.0 at (sym c.ends_at.ensures ∙ c.if-ends_at.false) in
    c.cmp.ensures ∙ cmp_unlike c.in-Some.x.now (y q) c.if-x-y.true
    ∙ ap side_of (sym (unlike c.loop-y.cut.times c.in-Some.x.now _ e (y q) (more q) c.if-x-y.true) ∙ rw c.in-Some.ensures.steps at (left q))

pub loop-y-preserved : goal.loop-y-preserved
loop-y-preserved c = let q = (goal.at.loop-y-preserved c).After-next in
    let e = rw c.loop-y.invariant.0 at (sym c.ends_at.ensures ∙ c.if-ends_at.false) in
    rw (c.past-cut.ensures, c.loop-y.invariant.0)
    (refl, sym (alike c.loop-y.cut.times c.in-Some.x.now _ e (y q) (more q) c.if-x-y.false) ∙ rw c.in-Some.ensures.steps at (left q))

pub returns-in-Some-next : goal.returns-in-Some-next
returns-in-Some-next c = let q = (goal.at.returns-in-Some-next c).After-next-2 in
    let e = rw c.loop-y.invariant.0 at (sym c.if-not-ends_at.ensures) in
    ap side_of (sym (longer c.loop-y.cut.times c.in-Some-next.x.now _ e) ∙ rw c.in-Some-next.ensures.steps at (over q))

pub returns-in_default-next : goal.returns-in_default-next
returns-in_default-next c = let q = (goal.at.returns-in_default-next c).After-next-2 in
    let e = rw c.loop-y.invariant.0 at (sym c.if-not-ends_at.ensures) in
    ap side_of (sym (ended_same c.loop-y.cut.times c.in-Some-next.x.now _ e) ∙ rw c.in-Some-next.ensures.steps at (over q))

pub returns-in_default-next-2 : goal.returns-in_default-next-2
returns-in_default-next-2 c = let q = (goal.at.returns-in_default-next-2 c).After-next-2 in
    let n = rw c.in_default-next.is at c.next-2.ensures.steps in
    let s = nil_from_length _ n.0 in
    ap side_of (sym (none_same c.loop-y.cut.times) ∙ rw s at (over q))
