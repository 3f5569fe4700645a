use mathlib.Core.Path.{◌≡◌, refl, sym, ◌∙◌}
use mathlib.Core.List.{List}
use Prim.Native.Nat.{ℕ, ◌+◌, ◌-◌, ◌≤◌, ◌<◌}
use native.Mathlib.Omega.{arith}
use lib.ListN.{length, take, drop}
use lib.Seq.{slice}
use Rattle.lists.proofs.SliceLaws.{part_slice}
use Rattle.rules.proofs.PrefixLaws.{same_true}
use Rattle.slices.specs.declared.ends.ByteSpan.{ByteSpan}
use Rattle.prefix_list.specs.Listing.{Home}
use Rattle.prefix_list.proofs.ShareLaws.{lies-of, home_there, home_next, home_none}
use Rattle.prefix_list.proofs.home.Goals as goal
use Rattle.prefix_list.proofs.home.Goals.{After-shared-s}

-- what is known once lines i and i + 1 are compared
module _ (s : After-shared-s) where
  abbrev area : List ℕ
  area = s.args.area.now

  abbrev span : ByteSpan
  span = s.shared-s.result

  next : s.loop-i.i + 1 < s.args.count
  next = omega (arith, s.loop-i-test.true, s.saturating_sub-last.ensures, s.requires.classes.3)

  home : (w : List ℕ) → slice span.start span.end area ≡ w → Home s.args.n area w span
  home w = home_there s.loop-i.i w span s.requires.classes.1 next s.shared-s.ensures

  ends : (span.start ≤ span.end) × (span.end ≤ length area)
  ends = omega (arith, s.shared-s.ensures.order, (home (slice span.start span.end area) refl).high, s.requires.classes.5)

pub loop-i-init : goal.loop-i-init
loop-i-init c = let a = c.args in
    rw (part_slice a.a a.b a.area.now) c.requires.a_le_b.2

pub shared-s-requires : goal.shared-s-requires
shared-s-requires c = let h : c.loop-i.i + 1 < c.args.v.end = omega (arith, c.saturating_sub-last.ensures) in
    (c.requires.classes.0, omega (arith, h, c.requires.classes.3, c.requires.classes.4), lies-of c.args.area.now c.loop-i.i c.requires.classes.1 (omega (arith, h, c.requires.classes.3)) c.requires.classes.5)

pub slice_bounds-equal-count : goal.slice_bounds-equal-count
slice_bounds-equal-count c = omega (arith, ends (goal.at.slice_bounds-equal-count c).After-shared-s)

pub slice_bounds-equal-start : goal.slice_bounds-equal-start
slice_bounds-equal-start c = omega (arith, ends (goal.at.slice_bounds-equal-start c).After-shared-s)

pub slice_bounds-equal-end : goal.slice_bounds-equal-end
slice_bounds-equal-end c = omega (arith, ends (goal.at.slice_bounds-equal-end c).After-shared-s)

pub returns-then-equal : goal.returns-then-equal
returns-then-equal c = let shared = (goal.at.returns-then-equal c).After-shared-s in
    let a = c.args in
    let e = same_true (take ((span shared).end - (span shared).start) (drop (span shared).start (area shared))) (take (a.b - a.a) (drop a.a (area shared))) (sym c.equal.ensures ∙ c.if-equal.true) in
    home shared (slice a.a a.b (area shared)) (sym (part_slice (span shared).start (span shared).end (area shared)) ∙ e ∙ part_slice a.a a.b (area shared))

pub loop-i-preserved : goal.loop-i-preserved
loop-i-preserved c = let shared = (goal.at.loop-i-preserved c).After-shared-s in
    home_next (area shared) c.args.table.now c.loop-i.i c.args.v.end _ (span shared) (omega (arith, c.saturating_sub-last.ensures)) c.shared-s.ensures
    (sym c.equal.ensures ∙ c.if-equal.false) c.loop-i.invariant

pub returns : goal.returns
returns c = absurd (home_none c.args.area.now c.args.table.now c.loop-i.i c.args.v.end _ (omega (arith, c.saturating_sub-last.ensures)) c.loop-i.invariant)
