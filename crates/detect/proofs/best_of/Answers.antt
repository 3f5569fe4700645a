use mathlib.Core.Path.{ap, subst, ◌∙◌}
use mathlib.Core.List.{List}
use Prim.Native.Nat.{ℕ, ◌-◌, ◌<◌}
use native.Mathlib.Omega.{arith}
use Rattle.detection_shelf.specs.declared.Spot.{Spot}
use Rattle.detection_shelf.specs.Shelves.{Shelf, shelf}
use Rattle.detection_shelf.proofs.ShelfLaws.{stands-inside, counted-most}
use Rattle.rules.specs.Table.{Table, value_of}
use Rattle.floors.specs.Floors.{Judged}
use Rattle.detection_shelf.specs.Bodies.{table_of_body}
use Rattle.license_views.specs.Tabled.{table_over}
use Rattle.std.specs.Prelude.{Option}
use Rattle.detect_best.specs.declared.Best.{Best}
use Rattle.detect_best.specs.Beats.{Betters, kind_of, score_of, to_beat}
use Rattle.detect.proofs.BestLaws.{Walking, walk_first, walk_step, walk-out, walk_end}
use Rattle.detect.proofs.best_of.Goals as goal
use Rattle.detect.proofs.best_of.Goals.{After-after_on-spot, After-first_spot-spot, After-next_on-text}

-- ---- the places that the answers speak of, each named from one near it
-- the start, behind the loop's head
module _ (f : After-first_spot-spot) where
  abbrev books : Shelf
  books = shelf f.args.book.now f.args.second.now

  abbrev viewed : Table
  viewed = table_over f.args.area.now f.args.t

-- one that can pay: its text is found, and then it is scored and passed
module _ (f : After-next_on-text) where
  some_left : 0 < f.loop-spot.left.count
  some_left = f.is_spent.ensures.some_left f.if-is_spent.false

module _ (p : After-after_on-spot) where
  abbrev first_spot_of_p : After-first_spot-spot
  first_spot_of_p = (goal.at.After-after_on-spot p).After-first_spot-spot

  abbrev next_on_of_p : After-next_on-text
  next_on_of_p = (goal.at.After-after_on-spot p).After-next_on-text

  less : p.args.texts.all - p.after_on-spot.result.number < p.args.texts.all - p.loop-spot.spot.number
  less = omega (arith, p.next_on-text.ensures.1, p.loop-spot-test.true, ap (λ (x : Spot). x.number) p.after_on-spot.ensures)

  step : (after : Option Best) → Betters p.loop-spot.best (record { text = p.next_on-text.result; value = p.charge-c.result.value }) after →
      Walking (books first_spot_of_p) (viewed first_spot_of_p) p.args.floor p.args.budget.count after
      p.charge-c.result.left.count p.after_on-spot.result
  step after b =
      let asked =
      p.to_beat-least.ensures ∙
      ap (to_beat p.args.floor (kind_of p.loop-spot.best) (score_of p.loop-spot.best)) p.from-kind.ensures in
      let judged =
      subst (λ (k : List ℕ). Judged p.to_beat-least.result (value_of (viewed first_spot_of_p) (table_of_body k)) p.charge-c.result.value)
      p.body_of-body.ensures p.charge-c.ensures.value in
      walk_step p.loop-spot.invariant p.args.texts.all p.requires.counts_of.all _ _ _ _ _ _ p.loop-spot-test.true
      (some_left next_on_of_p) p.next_on-text.ensures asked judged b
      p.charge-c.ensures.left p.after_on-spot.ensures

pub loop-spot-init : goal.loop-spot-init
loop-spot-init c = walk_first (books (goal.at.loop-spot-init c).After-first_spot-spot) _ _ _ _ _ c.requires.counts_of c.first_spot-spot.ensures

pub returns-then-is_spent : goal.returns-then-is_spent
returns-then-is_spent c = walk-out c.loop-spot.invariant c.args.texts.all c.requires.counts_of.all c.loop-spot-test.true (c.is_spent.ensures.none_left c.if-is_spent.true)

pub next_on-text-requires : goal.next_on-text-requires
next_on-text-requires c = record { counts_of = c.requires.counts_of; before_on = (c.loop-spot.invariant.before, c.loop-spot-test.true) }

pub body_of-body-requires : goal.body_of-body-requires
body_of-body-requires c = c.next_on-text.ensures.0

pub charge-c-requires : goal.charge-c-requires
charge-c-requires c = record { tabled = c.requires.tabled; body_value = rw c.body_of-body.ensures c.next_on-text.ensures.0.found.is.sound; count_nonzero = some_left (goal.at.charge-c-requires c).After-next_on-text }

pub after_on-spot-requires : goal.after_on-spot-requires
after_on-spot-requires c = let first_spot = (goal.at.after_on-spot-requires c).After-first_spot-spot in
    let t = c.next_on-text.ensures.0 in
    (t.found.below, omega (arith, stands-inside (books first_spot) _ t, counted-most (books first_spot) _ c.requires.counts_of))

pub loop-spot-smaller-then-wins : goal.loop-spot-smaller-then-wins
loop-spot-smaller-then-wins c = less (goal.at.loop-spot-smaller-then-wins c).After-after_on-spot

pub loop-spot-preserved-then-wins : goal.loop-spot-preserved-then-wins
loop-spot-preserved-then-wins c = step (goal.at.loop-spot-preserved-then-wins c).After-after_on-spot _ (c.wins.ensures.yes c.if-wins.true)

pub loop-spot-smaller : goal.loop-spot-smaller
loop-spot-smaller c = less (goal.at.loop-spot-smaller c).After-after_on-spot

pub loop-spot-preserved : goal.loop-spot-preserved
loop-spot-preserved c = step (goal.at.loop-spot-preserved c).After-after_on-spot _ (c.wins.ensures.no c.if-wins.false)

pub returns : goal.returns
returns c = walk_end c.loop-spot.invariant c.args.texts.all c.requires.counts_of.all c.loop-spot-test.false
