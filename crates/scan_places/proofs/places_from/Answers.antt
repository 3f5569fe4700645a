-- `scan_places::places_from` meets its contract: on to the first line, and from there to the end of the last.
-- Assumes nothing.
use mathlib.Core.Path.{◌≡◌, sym, subst}
use Prim.Native.Nat.{ℕ, ◌+◌, ◌≤◌}
use native.Mathlib.Omega.{arith}
use lib.ListN.{length}
use Rattle.rules.specs.Lines.{line_start, range_end}
use Rattle.rules.proofs.PlaceLaws.{start-most, range-most}
use Rattle.scan_places.proofs.WalkLaws.{on-from, range_empty, range-ends}
use Rattle.scan_places.proofs.places_from.Goals as goal
use Rattle.scan_places.proofs.places_from.Goals.{After-line_len, After-line_on-start}

-- the places that the answers speak of, each found by its type: one statement more in the code moves none
module _ (x : After-line_on-start) where
  -- where the first line starts
  starts : x.line_on-start.result ≡ line_start x.args.range.first x.args.text.now
  starts = on-from _ _ _ _ _ x.requires.at_value x.requires.line_le_first.0 x.line_on-start.ensures

-- where the last line ends
module _ (x : After-line_len) where
  abbrev line_on_of_x : After-line_on-start
  line_on_of_x = (goal.at.After-line_len x).After-line_on-start

  ends : x.line_on-last.result + x.line_len.result ≡ range_end x.args.range.first x.args.range.after x.args.text.now
  ends = range-ends _ _ _ x.if-range.false x.requires.line_le_first.1 (starts line_on_of_x) x.line_on-last.ensures x.line_len.ensures

pub line_on-start-requires : goal.line_on-start-requires
line_on-start-requires c = subst (λ (n : ℕ). n ≤ length c.args.text.now) (sym c.requires.at_value) (start-most _ _)

pub returns-then-range : goal.returns-then-range
returns-then-range c = let line_on = (goal.at.returns-then-range c).After-line_on-start in
    (starts line_on, range_empty _ _ _ c.if-range.true (starts line_on))

pub line_on-last-requires : goal.line_on-last-requires
line_on-last-requires c = subst (λ (n : ℕ). n ≤ length c.args.text.now) (sym (starts (goal.at.line_on-last-requires c).After-line_on-start)) (start-most _ _)

pub overflow_add-result : goal.overflow_add-result
overflow_add-result c = record { fits = omega (arith, ends (goal.at.overflow_add-result c).After-line_len, range-most _ _ c.args.text.now c.requires.line_le_first.1, c.well_formed.0.0) }

pub returns : goal.returns
returns c = (starts (goal.at.returns c).After-line_on-start, ends (goal.at.returns c).After-line_len)
