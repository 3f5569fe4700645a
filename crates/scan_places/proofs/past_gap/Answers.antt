-- `scan_places::past_gap` meets its contract: one newline behind an empty range, two behind the end of any other.
-- Assumes nothing.
use mathlib.Core.Path.{sym, subst}
use Prim.Native.Nat.{ℕ, ◌≤◌}
use lib.ListN.{length}
use Rattle.rules.proofs.PlaceLaws.{range-most}
use Rattle.scan_places.proofs.WalkLaws.{gap_empty, gap-behind}
use Rattle.scan_places.proofs.past_gap.Goals as goal
use Rattle.scan_places.proofs.past_gap.Goals.{Start}

-- the range ends in the text
module _ (x : Start) where
  within : x.args.end ≤ length x.args.text.now
  within = subst (λ (n : ℕ). n ≤ length x.args.text.now) (sym x.requires.end_value) (range-most _ _ _ x.requires.first_le_after)

pub line_on-requires : goal.line_on-requires
line_on-requires c = within (goal.at.line_on-requires c).Start

pub returns-then-range : goal.returns-then-range
returns-then-range c = gap_empty _ _ _ c.requires.end_value c.if-range.true c.line_on.ensures

pub line_on-requires-2 : goal.line_on-requires-2
line_on-requires-2 c = within (goal.at.line_on-requires-2 c).Start

pub returns : goal.returns
returns c = gap-behind _ _ _ c.requires.end_value c.if-range.false c.requires.first_le_after c.line_on-2.ensures
