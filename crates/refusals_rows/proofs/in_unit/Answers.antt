-- `refusals_rows::in_unit` meets its contract: a comparison that yields less or equal is the definition's `le`; the literals 0.0 and 1.0 are the definition's.
-- Assumes nothing.
use Rattle.std.proofs.Common.{◌≡◌, refl, ◌∙◌, Bool, true, false, ◌&&◌, ◌||◌, cond, None, Some, ap₂, Less, Equal, Greater}
use Rattle.std.specs.Ordering.{is_le, is_some_and, partial_le, float_partial_cmp}
use lib.Ieee.{Float, lt, le, eq, of_bits, of_fields}
use Rattle.rules.specs.Table.{nought, one}
use Rattle.rules.specs.Refusal.{unit}
use Rattle.refusals_rows.proofs.in_unit.Goals as goal

le-compared : (x y : Float) → partial_le float_partial_cmp x y ≡ le x y
unfolding le lt eq
le-compared x y = at (lt x y) (eq x y) (lt y x)
  where
    at : (a b c : Bool) → is_some_and is_le (cond a (Some Less) (cond b (Some Equal) (cond c (Some Greater) None))) ≡ a || b
    at true b c = refl
    at false true c = refl
    at false false true = refl
    at false false false = refl

pub returns : goal.returns
unfolding unit of_bits of_fields
returns c = let r = c.new.ensures in
    c.contains.ensures.value ∙ rw (r.exhausted, r.start, r.end) (ap₂ (λ (a b : Bool). a && b) (le-compared nought c.args.x) (le-compared c.args.x one))
