use mathlib.Core.Path.{◌≡◌, sym, ap, ap₂, ◌∙◌}
use mathlib.Core.Bool.{Bool, true, false, not, ◌||◌}
use mathlib.Core.List.{List}
use Prim.Native.Nat.{ℕ, ◌+◌, ◌≤◌}
use native.Mathlib.Omega.{arith}
use lib.ListN.{length, drop, length-drop}
use Rattle.rules.specs.Bytes.{newline, line_len, split}
use Rattle.rules.proofs.PlaceLaws.{lead-most}
use Rattle.expression.specs.Reading.{Part, part}
use Rattle.expression.specs.Writing.{met_in}
use Rattle.expression_parts.specs.Parts.{part_of}
use Rattle.expression_place.specs.Line.{line_at, met_by}
use Rattle.expression_list.proofs.MeetLaws.{met_from, from_start, from-line, from_end}
use Rattle.expression_list.proofs.part_in.Goals as goal
use Rattle.expression_list.proofs.part_in.Goals.{After-line_meets}

pub loop-i-init : goal.loop-i-init
loop-i-init c = from_start (part_of c.args.text.now c.args.part) c.args.list.now

-- a line is read
module _ (d : After-line_meets) where
  abbrev list : List ℕ
  list = d.args.list.now

  abbrev i : ℕ
  i = d.loop-i.i

  abbrev it : Part
  it = part_of d.args.text.now d.args.part

  same : met_by (part d.of-name.result.now d.args.part.plus d.of-exception.result.now) (line_at (drop i list)) ≡ met_by it (line_at (drop i list))
  unfolding part_of
  same = ap₂ (λ v x. met_by (part v d.args.part.plus x) (line_at (drop i list))) d.of-name.ensures d.of-exception.ensures

  step : (t : Bool) → d.line_meets.result ≡ t → met_in it (split 10 list) ≡ (t || met_from it list (i + (line_len (drop i list) + 1)))
  unfolding part_of
  step t e =
      d.loop-i.invariant ∙ from-line it list i d.loop-i-test.true
      ∙ ap (λ (u : Bool). u || met_from it list (i + (line_len (drop i list) + 1))) (sym (d.line_meets.ensures ∙ same) ∙ e)

  short : i + line_len (drop i list) ≤ length list
  unfolding line_len
  short = omega (arith, lead-most (λ x. not (newline x)) (drop i list), length-drop i list, d.loop-i-test.true)

pub returns-then-line_meets : goal.returns-then-line_meets
returns-then-line_meets c = sym (step (goal.at.returns-then-line_meets c).After-line_meets true c.if-line_meets.true)

pub overflow_add-i : goal.overflow_add-i
overflow_add-i c = record { fits = omega (arith, short (goal.at.overflow_add-i c).After-line_meets, c.line_len.ensures, c.well_formed.0.1) }

pub overflow_add-i-in-loop-i : goal.overflow_add-i-in-loop-i
overflow_add-i-in-loop-i c = record { fits = omega (arith, short (goal.at.overflow_add-i-in-loop-i c).After-line_meets, c.line_len.ensures, c.well_formed.0.1) }

pub loop-i-smaller : goal.loop-i-smaller
loop-i-smaller c = omega (arith, c.loop-i-test.true)

pub loop-i-preserved : goal.loop-i-preserved
loop-i-preserved c = let line_meets = (goal.at.loop-i-preserved c).After-line_meets in
    step line_meets false c.if-line_meets.false ∙ ap (λ (m : ℕ). met_from (it line_meets) (list line_meets) (i line_meets + (m + 1))) (sym c.line_len.ensures)

pub returns : goal.returns
returns c = sym (c.loop-i.invariant ∙ from_end (part_of c.args.text.now c.args.part) c.args.list.now c.loop-i.i c.loop-i-test.false)
