-- `rest_meets`: the line ends, or ` WITH ` and an exception follow.
-- Assumes nothing.
use mathlib.Core.Path.{◌≡◌, sym, ◌∙◌}
use mathlib.Core.Bool.{false, cond}
use mathlib.Core.List.{List}
use Prim.Native.Nat.{ℕ, ◌+◌}
use native.Mathlib.Omega.{arith}
use lib.Dec.{eqb}
use lib.ListN.{drop}
use lib.Seq.{drop-drop}
use borrow.Author.Tests.{eq-eqb, ne_eqb}
use Rattle.expression_bytes.proofs.FrontLaws.{letters_in}
use Rattle.expression_place.specs.Line.{with_text}
use Rattle.expression_list.specs.Rest.{rest_met, exc_met}
use Rattle.expression_list.proofs.MeetLaws.{rest_by}
use Rattle.expression_list.proofs.rest_meets.Goals as goal
use Rattle.expression_list.proofs.rest_meets.Goals.{After-letters}

pub returns-then-line_ends : goal.returns-then-line_ends
returns-then-line_ends c = sym (rest_by c.args.exception.now (drop c.args.at c.args.list.now) ∙ rw (sym c.line_ends.ensures ∙ c.if-line_ends.true) (sym c.is_empty.ensures))

-- the line goes on
module _ (f : After-letters) where
  abbrev list : List ℕ
  list = f.args.list.now

  abbrev at : ℕ
  at = f.args.at

  abbrev exc : List ℕ
  exc = f.args.exception.now

  by : rest_met exc (drop at list) ≡ cond (eqb f.letters.result 6) (exc_met exc (drop (at + 6) list)) false
  by =
      rest_by exc (drop at list)
      ∙ rw (sym f.line_ends.ensures ∙ f.if-line_ends.false, ← f.letters.ensures, drop-drop 6 at list)

pub exc_meets-requires : goal.exc_meets-requires
exc_meets-requires c =
    omega (arith, letters_in c.args.list.now c.args.at c.letters.result with_text c.requires c.letters.ensures, c.if-letters-eq6.true)

pub returns-then-letters-eq6 : goal.returns-then-letters-eq6
returns-then-letters-eq6 c = c.exc_meets.ensures ∙ sym (by (goal.at.returns-then-letters-eq6 c).After-letters ∙ rw (eq-eqb c.letters.result 6 c.if-letters-eq6.true))

pub returns-else-letters-eq6 : goal.returns-else-letters-eq6
returns-else-letters-eq6 c =
    let no = ne_eqb c.letters.result 6 c.if-letters-eq6.false in
    no ∙ sym (by (goal.at.returns-else-letters-eq6 c).After-letters ∙ rw no)
