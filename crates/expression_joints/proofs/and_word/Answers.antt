-- `and_word`: two letters, and what stands behind them.
-- Assumes nothing.
use mathlib.Core.Path.{◌≡◌, sym, ◌∙◌, ap}
use mathlib.Core.Bool.{true, not}
use mathlib.Core.List.{List, [], ◌∷◌}
use Prim.Native.Nat.{ℕ, ◌+◌}
use native.Mathlib.Omega.{arith}
use lib.ListN.{drop}
use borrow.Author.Tests.{not-true, not-false}
use Rattle.expression_bytes.specs.Front.{head_is}
use Rattle.expression_joints.proofs.JointLaws as laws
use Rattle.expression_joints.proofs.and_word.Goals as goal
use Rattle.expression_joints.proofs.and_word.Goals.{Else-not-stands}

pub returns-then-not-stands : goal.returns-then-not-stands
returns-then-not-stands c = laws.letter_bad c.args.text.now c.args.at 78 (68 ∷ []) (sym c.stands.ensures ∙ c.if-not-stands.true)

-- the N stands
module _ (e : Else-not-stands) where
  abbrev text : List ℕ
  text = e.args.text.now

  abbrev at : ℕ
  at = e.args.at

  n-here : head_is 78 (drop at text) ≡ true
  n-here = sym e.stands.ensures ∙ e.if-not-stands.false

pub returns-then-not-stands-2 : goal.returns-then-not-stands-2
returns-then-not-stands-2 c = let else_not_stands = (goal.at.returns-then-not-stands-2 c).Else-not-stands in
    laws.letter_on (text else_not_stands) (at else_not_stands) 78 (68 ∷ []) (n-here else_not_stands) (laws.letter_bad (text else_not_stands) (at else_not_stands + 1) 68 [] (sym c.stands-2.ensures ∙ c.if-not-stands-2.true))

pub returns : goal.returns
returns c = let else_not_stands = (goal.at.returns c).Else-not-stands in
    laws.letter_on (text else_not_stands) (at else_not_stands) 78 (68 ∷ []) (n-here else_not_stands)
    (laws.letter_on (text else_not_stands) (at else_not_stands + 1) 68 [] (sym c.stands-2.ensures ∙ c.if-not-stands-2.false) (laws.at_place [] (omega arith) c.after_word.ensures))
