-- `sign_meets`: both have their + or neither has.
-- Assumes nothing.
use mathlib.Core.Path.{◌≡◌, ◌∙◌, ap}
use Prim.Native.Nat.{ℕ, ◌+◌, ◌≤◌}
use native.Mathlib.Omega.{arith}
use lib.ListN.{length}
use borrow.Author.Rules.{rules}
use Rattle.expression_list.specs.Rest.{behind}
use Rattle.expression_list.proofs.SimpleLaws.{behind_byte, agree_beq}
use Rattle.expression_list.proofs.sign_meets.Goals as goal
use Rattle.expression_list.proofs.sign_meets.Goals.{After-from}

module _ (f : After-from) where
  place : f.args.at + f.from.result ≡ behind f.args.at f.args.more
  place = ap (λ (n : ℕ). f.args.at + n) f.from.ensures ∙ behind_byte f.args.at f.args.more

  inside : f.args.at + f.from.result ≤ length f.args.list.now
  inside = omega (arith, place, f.requires)

pub overflow_add-at : goal.overflow_add-at
overflow_add-at c = let h = inside (goal.at.overflow_add-at c).After-from in search rules

pub rest_meets-requires : goal.rest_meets-requires
rest_meets-requires c = inside (goal.at.rest_meets-requires c).After-from

pub returns-then-plus-more : goal.returns-then-plus-more
returns-then-plus-more c = c.rest_meets.ensures ∙ rw (place (goal.at.returns-then-plus-more c).After-from, agree_beq c.args.plus c.args.more, c.if-plus-more.true)

pub returns-else-plus-more : goal.returns-else-plus-more
returns-else-plus-more c = rw (agree_beq c.args.plus c.args.more, c.if-plus-more.false)
