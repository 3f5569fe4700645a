-- `sort_merge::takes_right` meets its contract: which run is next, by what is left of both.
-- Assumes nothing.
use mathlib.Core.Path.{sym, ◌∙◌}
use native.Mathlib.Omega.{arith}
use borrow.Author.Tests.{le-leb, le-ltb}
use Rattle.sort_spread.proofs.MergeLaws.{from-both, from-left, from-right}
use Rattle.sort_merge.proofs.takes_right.Goals as goal

pub returns-then-m-i-clause-next : goal.returns-then-m-i-clause-next
returns-then-m-i-clause-next c = let a = c.args in
    le-leb a.m a.i c.if-m-i.true ∙ sym (from-right _ a.p.now a.i a.m a.j a.n (omega arith) (omega arith) (omega arith))

pub returns-then-j-n-clause-next : goal.returns-then-j-n-clause-next
returns-then-j-n-clause-next c = let a = c.args in
    c.part_after.ensures ∙ rw (c.wide.ensures, c.wide-then-j-n.ensures) (sym (from-both _ a.p.now a.i a.m a.j a.n (omega arith) (omega arith) (omega arith) (omega arith)))

pub returns-else-j-n-clause-next : goal.returns-else-j-n-clause-next
returns-else-j-n-clause-next c = let a = c.args in
    le-ltb a.j a.n c.if-j-n.false ∙ sym (from-left _ a.p.now a.i a.m a.j a.n (omega arith) (omega arith) (omega arith) (omega arith))
