use native.Mathlib.Omega.{arith}
use Rattle.lists.proofs.CopyLaws.{copying_start, copying_from, copying_room, copying_next, copying_end}
use borrow.Author.Rules.{rules}
use Rattle.slices.proofs.copy.copy_to.Goals as goal

pub loop-i-init : goal.loop-i-init
loop-i-init c = copying_start _ _ _ _ _ c.requires.k_in_bounds c.requires.k_in_bounds_2

pub overflow_add-dst : goal.overflow_add-dst
overflow_add-dst c = omega (arith, copying_from c.loop-i.invariant c.loop-i-test.true)

pub bounds-src-from : goal.bounds-src-from
bounds-src-from c = copying_from c.loop-i.invariant c.loop-i-test.true

pub bounds-dst-to : goal.bounds-dst-to
bounds-dst-to c = copying_room c.loop-i.invariant c.loop-i-test.true

pub loop-i-preserved : goal.loop-i-preserved
loop-i-preserved c = copying_next c.loop-i.invariant c.loop-i-test.true

pub returns : goal.returns
returns c = (search rules, copying_end c.loop-i.invariant c.loop-i-test.false)
