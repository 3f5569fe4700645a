-- `prefix_list::home` meets its contract: what is looked for is among the prefixes of the lines that are left.
-- Assumes nothing.
use Prim.Native.Nat.{◌<◌}
use Rattle.rules.specs.Table.{occurs}
use Rattle.prefix_list.proofs.ShareLaws.{rest}
use Rattle.prefix_list.proofs.home.Given as goal

abbrev pub invariant-loop-i : goal.invariant-loop-i
invariant-loop-i l = 0 < occurs l.prefix (rest l.area l.table l.fn.v.end l.i)
