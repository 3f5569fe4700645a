-- `ngram_order::compare_first` meets its contract: what is left of the two stands as the whole does.
-- Assumes nothing.
use mathlib.Core.Path.{◌≡◌}
use lib.ListN.{drop}
use Rattle.rules.specs.Bytes.{order}
use Rattle.sort_spread.specs.Sort.{part_of}
use Rattle.ngram_order.proofs.compare_first.Given as goal

abbrev pub invariant-loop-y : goal.invariant-loop-y
invariant-loop-y l = (l.cut.mark ≡ 32) × (order (part_of 32 l.cut.times l.rest.rest.now) (drop l.y-index l.bytes) ≡ order (part_of 32 2 l.text) l.bytes)
