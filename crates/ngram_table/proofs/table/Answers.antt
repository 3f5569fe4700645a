-- `ngram_table::table` meets its contract: the parts that start where `bigrams` says are the bigrams, and `tally_parts` counts them.
-- Assumes nothing.
use mathlib.Core.Path.{◌∙◌}
use Prim.Native.Nat.{◌+◌}
use native.Mathlib.Omega.{arith}
use lib.ListN.{take}
use Rattle.lists.proofs.SliceLaws.{drop_back}
use Rattle.rules.proofs.GrowthLaws.{bigrams-length}
use Rattle.ngram_table.proofs.BigramLaws.{table_is}
use Rattle.ngram_table.proofs.table.Goals as goal

pub tally_parts-distinct-requires : goal.tally_parts-distinct-requires
tally_parts-distinct-requires c = let a = c.args in
    let n = c.bigrams-total.ensures.many in
    let l = c.bigrams-total.auto.p in
    let few = bigrams-length a.text.now in
    (omega arith, omega arith)

pub returns : goal.returns
returns c = let a = c.args in
    let k = c.bigrams-total.result in record { table = table_is a.text.now c.tally_parts-distinct.new.p k c.tally_parts-distinct.result (take k c.bigrams-total.new.p) c.bigrams-total.ensures.many c.tally_parts-distinct.ensures.table c.bigrams-total.ensures.parts; few = c.tally_parts-distinct.ensures.few; rest = c.tally_parts-distinct.ensures.rest ∙ drop_back k c.bigrams-total.new.p a.p.now c.bigrams-total.ensures.rest (k + k) (omega arith) }
