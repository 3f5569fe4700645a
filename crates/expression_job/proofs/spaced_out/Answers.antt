-- `spaced_out`: each byte with the next.
-- Assumes nothing.
use Rattle.std.proofs.Common.{List, ℕ, sym, ◌∙◌, rules, tests}
use Rattle.std.proofs.lemmas.Iterator.{YieldsList-from_slice, YieldsList-from_zip}
use Rattle.std.proofs.lemmas.Iterator.Adapters.{YieldsList-from_skip}
use Rattle.std.proofs.lemmas.Iterator.Search.{all_from_yields_List}
use Rattle.expression_job.proofs.SpacedLaws.{pair_apart, spaced_pairs}
use Rattle.expression_job.proofs.spaced_out.Goals as goal

pub returns : goal.returns
returns c =
    let s : List ℕ = c.args.text.now in
    all_from_yields_List pair_apart c.all.new.self _ _ c.all.ensures.ran (YieldsList-from_zip (YieldsList-from_slice s (cc)) (YieldsList-from_skip 1 (YieldsList-from_slice s (cc)) (cc))) (λ x b q k. search (rules, tests))
    ∙ sym (spaced_pairs s)
