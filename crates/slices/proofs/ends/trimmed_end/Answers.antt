-- `trimmed_end`: one more than the place of the last byte of another kind.
-- Assumes nothing.
use mathlib.Core.Path.{ap, ◌∙◌}
use Rattle.std.proofs.Common.{rules}
use borrow.Author.Tests.{tests}
use Rattle.slices.specs.Classes.{in_class}
use Rattle.slices.specs.Ends.{kept_len}
use Rattle.slices.proofs.EndLaws.{kept_back, one_more}
use Rattle.slices.proofs.ends.trimmed_end.Goals as goal

pub returns : goal.returns
returns c = let a = c.args in
    let r = c.rposition-last.ensures.ran in
    one_more c.rposition-last.result _ _ c.map_or.ensures (λ i q. search rules) (kept_back _ (in_class a.class.now a.lo a.hi) _ (λ x b q k. search (rules, tests)) r.0 r.1 r.2 _ _ _ _ r.3.1 r.3.2 r.4 r.5) ∙
    ap (kept_len (in_class a.class.now a.lo a.hi)) c.iter.ensures.rest
