-- `hit_len`: the first that hits.
-- Assumes nothing.
use borrow.Author.Rules.{rules}
use Rattle.preproc_copyright.proofs.HitCaseLaws.{takes_as, takes-or, hit-order}
use Rattle.preproc_copyright.proofs.hit_len.Goals as goal

pub returns : goal.returns
returns c =
    takes_as _ (hit-order c.args.start c.args.fresh _)
    (takes-or c.or_else.result c.or_else-2.result _ _ (takes-or c.hit_a.result c.or_else.result _ _ c.hit_a.ensures c.or_else.ensures (λ q. search rules)) c.or_else-2.ensures (λ q. search rules))
