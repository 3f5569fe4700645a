-- `is_url` meets its contract.
-- Assumes nothing.
use mathlib.Core.Path.{◌≡◌, sym, ◌∙◌}
use mathlib.Core.Bool.{true}
use borrow.Author.Tests.{eqb-false}
use native.Mathlib.Omega.{arith}
use Rattle.rules.specs.Bytes.{text}
use Rattle.rules.specs.Lines.{url}
use Rattle.preproc_urls.proofs.UrlLaws.{url-none, url-first}
use Rattle.preproc_urls.proofs.is_url.Goals as goal
use Rattle.preproc_urls.proofs.is_url.Goals.{then-s-gt0, else-s-gt0}

pub returns-then-opens_with : goal.returns-then-opens_with
unfolding url text
returns-then-opens_with c =
    let yes : true ≡ url c.args.s.now = rw (sym c.opens_with.ensures ∙ c.if-opens_with.true) in
    c.if-opens_with.true ∙ yes

pub returns-else-opens_with : goal.returns-else-opens_with
unfolding url text
returns-else-opens_with c = rw (sym c.opens_with.ensures ∙ c.if-opens_with.false) c.opens_with-else-opens_with.ensures

pub returns-else-s-eq104 : goal.returns-else-s-eq104
returns-else-s-eq104 c =
    c.if-s-eq104.false ∙
    sym (elim c.if-s-gt0.branch [
      | then-s-gt0 w ↦ url-first c.args.s.now (eqb-false _ _ (sym w.value-is ∙ c.if-s-eq104.false))
      | else-s-gt0 w ↦ url-none c.args.s.now (omega (arith, w.if-s-gt0.false))
    ])
