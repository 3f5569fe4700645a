use mathlib.Core.Path.{sym, ap, ◌∙◌}
use native.Mathlib.Omega.{arith}
use lib.ListN.{length}
use Rattle.lists.proofs.SliceLaws.{drop-done}
use Rattle.rules.specs.Bytes.{starts}
use Rattle.preproc_copyright.proofs.HitCaseLaws.{holds-here, holds_later, holds-end}
use Rattle.preproc_copyright.proofs.holds_word.Goals as goal

pub returns-then-starts_with : goal.returns-then-starts_with
returns-then-starts_with c = sym (holds-here _ _ _ c.loop-i-test.true (sym c.starts_with.ensures ∙ c.if-starts_with.true)) ∙ c.loop-i.invariant

pub loop-i-preserved : goal.loop-i-preserved
loop-i-preserved c = sym (holds_later _ _ _ c.loop-i-test.true (sym c.starts_with.ensures ∙ c.if-starts_with.false)) ∙ c.loop-i.invariant

pub returns : goal.returns
returns c =
    c.starts_with-2.ensures
    ∙ ap (starts c.args.w.now) (drop-done c.args.s.now (length c.args.s.now) (omega arith) ∙ sym (drop-done _ _ c.loop-i-test.false))
    ∙ sym (holds-end _ _ _ c.loop-i-test.false) ∙ c.loop-i.invariant
