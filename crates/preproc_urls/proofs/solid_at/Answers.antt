-- `solid_at` meets its contract.
-- Assumes nothing.
use mathlib.Core.Path.{◌≡◌, ap, ◌∙◌}
use mathlib.Core.Bool.{Bool, false}
use Prim.Native.Nat.{ℕ}
use lib.ListN.{get_or, drop}
use borrow.Author.Tests.{le-ltb}
use Rattle.lists.proofs.SliceLaws.{drop-next, drop-done}
use Rattle.rules.specs.Bytes.{solid, space}
use Rattle.preproc_urls.proofs.solid_at.Goals as goal

pub returns-then-at-s : goal.returns-then-at-s
unfolding solid
returns-then-at-s c = let s = c.args.s.now in
    let i = c.args.at in
    let e : c.in_class.result ≡ space (get_or s i 0) = c.in_class.ensures ∙ ap (λ (p : ℕ → Bool). p (get_or s i 0)) c.requires in
    rw (e, drop-next s i c.if-at-s.true)

pub returns-else-at-s : goal.returns-else-at-s
unfolding solid
returns-else-at-s c =
    let none : false ≡ solid (drop c.args.at c.args.s.now) = rw (drop-done _ _ c.if-at-s.false) in
    le-ltb _ _ c.if-at-s.false ∙ none
