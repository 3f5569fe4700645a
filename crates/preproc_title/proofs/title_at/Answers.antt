-- `title_at`: the word, and then its rest.
-- Assumes nothing.
use mathlib.Core.Path.{◌≡◌, sym, ◌∙◌}
use mathlib.Core.Bool.{true, false}
use native.Mathlib.Omega.{arith}
use lib.Dec.{lit<}
use lib.ListN.{drop}
use lib.Seq.{drop-drop}
use Rattle.rules.specs.Bytes.{text, starts}
use Rattle.preproc_title.specs.Matches.{title_here}
use Rattle.slices.proofs.LeafLaws.{word-within}
use Rattle.preproc_title.proofs.title_at.Goals as goal

pub overflow_add-at : goal.overflow_add-at
unfolding text
overflow_add-at c = let o = c.args in
    omega (arith, word-within (text "license") o.s.now o.at (sym c.starts_with.ensures ∙ c.if-starts_with.true) (lit< tt))

pub returns-then-starts_with : goal.returns-then-starts_with
unfolding text title_here
returns-then-starts_with c = let o = c.args in
    let e : starts (text "license") (drop o.at o.s.now) ≡ true = sym c.starts_with.ensures ∙ c.if-starts_with.true in
    rw (e, drop-drop 7 o.at o.s.now) c.title_rest.ensures

pub returns-else-starts_with : goal.returns-else-starts_with
unfolding text title_here
returns-else-starts_with c =
    let no : false ≡ title_here (drop c.args.at c.args.s.now) = rw (sym c.starts_with.ensures ∙ c.if-starts_with.false) in
    c.if-starts_with.false ∙ no
