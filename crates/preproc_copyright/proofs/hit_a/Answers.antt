-- `hit_a`: after the newlines that are asked for.
-- Assumes nothing.
use mathlib.Core.Path.{sym, ap, ◌∙◌}
use mathlib.Core.Bool.{Bool}
use Prim.Native.Nat.{ℕ}
use native.Mathlib.Omega.{arith}
use lib.Dec.{lit<, eqb}
use lib.ListN.{drop}
use Rattle.rules.specs.Bytes.{text}
use Rattle.rules.specs.Passes.{paragraph, hit_a}
use Rattle.slices.proofs.LeafLaws.{word-within, run-within}
use Rattle.preproc_copyright.proofs.HitCaseLaws.{takes_as, newlines_of, A-start, A-two, A-none}
use Rattle.preproc_copyright.proofs.hit_a.Goals as goal

pub paragraph_len-requires : goal.paragraph_len-requires
paragraph_len-requires c = omega (arith, c.byte_run-k.ensures, run-within (eqb 10) c.args.s.now c.args.at c.requires)

pub returns-then-start : goal.returns-then-start
returns-then-start c = let l = drop c.args.at c.args.s.now in
    let k = c.byte_run-k.ensures ∙ newlines_of l in
    takes_as _ (ap (λ (n : ℕ). paragraph n l) k ∙ sym (A-start l) ∙ ap (λ (b : Bool). hit_a b l) (sym c.if-start.true)) c.paragraph_len.ensures

pub paragraph_len-requires-then-starts_with : goal.paragraph_len-requires-then-starts_with
unfolding text
paragraph_len-requires-then-starts_with c = word-within (text "\n\n") c.args.s.now c.args.at (sym c.starts_with.ensures ∙ c.if-starts_with.true) (lit< tt)

pub returns-then-starts_with : goal.returns-then-starts_with
unfolding text
returns-then-starts_with c = let l = drop c.args.at c.args.s.now in
    takes_as _ (sym (A-two l (sym c.starts_with.ensures ∙ c.if-starts_with.true)) ∙ ap (λ (b : Bool). hit_a b l) (sym c.if-start.false)) c.paragraph_len-then-starts_with.ensures

pub returns : goal.returns
unfolding text
returns c = let l = drop c.args.at c.args.s.now in
    ap (λ (b : Bool). hit_a b l) c.if-start.false ∙ A-none l (sym c.starts_with.ensures ∙ c.if-starts_with.false)
