-- `hit_b`: the first line, where it holds the word.
-- Assumes nothing.
use mathlib.Core.Path.{◌≡◌, sym, ap, ◌∙◌}
use mathlib.Core.Bool.{Bool, true, not}
use mathlib.Core.List.{List}
use Prim.Native.Nat.{ℕ, ◌+◌, ◌≤◌}
use native.Mathlib.Omega.{arith}
use lib.ListN.{length, drop}
use lib.Seq.{length-take-le}
use Rattle.rules.specs.Bytes.{text, newline, line_len}
use Rattle.rules.specs.Passes.{hit_b}
use Rattle.slices.proofs.LeafLaws.{run-within}
use Rattle.preproc_copyright.proofs.HitCaseLaws.{takes_as, B-there, B-other, B-none}
use Rattle.preproc_copyright.proofs.hit_b.Goals as goal
use Rattle.preproc_copyright.proofs.hit_b.Goals.{After-line_len-n}

module _ (c : After-line_len-n) where
  abbrev S : List ℕ
  S = c.args.s.now

  ends : c.args.at + c.line_len-n.result ≤ length S
  unfolding line_len
  ends = omega (arith, c.line_len-n.ensures, run-within (λ x. not (newline x)) S c.args.at c.requires)

  starting : hit_b c.args.start (drop c.args.at S) ≡ hit_b true (drop c.args.at S)
  starting = ap (λ (b : Bool). hit_b b (drop c.args.at S)) c.if-start.true

pub overflow_add-e : goal.overflow_add-e
overflow_add-e c = omega (arith, ends (goal.at.overflow_add-e c).After-line_len-n)

pub slice_bounds-holds_word-end : goal.slice_bounds-holds_word-end
slice_bounds-holds_word-end c = sym (length-take-le _ _ (ends (goal.at.slice_bounds-holds_word-end c).After-line_len-n))

pub returns-then-holds_word : goal.returns-then-holds_word
unfolding text
returns-then-holds_word c = let at_line_len = (goal.at.returns-then-holds_word c).After-line_len-n in
    takes_as _ (sym (starting at_line_len ∙ B-there (S at_line_len) c.args.at _ c.line_len-n.ensures (sym c.holds_word.ensures ∙ c.if-holds_word.true))) c.some_run.ensures

pub returns-else-holds_word : goal.returns-else-holds_word
unfolding text
returns-else-holds_word c = let at_line_len = (goal.at.returns-else-holds_word c).After-line_len-n in
    starting at_line_len ∙ B-other (S at_line_len) c.args.at _ c.line_len-n.ensures (sym c.holds_word.ensures ∙ c.if-holds_word.false)

pub returns-else-start : goal.returns-else-start
returns-else-start c = let s = drop c.args.at c.args.s.now in
    ap (λ (b : Bool). hit_b b s) c.if-start.false ∙ B-none s
