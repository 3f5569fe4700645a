-- `title_len`: case by case.
-- Assumes nothing.
use mathlib.Core.Path.{◌≡◌, sym, ◌∙◌}
use mathlib.Core.Bool.{true}
use mathlib.Core.List.{List}
use Prim.Native.Nat.{ℕ, ◌+◌, ◌≤◌, zero-le}
use native.Mathlib.Omega.{arith}
use lib.Dec.{lit<}
use lib.ListN.{length, drop}
use lib.Seq.{length-take-le}
use Rattle.rules.specs.Bytes.{text, starts}
use Rattle.slices.proofs.LeafLaws.{word-within}
use Rattle.preproc_title.proofs.TitleLaws.{title_there, title_other, title_apart}
use Rattle.preproc_title.proofs.title_len.Goals as goal
use Rattle.preproc_title.proofs.title_len.Goals.{Then-starts_with}

-- two newlines follow the first line
module _ (c : Then-starts_with) where
  abbrev S : List ℕ
  S = c.args.s.now

  two : starts (text "\n\n") (drop c.line_len-n.result S) ≡ true
  unfolding text
  two = sym c.starts_with.ensures ∙ c.if-starts_with.true

  room : c.line_len-n.result + 2 ≤ length S
  unfolding text
  room = word-within (text "\n\n") S c.line_len-n.result two (lit< tt)

pub slice_bounds-title_line-end : goal.slice_bounds-title_line-end
slice_bounds-title_line-end c = sym (length-take-le _ _ (omega (arith, room (goal.at.slice_bounds-title_line-end c).Then-starts_with)))

pub overflow_add-result : goal.overflow_add-result
overflow_add-result c = omega (arith, room (goal.at.overflow_add-result c).Then-starts_with)

pub returns-then-title_line : goal.returns-then-title_line
returns-then-title_line c = let then_starts_with = (goal.at.returns-then-title_line c).Then-starts_with in
    (room then_starts_with, title_there (S then_starts_with) _ c.line_len-n.ensures (sym c.title_line.ensures ∙ c.if-title_line.true) (two then_starts_with))

pub returns-else-title_line : goal.returns-else-title_line
returns-else-title_line c = (zero-le, title_other (S (goal.at.returns-else-title_line c).Then-starts_with) _ c.line_len-n.ensures (sym c.title_line.ensures ∙ c.if-title_line.false))

pub returns-else-starts_with : goal.returns-else-starts_with
unfolding text
returns-else-starts_with c = (zero-le, title_apart _ _ c.line_len-n.ensures (sym c.starts_with.ensures ∙ c.if-starts_with.false))
