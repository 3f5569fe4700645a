-- `taken_lines`: by the byte that is read, and of a character of two bytes by the next.
-- Assumes nothing.
use Rattle.std.proofs.Common.{◌≡◌, sym, ◌∙◌, arith, ◌∷◌, ap}
use Rattle.rules.specs.Points.{taken}
use Rattle.std.proofs.lemmas.List.{nil_from_length}
use Rattle.rules.specs.Bytes.{split}
use Rattle.rules.specs.Lines.{line_count}
use Rattle.preproc_test.proofs.CountLaws.{lines-newline, lines_other, taken-low, taken-end, ascii_not, pair_refused, pair-over, not_taken, all_taken}
use Rattle.preproc_test.proofs.taken_lines.Goals as goal
use Rattle.preproc_test.proofs.taken_lines.Goals.{then-not-wide-via-then-not-wide, then-not-wide-via-else-not-wide+then-not-pair_ends}

pub returns-then-not-wide : goal.returns-then-not-wide
returns-then-not-wide c = let l = c.loop-b in
    let b = c.in-Some.b.now in
    let rest = c.next.new.self.rest.now in
    let e : taken c.args.wide c.args.text.now ≡ taken c.args.wide (b ∷ rest) = sym l.invariant.2 ∙ ap (taken c.args.wide) c.in-Some.ensures.steps in
    elim c.then-not-wide.branch [
      | then-not-wide-via-then-not-wide w ↦ not_taken _ _ (e ∙ ascii_not b rest c.if-b-gt127.true _ w.if-not-wide.true)
      | then-not-wide-via-else-not-wide+then-not-pair_ends w ↦
          not_taken _ _ (e ∙ ap (λ u. taken u (b ∷ rest)) w.if-not-wide.false ∙ pair_refused b c.if-b-gt127.true rest _ _ _ w.next-else-not-wide.ensures.steps (sym w.pair_ends.ensures ∙ w.if-not-pair_ends.true))
    ]

pub loop-b-preserved-then-b-gt127 : goal.loop-b-preserved-then-b-gt127
loop-b-preserved-then-b-gt127 c = let v = c.loop-b.invariant in
    let steps = c.in-Some.ensures.steps in
    let o = pair-over c.in-Some.b.now c.if-b-gt127.true _ _ _ _ c.next-else-not-wide.ensures.steps (sym c.pair_ends.ensures ∙ c.if-not-pair_ends.false) in
    let w = rw steps at v in
    (omega (arith, w.0, o.2), omega (arith, w.1, o.1), rw c.if-not-wide.false (sym o.0 ∙ rw c.if-not-wide.false at w.2))

pub loop-b-preserved-then-b-eq10 : goal.loop-b-preserved-then-b-eq10
loop-b-preserved-then-b-eq10 c = let w = rw c.in-Some.ensures.steps at c.loop-b.invariant in
    (omega (arith, w.0), omega (arith, w.1, lines-newline c.in-Some.b.now c.next.new.self.rest.now c.if-b-eq10.true), sym (taken-low _ _ _ (omega (arith, c.if-b-gt127.false))) ∙ w.2)

pub loop-b-preserved : goal.loop-b-preserved
loop-b-preserved c = let w = rw c.in-Some.ensures.steps at c.loop-b.invariant in
    (omega (arith, w.0), omega (arith, w.1, lines_other c.in-Some.b.now c.next.new.self.rest.now c.if-b-eq10.false), sym (taken-low _ _ _ (omega (arith, c.if-b-gt127.false))) ∙ w.2)

pub returns : goal.returns
unfolding line_count split
returns c = let v = c.loop-b.invariant in
    let w = rw (nil_from_length c.loop-b.bytes.rest.now c.in_default.ensures.steps.0) at v in
    all_taken c.args.wide c.args.text.now _ (sym w.2 ∙ taken-end c.args.wide) (omega (arith, w.1))
