use mathlib.Core.Path.{◌≡◌, ap, sym, ◌∙◌}
use Prim.Native.Nat.{ℕ, ◌+◌, ◌-◌}
use native.Mathlib.Omega.{arith}
use Rattle.lists.proofs.SliceLaws.{slice_done}
use Rattle.questions.specs.Words.{word_of}
use Rattle.questions.proofs.WordLaws.{word-here, word-behind, word-last}
use Rattle.questions.proofs.words.word_at.Goals as goal

pub loop-init : goal.loop-init
loop-init c =
    let e : c.args.k - 0 ≡ c.args.k = omega arith in
    (omega arith, ap (λ (j : ℕ). word_of j c.args.s.now) e)

pub returns-then-s-end : goal.returns-then-s-end
returns-then-s-end c = let m = c.mark_at-end.ensures in
    record {
      order = omega arith;
      within = m.within;
      bytes =
          slice_done c.args.s.now c.mark_at-end.result c.mark_at-end.result (omega arith)
          ∙ sym (word-last m (c.args.k - (c.loop.counter + 1)) _ (omega arith) c.if-s-end.true)
          ∙ c.loop.invariant.1;
    }

pub loop-preserved : goal.loop-preserved
loop-preserved c = let m = c.mark_at-end.ensures in
    (omega arith, sym (word-behind m (c.args.k - (c.loop.counter + 1)) _ (omega arith)) ∙ c.loop.invariant.1)

pub returns : goal.returns
returns c = let m = c.mark_at-end-2.ensures in
    record { order = m.from; within = m.within; bytes = word-here m (c.args.k - c.loop.counter) (omega arith) ∙ c.loop.invariant.1 }
