use mathlib.Core.Path.{◌≡◌, ◌∙◌}
use Prim.Native.Nat.{ℕ, ◌+◌, ◌-◌, ◌<◌}
use native.Mathlib.Omega.{arith}
use Rattle.license_bounds.proofs.ReadyLaws.{once, spans_in, kept_more}
use Rattle.license_bounds.proofs.RoundLaws.{found-same, sweep-stops, sweep-ends, sweep_round}
use Rattle.license_bounds.proofs.sweep_from.Goals as goal
use Rattle.license_bounds.proofs.sweep_from.Goals.{After-higher_of-best}
use Rattle.rules.specs.declared.Value.{Value}
use Rattle.rules.specs.Search.{Made, Stored, sweep_from}
use Rattle.license_charge.specs.Pay.{pay}
use Rattle.preproc_table.specs.Entries.{lines_at}
use Rattle.license_bounds.specs.Ready.{Kept, OfBody, score_at}

-- an index more is swept
module _ (o : After-higher_of-best) where
  kept_so_far : Kept o.args.task.n o.args.task.lines o.args.class.now o.args.area.now o.args.words.now o.score_index.new.area o.score_index.new.words o.args.body.now
  kept_so_far = kept_more o.loop-i.invariant.0 o.in_ok-next.ensures.kept

  abbrev scores : Stored → ℕ → Made Value
  scores s = score_at (lines_at o.args.area.now o.args.words.now o.args.task.lines) s o.args.task.moving

  round : OfBody o.args.body.now
      (λ s. pay (sweep_from (scores s) (o.args.to + 1 - (o.loop-i.i + 1)) (o.loop-i.i + 1) o.higher_of-best.result) o.in_ok-next.next.left.count ≡
      pay (sweep_from (scores s) (o.args.to + 1 - o.args.from) o.args.from o.args.highest) o.args.budget.count)
  round s e =
      let one = found-same o.loop-i.invariant.0.same s o.args.task.moving (λ f. f o.loop-i.i) o.loop-i.left.count (o.in_ok-next.ensures.found s e) in
      sweep_round _ (once _ s o.args.task.moving) _ o.loop-i.i o.loop-i.left.count o.loop-i.best _ o.in_ok-next.next o.loop-i-test.true one o.higher_of-best.ensures ∙
      o.loop-i.invariant.3 s e

pub score_index-requires-clause-spans : goal.score_index-requires-clause-spans
score_index-requires-clause-spans c = spans_in _ c.args.task.moving _ _ c.loop-i.i c.loop-i.i c.requires.sought.spans (omega arith) c.loop-i-test.true

pub returns-in_err-next : goal.returns-in_err-next
returns-in_err-next c = let task = c.args.task in
    record {
      found = λ s e.
          let none = found-same c.loop-i.invariant.0.same s task.moving (λ f. f c.loop-i.i) c.loop-i.left.count (c.in_err-next.ensures.found s e) in
          c.from_residual.ensures ∙ sweep-stops _ (once _ s task.moving) _ c.loop-i.i c.loop-i.left.count c.loop-i.best c.loop-i-test.true none (c.loop-i.invariant.3 s e);
      kept = kept_more c.loop-i.invariant.0 c.in_err-next.ensures.kept;
    }

pub loop-i-preserved : goal.loop-i-preserved
loop-i-preserved c = let o = (goal.at.loop-i-preserved c).After-higher_of-best in
    let more = c.loop-i-test.true in (kept_so_far o, omega arith, omega arith, round o)

pub returns : goal.returns
returns c = let task = c.args.task in
    record {
      found = λ s e. sweep-ends _ (once _ s task.moving) _ c.loop-i.i c.loop-i.left c.loop-i.best c.loop-i-test.false (c.loop-i.invariant.3 s e);
      kept = c.loop-i.invariant.0;
    }

pub returns-in_ok-next : goal.returns-in_ok-next
returns-in_ok-next c = let task = c.args.task in
    let o = (goal.at.returns-in_ok-next c).After-higher_of-best in
    let last : c.args.to < c.loop-i.i + 1 = omega arith in
    record {
      found = λ s e. sweep-ends _ (once _ s task.moving) _ (c.loop-i.i + 1) c.in_ok-next.next.left c.higher_of-best.result last (round o s e);
      kept = kept_so_far o;
    }
