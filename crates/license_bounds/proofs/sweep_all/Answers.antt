-- `license_bounds::sweep_all` meets its contract: the first index is scored, and the rest is swept over it.
-- Assumes nothing.
use mathlib.Core.Path.{ap, ◌∙◌}
use Prim.Native.Nat.{◌+◌, ◌-◌}
use native.Mathlib.Omega.{arith}
use borrow.Author.Rules.{rules}
use Rattle.rules.specs.declared.Index.{Index}
use Rattle.rules.specs.Search.{sweep_from}
use Rattle.license_charge.specs.Pay.{charged_of}
use Rattle.license_bounds.proofs.ReadyLaws.{once, spans_in, kept_more}
use Rattle.license_bounds.proofs.RoundLaws.{found-same, sweep_unpaid, sweep-whole}
use Rattle.license_bounds.proofs.sweep_all.Goals as goal

pub score_index-requires-clause-spans : goal.score_index-requires-clause-spans
score_index-requires-clause-spans c = let args = c.args in
    spans_in _ args.task.moving _ _ args.from args.from c.requires.sought.spans (omega arith) c.requires.from_le_to

pub returns-in_err-first : goal.returns-in_err-first
returns-in_err-first c = let task = c.args.task in
    record {
      found = λ t e. c.from_residual.ensures ∙ sweep_unpaid _ (once _ t task.moving) c.args.from c.args.to _ (c.in_err-first.ensures.found t e);
      kept = c.in_err-first.ensures.kept;
    }

pub overflow_add-from : goal.overflow_add-from
overflow_add-from c = let order = c.requires.from_le_to in
    let small = c.requires.sought.small in
    search rules

pub sweep_from-requires : goal.sweep_from-requires
sweep_from-requires c = let args = c.args in
    let sought = c.requires.sought in
    let order = c.requires.from_le_to in
    let spans = spans_in _ args.task.moving _ _ (args.from + 1) args.to sought.spans (omega arith) (omega arith) in
    record { sought = record { working = c.in_ok-first.ensures.kept.working; spans = spans; small = sought.small }; from_bound = omega arith }

pub returns : goal.returns
returns c = let rest = c.sweep_from.ensures in
    let one = c.in_ok-first.ensures in
    let first = c.in_ok-first.first in
    let args = c.args in
    let task = args.task in
    let index : Index = record { at = args.from; value = first.value } in
    record {
      found = λ t e.
          found-same one.kept.same t task.moving (λ f. sweep_from f (args.to + 1 - (args.from + 1)) (args.from + 1) index) first.left.count (rest.found t e) ∙
          ap charged_of (sweep-whole _ (once _ t task.moving) args.from args.to args.budget.count first c.requires.from_le_to (one.found t e));
      kept = kept_more one.kept rest.kept;
    }
