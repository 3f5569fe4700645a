use mathlib.Core.Path.{◌≡◌, refl, ◌∙◌}
use mathlib.Core.List.{List}
use Prim.Native.Nat.{ℕ, ◌+◌, ◌*◌, ◌/◌, ◌<◌}
use native.Mathlib.Omega.{arith}
use lib.ListN.{length}
use borrow.Author.Rules.{rules}
use Rattle.rules.specs.declared.Value.{Value}
use Rattle.rules.specs.Search.{Made, Stored, sweep}
use Rattle.license_bounds.specs.declared.Task.{Task}
use Rattle.preproc_table.specs.Entries.{lines_at}
use Rattle.std.specs.Prelude.{Some}
use Rattle.license_charge.specs.Pay.{pay, charged_of}
use Rattle.license_bounds.specs.Ready.{Kept, OfBody, score_at}
use Rattle.license_bounds.proofs.ReadyLaws.{once, spans_in, kept-none, kept_more}
use Rattle.license_bounds.proofs.RoundLaws.{Thirds, thirds, Paired, found-same, search-ends, search-stops, search-stops-one, search-left, search-right}
use Rattle.license_bounds.proofs.search_bound.Goals as goal
use Rattle.license_bounds.proofs.search_bound.Goals.{In_ok-a, In_ok-b, At-loop-r, In-loop-r}

-- ---- the places that the answers speak of, each named from one near it
-- the loop's head, and what scores an index
module _ (h : At-loop-r) where
  abbrev task : Task
  task = h.args.task

  abbrev scores : Stored → ℕ → Made Value
  scores s = score_at (lines_at h.args.area.now h.args.words.now task.lines) s task.moving

  each-once : (s : Stored) (i : ℕ) → length (scores s i).list ≡ 1
  each-once s i = once _ s task.moving i

  -- what stays, seen from here
  abbrev KeptIn : List ℕ → List ℕ → Type 0
  KeptIn area words =
      Kept task.n task.lines h.args.class.now h.args.area.now h.args.words.now area words h.args.body.now

-- a turn, and where it scores
module _ (t : In-loop-r) where
  small : t.args.to < 65538
  small = t.requires.sought.small

  third : Thirds t.loop-r.l t.loop-r.r ((2 * t.loop-r.l + t.loop-r.r) / 3) ((t.loop-r.l + 2 * t.loop-r.r) / 3)
  third = thirds t.loop-r.l t.loop-r.r t.loop-r-test.true

-- its first scoring is made
module _ (o : In_ok-a) where
  abbrev at_loop_r_of_o : At-loop-r
  at_loop_r_of_o = (goal.at.In_ok-a o).At-loop-r

  kept-one : (KeptIn at_loop_r_of_o) o.score_index.new.area o.score_index.new.words
  kept-one = kept_more o.loop-r.invariant.0 o.in_ok-a.ensures.kept

  found-one : OfBody o.args.body.now
      (λ s. Some o.in_ok-a.a ≡ charged_of (pay (scores at_loop_r_of_o s ((2 * o.loop-r.l + o.loop-r.r) / 3)) o.loop-r.left.count))
  found-one s e =
      found-same o.loop-r.invariant.0.same s o.args.task.moving (λ f. f ((2 * o.loop-r.l + o.loop-r.r) / 3)) o.loop-r.left.count (o.in_ok-a.ensures.found s e)

-- and its second
module _ (w : In_ok-b) where
  abbrev at_loop_r_of_w : At-loop-r
  at_loop_r_of_w = (goal.at.In_ok-b w).At-loop-r

  abbrev in_ok_a_of_w : In_ok-a
  in_ok_a_of_w = (goal.at.In_ok-b w).In_ok-a

  kept-two : (KeptIn at_loop_r_of_w) w.score_index-in-loop-r.new.area w.score_index-in-loop-r.new.words
  kept-two = kept_more (kept-one in_ok_a_of_w) w.in_ok-b.ensures.kept

  paired : OfBody w.args.body.now
      (λ s. Paired (scores at_loop_r_of_w s) w.loop-r.l w.loop-r.r w.loop-r.left.count w.in_ok-a.a w.in_ok-b.b)
  paired s e = record {
    far = w.loop-r-test.true;
    at_low = found-one in_ok_a_of_w s e;
    at_high = found-same (kept-one in_ok_a_of_w).same s w.args.task.moving (λ f. f ((w.loop-r.l + 2 * w.loop-r.r) / 3)) w.in_ok-a.a.left.count (w.in_ok-b.ensures.found s e);
  }

pub loop-r-init : goal.loop-r-init
loop-r-init c = (kept-none c.requires.sought.working, omega arith, c.requires.from_le_to, omega arith, λ s e. refl)

pub overflow_sub-r : goal.overflow_sub-r
overflow_sub-r c = c.loop-r.invariant.2

pub overflow_mul-low : goal.overflow_mul-low
overflow_mul-low c = let fits = small (goal.at.overflow_mul-low c).In-loop-r in
    search rules

pub overflow_add-low : goal.overflow_add-low
overflow_add-low c = let fits = small (goal.at.overflow_add-low c).In-loop-r in
    search rules

pub overflow_mul-high : goal.overflow_mul-high
overflow_mul-high c = let fits = small (goal.at.overflow_mul-high c).In-loop-r in
    search rules

pub overflow_add-high : goal.overflow_add-high
overflow_add-high c = let fits = small (goal.at.overflow_add-high c).In-loop-r in
    search rules

pub returns-in_err-a : goal.returns-in_err-a
returns-in_err-a c = let at_loop_r = (goal.at.returns-in_err-a c).At-loop-r in
    let low = (2 * c.loop-r.l + c.loop-r.r) / 3 in
    record {
      found = λ s e.
          c.from_residual.ensures ∙
          search-stops _ (each-once at_loop_r s) c.loop-r.l c.loop-r.r c.loop-r.left.count c.loop-r-test.true
          (found-same c.loop-r.invariant.0.same s c.args.task.moving (λ f. f low) c.loop-r.left.count (c.in_err-a.ensures.found s e)) (c.loop-r.invariant.4 s e);
      kept = kept_more c.loop-r.invariant.0 c.in_err-a.ensures.kept;
    }

pub score_index-requires-clause-spans : goal.score_index-requires-clause-spans
score_index-requires-clause-spans c = let low = (2 * c.loop-r.l + c.loop-r.r) / 3 in
    let k = third (goal.at.score_index-requires-clause-spans c).In-loop-r in spans_in _ c.args.task.moving _ _ low low c.requires.sought.spans (omega arith) (omega arith)

pub returns-in_err-b : goal.returns-in_err-b
returns-in_err-b c = let at_loop_r = (goal.at.returns-in_err-b c).At-loop-r in
    let one = (goal.at.returns-in_err-b c).In_ok-a in
    let high = (c.loop-r.l + 2 * c.loop-r.r) / 3 in
    record {
      found = λ s e.
          c.from_residual-in_err-b.ensures ∙
          search-stops-one _ (each-once at_loop_r s) c.loop-r.l c.loop-r.r c.loop-r.left.count c.in_ok-a.a c.loop-r-test.true (found-one one s e)
          (found-same (kept-one one).same s c.args.task.moving (λ f. f high) c.in_ok-a.a.left.count (c.in_err-b.ensures.found s e)) (c.loop-r.invariant.4 s e);
      kept = kept_more (kept-one one) c.in_err-b.ensures.kept;
    }

pub score_index-requires-in-loop-r : goal.score_index-requires-in-loop-r
score_index-requires-in-loop-r c = let high = (c.loop-r.l + 2 * c.loop-r.r) / 3 in
    let k = third (goal.at.score_index-requires-in-loop-r c).In-loop-r in record {
      working = (kept-one (goal.at.score_index-requires-in-loop-r c).In_ok-a).working;
      spans = spans_in _ c.args.task.moving _ _ high high c.requires.sought.spans (omega (arith, c.loop-r.invariant.1)) (omega (arith, c.loop-r.invariant.3));
    }

pub overflow_sub-r-then-b-a : goal.overflow_sub-r-then-b-a
overflow_sub-r-then-b-a c = let k = third (goal.at.overflow_sub-r-then-b-a c).In-loop-r in
    omega arith

pub loop-r-smaller-then-b-a : goal.loop-r-smaller-then-b-a
loop-r-smaller-then-b-a c = (third (goal.at.loop-r-smaller-then-b-a c).In-loop-r).left_less

pub loop-r-preserved-then-b-a : goal.loop-r-preserved-then-b-a
loop-r-preserved-then-b-a c = let score_index = (goal.at.loop-r-preserved-then-b-a c).In_ok-b in
    let k = third (goal.at.loop-r-preserved-then-b-a c).In-loop-r in (
      kept-two score_index,
      c.loop-r.invariant.1,
      omega (arith, k.high-from),
      omega (arith, k.high-to, c.loop-r.invariant.3),
      λ s e.
          search-left _ (each-once (goal.at.loop-r-preserved-then-b-a c).At-loop-r s) c.loop-r.l c.loop-r.r c.loop-r.left.count (paired score_index s e) c.if-b-a.true ∙ c.loop-r.invariant.4 s e,
    )

pub overflow_add-l : goal.overflow_add-l
overflow_add-l c = let in_loop_r = (goal.at.overflow_add-l c).In-loop-r in
    let k = third in_loop_r in
    let fits = small in_loop_r in
    search rules

pub loop-r-smaller : goal.loop-r-smaller
loop-r-smaller c = (third (goal.at.loop-r-smaller c).In-loop-r).right_less

pub loop-r-preserved : goal.loop-r-preserved
loop-r-preserved c = let score_index = (goal.at.loop-r-preserved c).In_ok-b in
    let k = third (goal.at.loop-r-preserved c).In-loop-r in (
      kept-two score_index,
      omega (arith, k.low-from, c.loop-r.invariant.1),
      omega (arith, k.low-to),
      c.loop-r.invariant.3,
      λ s e.
          search-right _ (each-once (goal.at.loop-r-preserved c).At-loop-r s) c.loop-r.l c.loop-r.r c.loop-r.left.count (paired score_index s e) c.if-b-a.false ∙ c.loop-r.invariant.4 s e,
    )

pub sweep_all-requires : goal.sweep_all-requires
sweep_all-requires c = let sought = c.requires.sought in
    let spans = spans_in _ c.args.task.moving _ _ c.loop-r.l c.loop-r.r sought.spans c.loop-r.invariant.1 c.loop-r.invariant.3 in
    record { sought = record { working = c.loop-r.invariant.0.working; spans = spans; small = omega arith }; from_le_to = c.loop-r.invariant.2 }

pub returns : goal.returns
returns c = let at_loop_r = (goal.at.returns c).At-loop-r in
    let near = c.sweep_all.ensures in
    record {
      found = λ s e.
          search-ends _ (each-once at_loop_r s) c.loop-r.l c.loop-r.r c.loop-r.left.count c.loop-r-test.false
          (found-same c.loop-r.invariant.0.same s c.args.task.moving (λ f. sweep f (record { left = c.loop-r.l; right = c.loop-r.r })) c.loop-r.left.count (near.found s e))
          (c.loop-r.invariant.4 s e);
      kept = kept_more c.loop-r.invariant.0 near.kept;
    }
