use mathlib.Core.Bool.{not}
use Rattle.std.specs.Prelude.{Ok}
use Rattle.detection_bodies.proofs.EntryLaws.{rest-short, run-start, run-next, run_bad, run-over, run_end, run-broken}
use Rattle.records.proofs.StepLaws.{EntryHere, entry_here, entry-end, entry-broken}
use borrow.Author.Tests.{not-true, not-false}
use native.Mathlib.Omega.{arith}
use Prim.Native.Nat.{ℕ}
use mathlib.Core.List.{List}
use mathlib.Core.Path.{sym, ◌∙◌, ap}
use Rattle.detection_bodies.proofs.walk_table.Goals as goal
use Rattle.detection_bodies.proofs.walk_table.Goals.{At-loop-found, In-Some}

-- the bytes, from the loop's head
abbrev bytes : At-loop-found → List ℕ
bytes top = top.args.body.now

-- where an entry was read
module _ (x : In-Some) where
  here : EntryHere x.args.body.now x.loop-found.at x.in-Some.entry.count x.in-Some.entry.start x.in-Some.entry.len
  here = entry_here x.args.body.now x.loop-found.at x.in-Some.entry (sym x.entry_at.ensures ∙ x.in-Ok.is ∙ ap Ok x.in-Some.is)

pub returns-then-body-lt8 : goal.returns-then-body-lt8
returns-then-body-lt8 c = sym (rest-short _ _ _ c.if-body-lt8.true)

pub loop-found-init : goal.loop-found-init
loop-found-init c = run-start _ _ c.if-body-lt8.false

pub overflow_add-end : goal.overflow_add-end
overflow_add-end c = omega (arith, here (goal.at.overflow_add-end c).In-Some)

pub slice_bounds-entry_sound-count : goal.slice_bounds-entry_sound-count
slice_bounds-entry_sound-count c = omega (arith, c.loop-found.invariant)

pub slice_bounds-entry_sound-start : goal.slice_bounds-entry_sound-start
slice_bounds-entry_sound-start c = omega (arith, c.loop-found.invariant)

pub slice_bounds-entry_sound-end : goal.slice_bounds-entry_sound-end
slice_bounds-entry_sound-end c = omega (arith, c.loop-found.invariant)

pub slice_bounds-entry_sound-end-in-loop-found : goal.slice_bounds-entry_sound-end-in-loop-found
slice_bounds-entry_sound-end-in-loop-found c = omega (arith, here (goal.at.slice_bounds-entry_sound-end-in-loop-found c).In-Some)

pub returns-then-not-entry_sound : goal.returns-then-not-entry_sound
returns-then-not-entry_sound c = sym (run_bad c.loop-found.invariant _ _ _ (here (goal.at.returns-then-not-entry_sound c).In-Some) (sym c.entry_sound.ensures ∙ not-true _ (ap not c.if-not-entry_sound.true)))

pub overflow_add-sum : goal.overflow_add-sum
overflow_add-sum c = omega (arith, c.loop-found.invariant)

pub returns-then-sum-gt-TOTAL_MOST : goal.returns-then-sum-gt-TOTAL_MOST
returns-then-sum-gt-TOTAL_MOST c = sym (run-over c.loop-found.invariant _ _ _ (here (goal.at.returns-then-sum-gt-TOTAL_MOST c).In-Some) (omega arith))

pub overflow_add-entries : goal.overflow_add-entries
overflow_add-entries c = omega (arith, c.loop-found.invariant)

pub loop-found-smaller : goal.loop-found-smaller
loop-found-smaller c = omega (arith, here (goal.at.loop-found-smaller c).In-Some)

pub loop-found-preserved : goal.loop-found-preserved
loop-found-preserved c = run-next c.loop-found.invariant _ _ _ (here (goal.at.loop-found-preserved c).In-Some) (sym c.entry_sound.ensures ∙ not-false _ (ap not c.if-not-entry_sound.false)) (omega arith)

pub totals_are-requires : goal.totals_are-requires
totals_are-requires c = c.loop-found.invariant.headed

pub returns-in_default-found : goal.returns-in_default-found
returns-in_default-found c = c.totals_are.ensures ∙ sym (run_end c.loop-found.invariant (entry-end (bytes (goal.at.returns-in_default-found c).At-loop-found) c.loop-found.at (sym c.entry_at.ensures ∙ c.in-Ok.is ∙ ap Ok c.in_default-found.is)))

pub returns-in_default : goal.returns-in_default
returns-in_default c = sym (run-broken c.loop-found.invariant (entry-broken (bytes (goal.at.returns-in_default c).At-loop-found) c.loop-found.at (sym c.entry_at.ensures ∙ c.in_default.is)))
