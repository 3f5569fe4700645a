use mathlib.Core.Path.{ap, ◌∙◌}
use Prim.Native.Nat.{ℕ, ◌+◌, min}
use native.Mathlib.Numerals.{add-one}
use native.Mathlib.Omega.{arith}
use Rattle.scan_views.proofs.RoundLaws.{ends-first, ends_next, ends-out, ends-over, ends-end}
use Rattle.scan_views.proofs.walk_ends.Goals as goal

pub overflow_add-past : goal.overflow_add-past
overflow_add-past c = omega (arith, c.requires.scanning.few)

pub loop-end-init : goal.loop-end-init
loop-end-init c = ends-first _ _ _ _ c.requires.scanning c.requires.latest_stands c.requires.start_le_lines.0

pub see_view-requires : goal.see_view-requires
see_view-requires c = let i = c.loop-end.invariant in
    record { scanning = i.ready; start_le_end = (i.from, omega (arith, c.loop-end-test.true)); latest_stands = i.stands }

pub returns-in_err-seen : goal.returns-in_err-seen
returns-in_err-seen c = rw c.from_residual.ensures (ends-out c.loop-end.invariant c.requires.start_le_lines.1 (omega (arith, c.loop-end-test.true)) c.in_err-seen.ensures)

pub returns-then-seen : goal.returns-then-seen
returns-then-seen c = ends-over c.loop-end.invariant c.requires.start_le_lines.1 (omega (arith, c.loop-end-test.true)) c.in_ok-seen.seen c.in_ok-seen.ensures c.if-seen.true

pub next_step-end-requires : goal.next_step-end-requires
next_step-end-requires c = omega (arith, c.loop-end-test.true)

pub loop-end-smaller : goal.loop-end-smaller
loop-end-smaller c = omega (arith, c.next_step-end.ensures, c.loop-end-test.true, c.requires.start_le_lines.1)

pub loop-end-preserved : goal.loop-end-preserved
loop-end-preserved c = let a = c.args in
    let e = c.next_step-end.ensures ∙ ap (λ (n : ℕ). min (c.loop-end.end + a.step) n) (add-one a.scope.lines) in
    ends_next c.loop-end.invariant c.requires.start_le_lines.1 (omega (arith, c.loop-end-test.true)) c.in_ok-seen.seen c.in_ok-seen.ensures c.if-seen.false e

pub returns : goal.returns
returns c = ends-end c.loop-end.invariant c.requires.start_le_lines.1 (omega (arith, c.loop-end-test.false))
