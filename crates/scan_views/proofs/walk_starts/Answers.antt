use native.Mathlib.Omega.{arith}
use Rattle.scan_views.proofs.RoundLaws.{starts_first, starts-next, starts-out, starts-over, starts-end}
use Rattle.scan_views.proofs.walk_starts.Goals as goal

pub loop-start-init : goal.loop-start-init
loop-start-init c = starts_first _ _ _ c.requires.scanning c.requires.c_le_lines.0

pub walk_ends-requires : goal.walk_ends-requires
walk_ends-requires c = let i = c.loop-start.invariant in
    record { scanning = i.ready; start_le_lines = (omega (arith, c.loop-start-test.true), c.requires.c_le_lines.1); latest_stands = i.stands }

pub returns-in_err-walked : goal.returns-in_err-walked
returns-in_err-walked c = rw c.from_residual.ensures (starts-out c.loop-start.invariant c.requires.c_le_lines.1 c.loop-start-test.true c.in_err-walked.ensures)

pub returns-then-walked : goal.returns-then-walked
returns-then-walked c = starts-over c.loop-start.invariant c.requires.c_le_lines.1 c.loop-start-test.true c.in_ok-walked.walked c.in_ok-walked.ensures c.if-walked.true

pub next_step-start-requires : goal.next_step-start-requires
next_step-start-requires c = omega (arith, c.loop-start-test.true)

pub loop-start-smaller : goal.loop-start-smaller
loop-start-smaller c = omega (arith, c.next_step-start.ensures, c.loop-start-test.true, c.requires.c_le_lines.1)

pub loop-start-preserved : goal.loop-start-preserved
loop-start-preserved c = starts-next c.loop-start.invariant c.requires.c_le_lines.1 c.loop-start-test.true c.in_ok-walked.walked c.in_ok-walked.ensures c.if-walked.false c.next_step-start.ensures

pub returns : goal.returns
returns c = starts-end c.loop-start.invariant c.requires.c_le_lines.1 c.loop-start-test.false
