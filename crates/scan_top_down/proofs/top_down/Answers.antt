use native.Mathlib.Omega.{arith}
use Rattle.detection_shelf.specs.Shelves.{text_in}
use Rattle.scan_top_down.proofs.DownRunLaws.{rounds-first, rounds-out, rounds_nothing, rounds_fits, rounds-room, rounds-from, rounds_rise, rounds-found, rounds-end}
use Rattle.scan_top_down.proofs.top_down.Goals as goal

pub loop-c-init : goal.loop-c-init
loop-c-init c = rounds-first _ _ _ c.requires.scanning c.requires.lines_in_bounds

pub find_contained-requires : goal.find_contained-requires
find_contained-requires c = record { scanning = c.loop-c.invariant.ready; c_le_lines = (omega (arith, c.loop-c-test.true), c.requires.step_nonzero) }

pub returns-in_default : goal.returns-in_default
returns-in_default c = rounds-out c.loop-c.invariant c.requires.step_nonzero c.loop-c-test.true _ c.in_default.ensures c.out_at.ensures

pub returns-in_default-value : goal.returns-in_default-value
returns-in_default-value c = rounds_nothing c.loop-c.invariant c.requires.step_nonzero c.loop-c-test.true _ c.in-Some.round c.in_default-value.is c.in-Some.ensures c.ended.ensures

pub put_record-end-requires : goal.put_record-end-requires
put_record-end-requires c = let i = c.loop-c.invariant in
    let p = c.requires.step_nonzero in
    let l = c.loop-c-test.true in
    let d = c.in-Some.ensures in
    let fits = rounds_fits i p l c.in-Some.round c.in-Some-value.found c.in-Some-value.is d in record { text_len_bound = c.requires.note_len_bound; at_value = i.place; line_le_first = (rounds-from i p l c.in-Some.round c.in-Some-value.found c.in-Some-value.is d, fits.order); after_bound = (omega (arith, fits.high, i.ready.few), fits.unit); record_width_in_bounds = rounds-room i p l c.in-Some.round c.in-Some-value.found c.in-Some-value.is d }

pub past_gap-at-requires : goal.past_gap-at-requires
past_gap-at-requires c = let d = c.in-Some.ensures in
    record { first_le_after = (rounds_fits c.loop-c.invariant c.requires.step_nonzero c.loop-c-test.true c.in-Some.round c.in-Some-value.found c.in-Some-value.is d).order; end_value = c.put_record-end.ensures.0 }

pub overflow_add-k : goal.overflow_add-k
overflow_add-k c = let i = c.loop-c.invariant in
    omega (arith, i.within, i.to, i.ready.few)

pub overflow_add-c : goal.overflow_add-c
overflow_add-c c = let i = c.loop-c.invariant in
    let d = c.in-Some.ensures in
    let fits = rounds_fits i c.requires.step_nonzero c.loop-c-test.true c.in-Some.round c.in-Some-value.found c.in-Some-value.is d in
    omega (arith, fits.high, i.ready.few)

pub loop-c-smaller : goal.loop-c-smaller
loop-c-smaller c = let d = c.in-Some.ensures in
    let l = c.loop-c-test.true in
    let rise = rounds_rise c.loop-c.invariant c.requires.step_nonzero l c.in-Some.round c.in-Some-value.found c.in-Some-value.is d in
    omega (arith, rise, l)

pub loop-c-preserved : goal.loop-c-preserved
unfolding text_in
loop-c-preserved c = let d = c.in-Some.ensures in
    rounds-found c.loop-c.invariant c.requires.step_nonzero c.loop-c-test.true c.in-Some.round c.in-Some-value.found c.in-Some-value.is d c.put_record-end.ensures.1 c.past_gap-at.ensures

pub returns : goal.returns
returns c = rounds-end c.loop-c.invariant c.requires.step_nonzero _ c.loop-c-test.false c.ended-2.ensures
