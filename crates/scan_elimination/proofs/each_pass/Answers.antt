use mathlib.Core.Path.{◌≡◌, sym, ap, ◌∙◌, subst}
use mathlib.Core.Option.{some}
use Prim.Native.Nat.{ℕ, ◌≤◌}
use native.Mathlib.Omega.{arith}
use Rattle.rules.specs.declared.View.{View}
use Rattle.detection_shelf.specs.Shelves.{text_in}
use Rattle.scan_places.proofs.WalkLaws.{mark_first}
use Rattle.scan_ranges.specs.Run.{run_of}
use Rattle.scan_ranges.proofs.HeldLaws.{scanning_held}
use Rattle.scan_elimination.proofs.PassLaws.{pass_first, pass_out, pass_fits, pass_below, pass_room, pass_out_again, best-none, pass_again, pass_end, without-held}
use Rattle.scan_elimination.proofs.each_pass.Goals as goal

pub loop-k-init : goal.loop-k-init
loop-k-init c = pass_first _ _ _ _ _ _ _ _ _ _ c.requires.scanning c.requires.stands c.requires.first_in_bounds

pub text_bounds-requires : goal.text_bounds-requires
text_bounds-requires c = let i = c.loop-k.invariant in
    record { scanning = i.ready; start_le_end = subst (λ (w : View). (w.start ≤ w.end) × (w.end ≤ c.args.scope.lines)) (sym c.whole_view-v.ensures) (omega arith, omega arith); stands = i.stands }

pub returns-in_default : goal.returns-in_default
returns-in_default c = pass_out c.loop-k.invariant _ _ (omega (arith, c.loop-k-test.true, c.from-k-end.ensures)) c.whole_view-v.ensures c.in_default.ensures.is c.out_at.ensures

pub returns-then-below : goal.returns-then-below
returns-then-below c = pass_below c.loop-k.invariant _ c.in-Some.c (omega (arith, c.loop-k-test.true, c.from-k-end.ensures)) c.whole_view-v.ensures c.in-Some.ensures.is _
    (sym c.below.ensures ∙ c.if-below.true) c.ended.ensures

pub put_record-requires : goal.put_record-requires
put_record-requires c = let i = c.loop-k.invariant in
    let e = c.whole_view-v.ensures in
    let o = c.in-Some.ensures.is in
    let fits = pass_fits i _ c.in-Some.c (omega (arith, c.loop-k-test.true, c.from-k-end.ensures)) e o in
    let room = pass_room i _ c.in-Some.c (omega (arith, c.loop-k-test.true, c.from-k-end.ensures)) e o (sym c.below.ensures ∙ c.if-below.false) in
    record {
      text_len_bound = c.requires.note_len_bound;
      at_value = mark_first _ c.first_mark.ensures;
      line_le_first = (omega (arith, c.first_mark.ensures.0), fits.order);
      after_bound = (omega (arith, fits.high, i.ready.few), fits.unit);
      record_width_in_bounds = room;
    }

pub best_without-requires : goal.best_without-requires
best_without-requires c = let i = c.loop-k.invariant in
    let fits = pass_fits i _ c.in-Some.c (omega (arith, c.loop-k-test.true, c.from-k-end.ensures)) c.whole_view-v.ensures c.in-Some.ensures.is in
    record { scanning = scanning_held i.ready c.text_bounds.ensures.held; first_le_after = (fits.order, fits.high) }

pub returns-in_default-best_without : goal.returns-in_default-best_without
unfolding text_in
returns-in_default-best_without c = pass_out_again c.loop-k.invariant _ c.in-Some.c (omega (arith, c.loop-k-test.true, c.from-k-end.ensures)) c.whole_view-v.ensures
    c.in-Some.ensures.is (sym c.below.ensures ∙ c.if-below.false) _ c.put_record.ensures.1 _
    (without-held c.text_bounds.ensures.held c.in_default-best_without.ensures) c.out_at-in_default-best_without.ensures

pub returns-in_default-value : goal.returns-in_default-value
unfolding text_in
returns-in_default-value c = best-none c.loop-k.invariant _ c.in-Some.c (omega (arith, c.loop-k-test.true, c.from-k-end.ensures)) c.whole_view-v.ensures
    c.in-Some.ensures.is (sym c.below.ensures ∙ c.if-below.false) _ c.put_record.ensures.1 c.in-Some-best_without.b c.in_default-value.is
    (without-held c.text_bounds.ensures.held c.in-Some-best_without.ensures)

pub loop-k-preserved : goal.loop-k-preserved
unfolding text_in
loop-k-preserved c = pass_again c.loop-k.invariant _ c.in-Some.c (omega (arith, c.loop-k-test.true, c.from-k-end.ensures)) c.whole_view-v.ensures
    c.in-Some.ensures.is (sym c.below.ensures ∙ c.if-below.false) _ c.put_record.ensures.1 c.in-Some-best_without.b _ c.in-Some-value.is
    (without-held c.text_bounds.ensures.held c.in-Some-best_without.ensures)

pub returns : goal.returns
returns c = let all : c.from.result ≡ c.loop-k.k = omega (arith, c.from.ensures, c.from-k-end.ensures, c.loop-k-test.false, c.loop-k.invariant.within) in
    pass_end c.loop-k.invariant _ (omega (arith, c.loop-k-test.false, c.from-k-end.ensures)) (c.ended-2.ensures ∙ ap (λ (n : ℕ). run_of n (some c.loop-k.left.count)) all)
