-- The cycle's answers. An operand is a leaf or a group; what the levels' loops keep is Anding and Oring.
-- Assumes nothing.
use mathlib.Core.Path.{◌≡◌, refl, sym, ◌∙◌}
use mathlib.Core.Bool.{◌&&◌, ◌||◌}
use Prim.Native.Nat.{◌+◌, ◌≤◌, ◌<◌}
use native.Mathlib.Omega.{arith}
use lib.ListN.{length}
use Rattle.std.proofs.lemmas.Result.{err_from_is_err_and}
use Rattle.expression.specs.Reading.{depth_most}
use Rattle.expression.specs.Writing.{spell}
use Rattle.expression_bytes.proofs.FrontLaws.{head-within, blanks-high, blanks-stop}
use Rattle.expression_joints.proofs.JointLaws.{shut_at, shut_bad, jointed_on, jointed_off}
use Rattle.expression_levels.proofs.LevelLaws.{put-length, anding_start, oring_start, was_read, was_none, anding_no, anding_off, anding_on, anding_done, oring_no, oring_off, oring_on, oring_done}
use Rattle.expression_levels.proofs.OperandLaws.{from-blanks, too_deep, group-no, group_open, group-told}
use Rattle.expression_levels.proofs.+and_level_operand_or_level.Goals as goal
use Rattle.expression_levels.proofs.+and_level_operand_or_level.Goals.{and_level-then-all, and_level-else-all, or_level-then-any, or_level-else-any}

pub and_level-loop-v-init : goal.and_level-loop-v-init
and_level-loop-v-init t c = anding_start c.args.list.now c.args.text.now c.args.out.now c.args.at c.args.depth c.args.o c.requires.0 (omega (arith, c.ranges.o))

pub and_level-operand-requires : goal.and_level-operand-requires
and_level-operand-requires t c =
    let l = c.loop-v.invariant.low in
    (omega (arith, c.decreases), (c.loop-v.invariant.high, c.requires.1))

pub and_level-returns-in_err-v : goal.and_level-returns-in_err-v
and_level-returns-in_err-v t c =
    let small : length c.args.out.now < 18446744073709551616 = omega arith in
    let p = err_from_is_err_and c.from_residual.result c.from_residual.ensures.1 in
    rw (p.1, p.2) (anding_no small c.loop-v.invariant (was_none c.in_err-v.was c.operand.ensures))

pub and_level-returns-then-not-stands : goal.and_level-returns-then-not-stands
and_level-returns-then-not-stands t c =
    let small : length c.args.out.now < 18446744073709551616 = omega arith in
    let l = c.last-w.ensures in
    let h : c.if-all.holds ≡ (c.loop-v.all && c.in_ok-v.v.holds) = elim c.if-all.branch [ and_level-then-all w ↦ rw w.if-all.true (cc) | and_level-else-all w ↦ rw w.if-all.false (cc) ] in
    anding_done small c.loop-v.invariant (was_read c.in_ok-v.was c.operand.ensures) (sym c.stands.ensures ∙ c.if-not-stands.true) l.0 h l.2 l.3

pub and_level-returns-in_err-joint : goal.and_level-returns-in_err-joint
and_level-returns-in_err-joint t c =
    let small : length c.args.out.now < 18446744073709551616 = omega arith in
    let p = err_from_is_err_and c.from_residual-in_err-joint.result c.from_residual-in_err-joint.ensures.1 in
    rw (p.1, p.2) (anding_off small c.loop-v.invariant (was_read c.in_ok-v.was c.operand.ensures) (jointed_off c.in_err-joint.was c.and_joint.ensures))

pub and_level-loop-v-smaller : goal.and_level-loop-v-smaller
and_level-loop-v-smaller t c =
    let r = was_read c.in_ok-v.was c.operand.ensures in
    let g = jointed_on c.in_ok-joint.was c.and_joint.ensures in
    omega (arith, r.on.low, g.low, g.high)

pub and_level-loop-v-preserved : goal.and_level-loop-v-preserved
and_level-loop-v-preserved t c =
    let small : length c.args.out.now < 18446744073709551616 = omega arith in
    let h : c.if-all.holds ≡ (c.loop-v.all && c.in_ok-v.v.holds) = elim c.if-all.branch [ and_level-then-all w ↦ rw w.if-all.true (cc) | and_level-else-all w ↦ rw w.if-all.false (cc) ] in
    anding_on small c.loop-v.invariant (was_read c.in_ok-v.was c.operand.ensures) h (jointed_on c.in_ok-joint.was c.and_joint.ensures)

pub operand-leaf-requires : goal.operand-leaf-requires
operand-leaf-requires t c =
    let l = c.args.text.now in
    (blanks-high l c.args.at _ c.requires.0 c.blanks-from.ensures, blanks-stop l c.args.at _ c.blanks-from.ensures, sym c.stands.ensures ∙ c.if-not-stands.true)

pub operand-returns-then-not-stands : goal.operand-returns-then-not-stands
operand-returns-then-not-stands t c = from-blanks c.args.text.now c.args.at _ c.blanks-from.ensures (c.leaf.ensures c.args.depth)

pub operand-returns-then-depth-ge-DEPTH_MOST : goal.operand-returns-then-depth-ge-DEPTH_MOST
operand-returns-then-depth-ge-DEPTH_MOST t c = too_deep c.args.list.now c.args.text.now c.args.at c.args.depth _ c.args.o _ c.blanks-from.ensures (sym c.stands.ensures ∙ c.if-not-stands.false) c.if-depth-ge-DEPTH_MOST.true

pub operand-overflow_add-from : goal.operand-overflow_add-from
operand-overflow_add-from t c =
    let h = head-within c.args.text.now c.blanks-from.result 40 (sym c.stands.ensures ∙ c.if-not-stands.false) in
    record { fits = omega (arith, h) }

pub operand-or_level-requires : goal.operand-or_level-requires
operand-or_level-requires t c =
    let h = head-within c.args.text.now c.blanks-from.result 40 (sym c.stands.ensures ∙ c.if-not-stands.false) in
    let i : c.blanks-from.result + 1 ≤ length c.args.text.now = omega (arith, h) in
    let j : c.args.depth + 1 ≤ depth_most = omega (arith, c.if-depth-ge-DEPTH_MOST.false) in
    (omega (arith, c.decreases, c.blanks-from.ensures), (i, j))

pub operand-returns-in_err-v : goal.operand-returns-in_err-v
operand-returns-in_err-v t c =
    let p = err_from_is_err_and c.from_residual.result c.from_residual.ensures.1 in
    rw (p.1, p.2) (group-no c.args.list.now c.args.text.now c.args.at c.args.depth _ c.args.o _ c.blanks-from.ensures (sym c.stands.ensures ∙ c.if-not-stands.false) c.if-depth-ge-DEPTH_MOST.false (was_none c.in_err-v.was c.or_level.ensures))

pub operand-returns-in_err-next : goal.operand-returns-in_err-next
operand-returns-in_err-next t c =
    let w = was_read c.in_ok-v.was c.or_level.ensures in
    let p = err_from_is_err_and c.from_residual-in_err-next.result c.from_residual-in_err-next.ensures.1 in
    rw (p.1, p.2) (group_open c.args.list.now c.args.text.now c.args.at c.args.depth _ c.args.o _ c.blanks-from.ensures (sym c.stands.ensures ∙ c.if-not-stands.false) c.if-depth-ge-DEPTH_MOST.false w (put-length _ (spell w.tree) _ w.value.put) (shut_bad c.in_err-next.was c.close.ensures))

pub operand-returns : goal.operand-returns
operand-returns t c =
    let g = shut_at c.in_ok-next.was c.close.ensures in
    group-told c.args.list.now c.args.text.now c.args.at c.args.depth _ c.args.o _ c.blanks-from.ensures (sym c.stands.ensures ∙ c.if-not-stands.false) c.if-depth-ge-DEPTH_MOST.false (was_read c.in_ok-v.was c.or_level.ensures) g.same g.low g.high g.stop refl refl refl

pub or_level-loop-v-init : goal.or_level-loop-v-init
or_level-loop-v-init t c = oring_start c.args.list.now c.args.text.now c.args.out.now c.args.at c.args.depth c.args.o c.requires.0 (omega (arith, c.ranges.o))

pub or_level-and_level-requires : goal.or_level-and_level-requires
or_level-and_level-requires t c =
    let l = c.loop-v.invariant.low in
    (omega (arith, c.decreases), (c.loop-v.invariant.high, c.requires.1))

pub or_level-returns-in_err-v : goal.or_level-returns-in_err-v
or_level-returns-in_err-v t c =
    let small : length c.args.out.now < 18446744073709551616 = omega arith in
    let p = err_from_is_err_and c.from_residual.result c.from_residual.ensures.1 in
    rw (p.1, p.2) (oring_no small c.loop-v.invariant (was_none c.in_err-v.was c.and_level.ensures))

pub or_level-returns-then-several : goal.or_level-returns-then-several
or_level-returns-then-several t c =
    let small : length c.args.out.now < 18446744073709551616 = omega arith in
    let h : c.if-any.holds ≡ (c.loop-v.any || c.in_ok-v.v.holds) = elim c.if-any.branch [ or_level-then-any w ↦ rw w.if-any.true (cc) | or_level-else-any w ↦ rw w.if-any.false (cc) ] in
    oring_done small c.loop-v.invariant (was_read c.in_ok-v.was c.and_level.ensures) (sym c.stands.ensures ∙ c.if-not-stands.true) refl h (rw c.if-several.true) refl

pub or_level-returns-else-several : goal.or_level-returns-else-several
or_level-returns-else-several t c =
    let small : length c.args.out.now < 18446744073709551616 = omega arith in
    let h : c.if-any.holds ≡ (c.loop-v.any || c.in_ok-v.v.holds) = elim c.if-any.branch [ or_level-then-any w ↦ rw w.if-any.true (cc) | or_level-else-any w ↦ rw w.if-any.false (cc) ] in
    oring_done small c.loop-v.invariant (was_read c.in_ok-v.was c.and_level.ensures) (sym c.stands.ensures ∙ c.if-not-stands.true) refl h (rw c.if-several.false) refl

pub or_level-returns-in_err-joint : goal.or_level-returns-in_err-joint
or_level-returns-in_err-joint t c =
    let small : length c.args.out.now < 18446744073709551616 = omega arith in
    let p = err_from_is_err_and c.from_residual-in_err-joint.result c.from_residual-in_err-joint.ensures.1 in
    rw (p.1, p.2) (oring_off small c.loop-v.invariant (was_read c.in_ok-v.was c.and_level.ensures) (jointed_off c.in_err-joint.was c.or_joint.ensures))

pub or_level-loop-v-smaller : goal.or_level-loop-v-smaller
or_level-loop-v-smaller t c =
    let r = was_read c.in_ok-v.was c.and_level.ensures in
    let g = jointed_on c.in_ok-joint.was c.or_joint.ensures in
    omega (arith, r.on.low, g.low, g.high)

pub or_level-loop-v-preserved : goal.or_level-loop-v-preserved
or_level-loop-v-preserved t c =
    let small : length c.args.out.now < 18446744073709551616 = omega arith in
    let h : c.if-any.holds ≡ (c.loop-v.any || c.in_ok-v.v.holds) = elim c.if-any.branch [ or_level-then-any w ↦ rw w.if-any.true (cc) | or_level-else-any w ↦ rw w.if-any.false (cc) ] in
    oring_on small c.loop-v.invariant (was_read c.in_ok-v.was c.and_level.ensures) h (jointed_on c.in_ok-joint.was c.or_joint.ensures)
