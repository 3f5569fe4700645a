use native.Mathlib.Omega.{arith}
use Rattle.rules.specs.Book.{entries_of}
use Rattle.rules.proofs.SoundLaws.{table-size}
use Rattle.ngram_meet.proofs.MeetLaws.{meeting_start, meeting_fits, meeting_rest, meeting_left, meeting_before, meeting_same, meeting_after, meeting_over, meeting_none, meeting_short}
use Rattle.ngram_meet.proofs.meet.Goals as goal

pub overflow_cast-rest : goal.overflow_cast-rest
overflow_cast-rest c = omega (arith, c.requires.distinct_le_total.2)

pub read_u32-stored-requires : goal.read_u32-stored-requires
read_u32-stored-requires c = let n = table-size c.args.body.now (entries_of c.args.body.now) c.requires.body_value in
    omega arith

pub loop-i-init : goal.loop-i-init
loop-i-init c = let a = c.args in
    meeting_start a.text.now a.p.now a.body.now a.size.total a.size.distinct c.read_u32-stored.result c.requires.distinct_le_total.0 c.requires.distinct_le_total.1 c.requires.distinct_le_total.2 c.requires.distinct_value c.requires.body_value c.read_u32-stored.ensures

pub returns-then-body-j : goal.returns-then-body-j
returns-then-body-j c = meeting_over c.loop-i.invariant _ c.if-body-j.true

pub overflow_add-m : goal.overflow_add-m
overflow_add-m c = let i = c.loop-i.invariant in
    omega (arith, i.both, i.most, i.rest-most, c.min.ensures)

pub returns-then-m-min : goal.returns-then-m-min
returns-then-m-min c = meeting_short c.loop-i.invariant _ (omega (arith, c.if-m-min.true, c.min.ensures))

pub overflow_add-start : goal.overflow_add-start
overflow_add-start c = let f = meeting_fits c.loop-i.invariant c.loop-i-test.true c.if-body-j.false in
    omega arith

pub overflow_add-j : goal.overflow_add-j
overflow_add-j c = let f = meeting_fits c.loop-i.invariant c.loop-i-test.true c.if-body-j.false in
    omega arith

pub read_u32-requires : goal.read_u32-requires
read_u32-requires c = let f = meeting_fits c.loop-i.invariant c.loop-i-test.true c.if-body-j.false in
    omega arith

pub compare_bigram-requires : goal.compare_bigram-requires
compare_bigram-requires c = let f = meeting_fits c.loop-i.invariant c.loop-i-test.true c.if-body-j.false in
    let v = c.wide.ensures in
    let r = c.read_u32.ensures in
    (omega arith, omega arith)

pub overflow_sub-rest : goal.overflow_sub-rest
overflow_sub-rest c = omega (arith, meeting_rest c.loop-i.invariant c.loop-i-test.true c.if-body-j.false)

pub loop-i-preserved-in-Less : goal.loop-i-preserved-in-Less
loop-i-preserved-in-Less c = let q =
    rw (c.wide-in-loop-i.ensures, c.wide.ensures, c.read_u32.ensures) at c.compare_bigram.ensures in
    meeting_before c.loop-i.invariant c.loop-i-test.true c.if-body-j.false c.compare_bigram.result q c.in-Less.is

pub read_u32-other-requires : goal.read_u32-other-requires
read_u32-other-requires c = let f = meeting_fits c.loop-i.invariant c.loop-i-test.true c.if-body-j.false in
    omega arith

pub overflow_add-m-in-Equal : goal.overflow_add-m-in-Equal
overflow_add-m-in-Equal c = let q =
    rw (c.wide-in-loop-i.ensures, c.wide.ensures, c.read_u32.ensures) at c.compare_bigram.ensures in
    let g =
    meeting_same c.loop-i.invariant c.loop-i-test.true c.if-body-j.false c.compare_bigram.result q c.in-Equal.is in
    omega (arith, g.both, g.most, rw c.read_u32-other.ensures at c.min-m.ensures)

pub overflow_sub-rest-in-Equal : goal.overflow_sub-rest-in-Equal
overflow_sub-rest-in-Equal c = omega (arith, meeting_rest c.loop-i.invariant c.loop-i-test.true c.if-body-j.false)

pub overflow_sub-stored : goal.overflow_sub-stored
overflow_sub-stored c = omega (arith, meeting_left c.loop-i.invariant c.loop-i-test.true c.if-body-j.false, c.read_u32-other.ensures)

pub loop-i-preserved-in-Equal : goal.loop-i-preserved-in-Equal
loop-i-preserved-in-Equal c = let q =
    rw (c.wide-in-loop-i.ensures, c.wide.ensures, c.read_u32.ensures) at c.compare_bigram.ensures in
    rw (c.min-m.ensures, c.read_u32-other.ensures, c.wide.ensures, c.read_u32.ensures)
    (meeting_same c.loop-i.invariant c.loop-i-test.true c.if-body-j.false c.compare_bigram.result q c.in-Equal.is)

pub read_u32-stored-requires-in-Greater : goal.read_u32-stored-requires-in-Greater
read_u32-stored-requires-in-Greater c = let f = meeting_fits c.loop-i.invariant c.loop-i-test.true c.if-body-j.false in
    omega arith

pub overflow_sub-stored-in-Greater : goal.overflow_sub-stored-in-Greater
overflow_sub-stored-in-Greater c = omega (arith, meeting_left c.loop-i.invariant c.loop-i-test.true c.if-body-j.false, c.read_u32-stored-in-Greater.ensures)

pub loop-i-preserved : goal.loop-i-preserved
loop-i-preserved c = let q =
    rw (c.wide-in-loop-i.ensures, c.wide.ensures, c.read_u32.ensures) at c.compare_bigram.ensures in
    rw (c.read_u32-stored-in-Greater.ensures, c.wide.ensures, c.read_u32.ensures)
    (meeting_after c.loop-i.invariant c.loop-i-test.true c.if-body-j.false c.compare_bigram.result q c.in-Greater.is)

pub returns : goal.returns
returns c = meeting_none c.loop-i.invariant _ c.loop-i-test.false
