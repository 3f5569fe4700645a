-- `ngram_meet::scoring` meets its contract: m is at most each total, the stored total is the body's first number, and less than what the
-- walk is asked for does not beat the floor.
-- Assumes nothing.
use native.Mathlib.Omega.{arith}
use Rattle.rules.specs.Book.{entries_of}
use Rattle.rules.proofs.SoundLaws.{table-size}
use Rattle.ngram_meet.proofs.MeetLaws.{shared-limits, value_judged}
use Rattle.ngram_meet.proofs.scoring.Goals as goal

pub read_u32-stored-requires : goal.read_u32-stored-requires
read_u32-stored-requires c = let n = table-size c.args.body.now (entries_of c.args.body.now) c.requires.body_value in
    omega arith

pub useless-least-requires : goal.useless-least-requires
useless-least-requires c = let a = c.args in
    let l =
    shared-limits a.text.now a.p.now a.body.now a.size.total a.size.distinct c.read_u32-stored.result c.requires.distinct_value c.requires.body_value c.read_u32-stored.ensures in
    (c.requires.distinct_le_total.2, l.2)

pub value-requires : goal.value-requires
value-requires c = let a = c.args in
    let l =
    shared-limits a.text.now a.p.now a.body.now a.size.total a.size.distinct c.read_u32-stored.result c.requires.distinct_value c.requires.body_value c.read_u32-stored.ensures in
    let m = c.meet-m.ensures.most in
    (omega (arith, m, l.0), omega (arith, m, l.1), c.requires.distinct_le_total.2, l.2)

pub returns : goal.returns
returns c = let a = c.args in
    value_judged a.text.now a.p.now a.body.now a.size.total a.size.distinct c.read_u32-stored.result c.requires.distinct_value c.requires.body_value c.read_u32-stored.ensures
    a.floor c.useless-least.result c.meet-m.result c.value.result c.requires.distinct_le_total.2 c.useless-least.ensures c.meet-m.ensures c.value.ensures
