use native.Mathlib.Omega.{arith}
use Rattle.ngram_body.proofs.BodyLaws.{measuring_start, measuring_next, measuring_end, part-most}
use Rattle.ngram_body.proofs.body_len.Goals as goal

pub loop-i-init : goal.loop-i-init
loop-i-init c = let a = c.args in
    λ k l r. measuring_start a.text.now a.p.now k a.size.distinct l r

pub overflow_sub-n : goal.overflow_sub-n
overflow_sub-n c = let a = c.args in
    let q = c.requires.distinct_le_total in
    let g = c.loop-i.invariant a.size.total q.0 q.1 in
    let w = c.wide-a.ensures in
    let e = c.part_end.ensures in
    let b = part-most a.text.now c.wide-a.result in
    omega arith

pub overflow_add-n : goal.overflow_add-n
overflow_add-n c = let a = c.args in
    let q = c.requires.distinct_le_total in
    let g = c.loop-i.invariant a.size.total q.0 q.1 in
    let w = c.wide-a.ensures in
    let e = c.part_end.ensures in
    let b = part-most a.text.now c.wide-a.result in
    omega arith

pub overflow_add-n-in-loop-i : goal.overflow_add-n-in-loop-i
overflow_add-n-in-loop-i c = let a = c.args in
    let q = c.requires.distinct_le_total in
    let g = c.loop-i.invariant a.size.total q.0 q.1 in
    let w = c.wide-a.ensures in
    let e = c.part_end.ensures in
    let b = part-most a.text.now c.wide-a.result in
    omega arith

pub loop-i-preserved : goal.loop-i-preserved
loop-i-preserved c = let e = rw c.wide-a.ensures at c.part_end.ensures in
    let w = c.wide-a.ensures in
    λ k h r. measuring_next (c.loop-i.invariant k h r) c.loop-i-test.true c.requires.text_len_bound _ (omega arith)

pub returns : goal.returns
returns c = let q = c.requires.distinct_le_total in
    measuring_end (c.loop-i.invariant c.args.size.total q.0 q.1) c.loop-i-test.false
