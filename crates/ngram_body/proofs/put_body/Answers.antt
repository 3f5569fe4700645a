use mathlib.Core.Path.{ap, ◌∙◌}
use native.Mathlib.Omega.{arith}
use Rattle.rules.specs.Book.{written}
use Rattle.records.specs.Written.{put_at}
use Rattle.ngram_body.proofs.BodyLaws.{out_eight, body-start, body-space, body-next, body_end}
use Rattle.ngram_body.proofs.put_body.Goals as goal

pub write_u32-requires : goal.write_u32-requires
write_u32-requires c = let a = c.args in
    let n = out_eight a.text.now a.p.now a.size.total a.size.distinct c.requires.distinct_le_total.0 c.requires.distinct_le_total.1 in
    omega (arith, c.requires.distinct_in_bounds)

pub write_u32-requires-2 : goal.write_u32-requires-2
write_u32-requires-2 c = let a = c.args in
    let n = out_eight a.text.now a.p.now a.size.total a.size.distinct c.requires.distinct_le_total.0 c.requires.distinct_le_total.1 in
    omega (arith, c.requires.distinct_in_bounds, c.write_u32.auto.s)

pub loop-i-init : goal.loop-i-init
loop-i-init c = let a = c.args in
    λ o e l r h. rw e (body-start a.text.now a.p.now o a.size.total a.size.distinct l r h)

pub put_entry-w-requires : goal.put_entry-w-requires
put_entry-w-requires c = let q = c.requires.distinct_le_total in
    let g =
    c.loop-i.invariant c.args.out.now (c.write_u32-2.ensures ∙ ap (put_at 4 (written 4 c.args.size.distinct)) c.write_u32.ensures) q.0 q.1
    c.requires.distinct_in_bounds in
    record { text_len_bound = c.requires.text_len_bound; text_in_bounds = rw c.wide.ensures (body-space g c.loop-i-test.true) }

pub loop-i-preserved : goal.loop-i-preserved
loop-i-preserved c = let e = c.put_entry-w.ensures in
    λ o q k r h. body-next (c.loop-i.invariant o q k r h) c.loop-i-test.true _ _ (rw c.wide.ensures at e.end) (rw c.wide.ensures at e.put)

pub returns : goal.returns
returns c = let q = c.requires.distinct_le_total in
    let g =
    c.loop-i.invariant c.args.out.now (c.write_u32-2.ensures ∙ ap (put_at 4 (written 4 c.args.size.distinct)) c.write_u32.ensures) q.0 q.1
    c.requires.distinct_in_bounds in
    body_end g c.loop-i-test.false
