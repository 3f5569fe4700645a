use mathlib.Core.Path.{sym, ◌∙◌}
use native.Mathlib.Omega.{arith}
use Rattle.lists.proofs.SliceLaws.{slice_done}
use Rattle.lists.proofs.WriteLaws.{part-from, part_room, part-put, part_skip, part_puts, part-space, part_end, below_next, below-part}
use Rattle.rules.specs.Bytes.{text}
use Rattle.preproc_urls.proofs.UrlLaws.{urls-on, urls-hit, urls_miss, urls-end}
use Rattle.preproc_urls.proofs.blackbox_urls.Goals as goal
use Rattle.preproc_urls.proofs.blackbox_urls.Goals.{then-inside, else-inside}

pub loop-i-init : goal.loop-i-init
loop-i-init c = (omega arith, part-from _ _ _ c.requires.2)

pub loop-i-preserved-then-goes_on : goal.loop-i-preserved-then-goes_on
loop-i-preserved-then-goes_on c = let v = c.loop-i.invariant in
    (v.0, part_skip (urls-on _ _ (below_next _ _ _ _ c.requires.1 v.0 v.1 c.loop-i-test.true) (sym c.goes_on.ensures ∙ c.if-goes_on.true)) v.1)

pub put-w-requires : goal.put-w-requires
unfolding text
put-w-requires c = let v = c.loop-i.invariant in
    part-space (text "http://blackboxed/url") _ (urls-hit _ _ (below_next _ _ _ _ c.requires.1 v.0 v.1 c.loop-i-test.true) (sym c.goes_on.ensures ∙ c.if-goes_on.false) (sym (c.is_url-inside.ensures ∙ rw (below-part _ _ _ _ c.requires.1 v.0 v.1)) ∙ c.if-inside.true)) v.1

pub bounds-area-w : goal.bounds-area-w
bounds-area-w c = let v = c.loop-i.invariant in
    part_room (urls_miss _ _ (below_next _ _ _ _ c.requires.1 v.0 v.1 c.loop-i-test.true) (sym c.goes_on.ensures ∙ c.if-goes_on.false) (sym (c.is_url-inside.ensures ∙ rw (below-part _ _ _ _ c.requires.1 v.0 v.1)) ∙ c.if-inside.false)) v.1

pub loop-i-preserved : goal.loop-i-preserved
unfolding text
loop-i-preserved c = let v = c.loop-i.invariant in
    let next = below_next _ _ _ _ c.requires.1 v.0 v.1 c.loop-i-test.true in
    elim c.if-inside.branch [
      | then-inside w ↦
          rw (w.area-is, w.w-is, w.if-inside.true) (
            omega (arith, w.put-w.ensures.0),
            part_puts (text "http://blackboxed/url") (urls-hit _ _ next (sym c.goes_on.ensures ∙ c.if-goes_on.false) (sym (c.is_url-inside.ensures ∙ rw (below-part _ _ _ _ c.requires.1 v.0 v.1)) ∙ w.if-inside.true)) w.put-w.ensures.0 w.put-w.ensures.1 v.1,
          )
      | else-inside w ↦
          rw (w.area-is, w.w-is, w.if-inside.false)
          (omega arith, part-put (urls_miss _ _ next (sym c.goes_on.ensures ∙ c.if-goes_on.false) (sym (c.is_url-inside.ensures ∙ rw (below-part _ _ _ _ c.requires.1 v.0 v.1)) ∙ w.if-inside.false)) v.1)
    ]

pub returns : goal.returns
returns c = part_end (urls-end _ (slice_done _ _ _ c.loop-i-test.false)) c.loop-i.invariant.1
