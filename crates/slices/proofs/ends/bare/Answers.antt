-- `bare` is the two counts.
-- Assumes nothing.
use mathlib.Core.Path.{◌≡◌, ap, ◌∙◌}
use native.Mathlib.Omega.{arith}
use lib.ListN.{drop, length-drop}
use Rattle.lists.proofs.SliceLaws.{part-rest}
use Rattle.rules.specs.Bytes.{lead}
use Rattle.slices.specs.Classes.{in_class}
use Rattle.slices.specs.Ends.{kept_len}
use Rattle.rules.proofs.PlaceLaws.{lead-most}
use Rattle.slices.proofs.EndLaws.{kept-most}
use Rattle.slices.proofs.ends.bare.Goals as goal

pub slice_bounds-rest-count : goal.slice_bounds-rest-count
slice_bounds-rest-count c = let a = c.args in
    omega (arith, c.run_len-start.ensures, lead-most (in_class a.class.now a.lo a.hi) a.s.now)

pub slice_bounds-rest-start : goal.slice_bounds-rest-start
slice_bounds-rest-start c = let a = c.args in
    omega (arith, c.run_len-start.ensures, lead-most (in_class a.class.now a.lo a.hi) a.s.now)

pub overflow_add-result : goal.overflow_add-result
overflow_add-result c = let a = c.args in
    let s = a.s.now in
    let p = in_class a.class.now a.lo a.hi in
    let e : c.trimmed_end-len.result ≡ kept_len p (drop c.run_len-start.result s) = c.trimmed_end-len.ensures ∙ ap (kept_len p) (part-rest c.run_len-start.result s) in
    omega (arith, c.run_len-start.ensures, lead-most p s, kept-most p (drop c.run_len-start.result s), length-drop c.run_len-start.result s)

pub returns : goal.returns
returns c = let a = c.args in
    let s = a.s.now in
    let p = in_class a.class.now a.lo a.hi in
    let e : c.trimmed_end-len.result ≡ kept_len p (drop c.run_len-start.result s) = c.trimmed_end-len.ensures ∙ ap (kept_len p) (part-rest c.run_len-start.result s) in
    let g : c.run_len-start.result ≡ lead p s = c.run_len-start.ensures in
    record { start = g; end = rw (e, g) }
