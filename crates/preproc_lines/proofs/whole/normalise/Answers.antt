use mathlib.Core.Path.{◌≡◌, refl, ◌∙◌}
use mathlib.Core.List.{List}
use Prim.Native.Nat.{ℕ, ◌+◌, ◌*◌, ◌<◌, ◌≤◌, ◌-◌}
use native.Mathlib.Omega.{arith}
use lib.ListN.{length, take, drop}
use Rattle.rules.specs.Sizes.{text_most}
use Rattle.slices.specs.Classes.{gap_in}
use Rattle.preproc_lines.proofs.WholeLaws.{Normalising, going_start, piece-within, piece-length, end_top, going_on, going_end}
use Rattle.preproc_lines.proofs.whole.normalise.Goals as goal
use Rattle.preproc_lines.proofs.whole.normalise.Goals.{After-line_len}

-- what is known once the next line's length is: it lies in the text, and there is an entry for it
module _ (k : After-line_len) where
  abbrev source : List ℕ
  source = k.args.text.now

  abbrev len : ℕ
  len = k.line_len.result

  going : Normalising (gap_in k.args.class.now) source k.loop-at.area k.loop-at.words k.loop-at.at k.loop-at.to k.loop-at.count
  going = k.loop-at.invariant.3

  short : length source ≤ text_most
  short = k.requires.1

  inside : k.loop-at.at ≤ length source
  inside = omega (arith, k.loop-at-test.true, k.loop-at.invariant.0)

  room : 2 * k.loop-at.count + 1 < length k.loop-at.words
  room = omega (arith, going.few, inside, k.loop-at.invariant.2, k.requires.3)

  within : k.loop-at.at + len ≤ length source
  within = piece-within source k.loop-at.at len k.line_len.ensures inside

  long : length (take (k.loop-at.at + len - k.loop-at.at) (drop k.loop-at.at source)) ≡ len
  long = piece-length source k.loop-at.at len k.line_len.ensures inside

pub loop-at-init : goal.loop-at-init
loop-at-init c = (refl, refl, refl, going_start _ _ _ _)

pub overflow_add-end : goal.overflow_add-end
overflow_add-end c = omega (arith, within (goal.at.overflow_add-end c).After-line_len)

pub slice_bounds-put_line-end : goal.slice_bounds-put_line-end
slice_bounds-put_line-end c = omega (arith, within (goal.at.slice_bounds-put_line-end c).After-line_len)

pub put_line-line-requires : goal.put_line-line-requires
put_line-line-requires c = let line_len = (goal.at.put_line-line-requires c).After-line_len in
    (c.requires.0, omega (arith, long line_len, within line_len, (going line_len).low), omega (arith, long line_len, within line_len, (going line_len).fits, c.loop-at.invariant.1, c.requires.2))

pub set_line-requires : goal.set_line-requires
set_line-requires c = let line_len = (goal.at.set_line-requires c).After-line_len in
    let p = c.put_line-line.ensures in
    let v = end_top (source line_len) c.loop-at.at (len line_len) c.line_len.ensures (inside line_len) (going line_len) p (room line_len) in
    (room line_len, omega (arith, p.order, short line_len, v), omega (arith, short line_len, v))

pub overflow_add-to : goal.overflow_add-to
overflow_add-to c = let line_len = (goal.at.overflow_add-to c).After-line_len in
    omega (arith, c.put_line-line.ensures.high, long line_len, within line_len, (going line_len).fits, short line_len)

pub overflow_add-at : goal.overflow_add-at
overflow_add-at c = let line_len = (goal.at.overflow_add-at c).After-line_len in
    omega (arith, within line_len, short line_len)

pub overflow_add-count : goal.overflow_add-count
overflow_add-count c = let line_len = (goal.at.overflow_add-count c).After-line_len in
    omega (arith, (going line_len).few, inside line_len, short line_len)

pub loop-at-smaller : goal.loop-at-smaller
loop-at-smaller c = omega (arith, inside (goal.at.loop-at-smaller c).After-line_len)

pub loop-at-preserved : goal.loop-at-preserved
loop-at-preserved c = let line_len = (goal.at.loop-at-preserved c).After-line_len in
    (refl, c.put_line-line.auto.area ∙ c.loop-at.invariant.1, c.set_line.auto.table ∙ c.loop-at.invariant.2, rw c.set_line.ensures (going_on (source line_len) c.loop-at.at (len line_len) c.line_len.ensures (inside line_len) (going line_len) c.put_line-line.ensures (room line_len)))

pub returns : goal.returns
returns c = going_end (omega arith) c.loop-at.invariant.3
