use mathlib.Core.Path.{◌≡◌, refl, ◌∙◌}
use mathlib.Core.Bool.{cond}
use mathlib.Core.List.{List, [], ◌∷◌, ◌++◌}
use Prim.Native.Nat.{ℕ, ◌+◌, ◌-◌, ◌<◌, ◌≤◌}
use native.Mathlib.Omega.{arith}
use lib.Dec.{ltb}
use lib.ListN.{length, take, drop}
use Rattle.lists.proofs.WriteLaws.{part-start, part_skip, part_room, part-space, part_end}
use Rattle.rules.specs.Points.{encoded}
use Rattle.questions.specs.Hex.{hexed}
use Rattle.questions.proofs.PutLaws.{part-wrote}
use Rattle.preproc_table.specs.Entries.{lines_from}
use Rattle.replay_lines.specs.Told.{told}
use Rattle.replay_lines.proofs.ToldLaws.{line-part, length_part, told-step, told-start, told-end}
use Rattle.replay_lines.proofs.put_lines.Goals as goal
use Rattle.replay_lines.proofs.put_lines.Goals.{After-line_end-e}

-- what is known once a line's ends are
module _ (k : After-line_end-e) where
  abbrev A : List ℕ
  A = k.args.area.now

  abbrev T : List ℕ
  T = k.args.table.now

  abbrev a : ℕ
  a = k.line_start-a.result

  abbrev e : ℕ
  e = k.line_end-e.result

  below : k.loop-i.i < k.args.count
  below = k.loop-i-test.true

  order : a ≤ e
  order = omega (arith, k.requires.2.order k.loop-i.i below, k.line_start-a.ensures, k.line_end-e.ensures)

  high : e ≤ length A
  high = omega (arith, k.requires.2.high k.loop-i.i below, k.line_end-e.ensures)

  step : (mark : ℕ) → mark ≡ cond (ltb (k.loop-i.i + 1) k.args.count) 32 10 →
      told (lines_from A T k.loop-i.i (k.args.count - k.loop-i.i)) ≡ hexed (encoded (take (e - a) (drop a A))) ++ mark ∷ told (lines_from A T (k.loop-i.i + 1) (k.args.count - (k.loop-i.i + 1)))
  step mark m =
      told-step A T k.loop-i.i k.args.count mark below m
      ∙ rw (line-part A T k.loop-i.i a e k.line_start-a.ensures k.line_end-e.ensures)

pub loop-i-init : goal.loop-i-init
loop-i-init c = (refl, omega arith, part_skip (told-start _ _ _) (part-start _ _ c.requires.3))

pub slice_bounds-put_line_hex-count : goal.slice_bounds-put_line_hex-count
slice_bounds-put_line_hex-count c = order (goal.at.slice_bounds-put_line_hex-count c).After-line_end-e

pub slice_bounds-put_line_hex-start : goal.slice_bounds-put_line_hex-start
slice_bounds-put_line_hex-start c = omega (arith, order (goal.at.slice_bounds-put_line_hex-start c).After-line_end-e)

pub slice_bounds-put_line_hex-end : goal.slice_bounds-put_line_hex-end
slice_bounds-put_line_hex-end c = omega (arith, high (goal.at.slice_bounds-put_line_hex-end c).After-line_end-e)

pub put_line_hex-h-requires : goal.put_line_hex-h-requires
put_line_hex-h-requires c = let line_end = (goal.at.put_line_hex-h-requires c).After-line_end-e in
    let n : length (take (e line_end - a line_end) (drop (a line_end) (A line_end))) ≤ length (A line_end) = length_part (a line_end) (e line_end) (A line_end) in
    (omega (arith, n, c.requires.0, c.loop-i.invariant.0), part-space (hexed (encoded (take (e line_end - a line_end) (drop (a line_end) (A line_end))))) _ (step line_end _ refl) c.loop-i.invariant.2)

pub put_byte-w-requires : goal.put_byte-w-requires
put_byte-w-requires c = part_room refl (part-wrote _ (step (goal.at.put_byte-w-requires c).After-line_end-e _ refl) c.put_line_hex-h.ensures c.loop-i.invariant.2)

pub loop-i-preserved : goal.loop-i-preserved
loop-i-preserved c = let line_end = (goal.at.loop-i-preserved c).After-line_end-e in (
  c.put_line_hex-h.auto.scratch ∙ c.loop-i.invariant.0,
  omega (arith, below line_end),
  part-wrote (c.mark_behind-mark.result ∷ []) refl c.put_byte-w.ensures (part-wrote _ (step line_end _ c.mark_behind-mark.ensures) c.put_line_hex-h.ensures c.loop-i.invariant.2),
)

pub returns : goal.returns
returns c = part_end (told-end _ _ _ _ c.loop-i-test.false) c.loop-i.invariant.2
