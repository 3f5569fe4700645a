use mathlib.Core.Path.{◌≡◌, refl, sym, ap, ◌∙◌}
use mathlib.Core.List.{List}
use Prim.Native.Nat.{ℕ, ◌+◌, ◌-◌, ◌*◌, ◌≤◌, ◌<◌}
use native.Mathlib.Omega.{arith}
use lib.Dec.{ltb}
use lib.ListN.{length}
use lib.Seq.{slice}
use Rattle.lists.proofs.SliceLaws.{part_slice}
use Rattle.rules.specs.Points.{encoded}
use Rattle.slices.specs.declared.ends.ByteSpan.{ByteSpan}
use Rattle.preproc_table.specs.Entries.{start_at}
use Rattle.prefix_list.proofs.ListLaws.{listing_start, listing_lies, listing_room, listing_skip, listing_put, listing_end}
use Rattle.prefix_list.proofs.list_prefixes.Goals as goal
use Rattle.prefix_list.proofs.list_prefixes.Goals.{After-longer_than, After-shared-s, In-loop-i, then-longer_than, else-longer_than}

-- what is known where the loop goes on
module _ (c : In-loop-i) where
  abbrev area₀ : List ℕ
  area₀ = c.args.area.now

  abbrev table₀ : List ℕ
  table₀ = c.args.words.now

  abbrev stop : ℕ
  stop = c.args.v.end

-- and once lines i and i + 1 are compared
module _ (s : After-shared-s) where
  abbrev in_loop_i_of_s : In-loop-i
  in_loop_i_of_s = (goal.at.After-shared-s s).In-loop-i

  abbrev span : ByteSpan
  span = s.shared-s.result

  room : (span.start ≤ span.end) × (span.end ≤ s.loop-i.w)
      × (s.loop-i.w + (span.end - span.start) + 1 ≤ 3 * s.args.n + start_at (table₀ in_loop_i_of_s) (s.loop-i.i + 1))
      × (s.loop-i.w + (span.end - span.start) < 7 * s.args.n)
  room =
      listing_room s.args.n s.args.count (stop in_loop_i_of_s) (area₀ in_loop_i_of_s) (table₀ in_loop_i_of_s) s.requires.classes.1 s.requires.classes.3 s.requires.classes.4 s.requires.n_le_text_most.1 s.requires.n_le_text_most.2
      s.args.v.start s.loop-i.area s.loop-i.words s.loop-i.k s.loop-i.w s.loop-i.i s.loop-i.invariant (omega (arith, s.saturating_sub-last.ensures)) span s.shared-s.ensures

pub loop-i-init : goal.loop-i-init
loop-i-init c = rw c.view_start-w.ensures
    (listing_start c.args.n c.args.count c.args.v.end c.args.area.now c.args.words.now c.requires.classes.1 c.requires.classes.3 c.requires.classes.4 c.requires.n_le_text_most.1 c.requires.n_le_text_most.2
    c.args.v.start c.requires.classes.2)

pub shared-s-requires : goal.shared-s-requires
shared-s-requires c = let in_loop_i = (goal.at.shared-s-requires c).In-loop-i in
    let l = c.loop-i.invariant in (
      c.requires.classes.0,
      omega (arith, c.saturating_sub-last.ensures, c.requires.classes.3, c.requires.classes.4, c.requires.n_le_text_most.2, l.table-long),
      listing_lies c.args.n c.args.count (stop in_loop_i) (area₀ in_loop_i) (table₀ in_loop_i) c.requires.classes.1 c.requires.classes.3 c.requires.classes.4 c.requires.n_le_text_most.1 c.requires.n_le_text_most.2
          c.args.v.start c.loop-i.area c.loop-i.words c.loop-i.k c.loop-i.w c.loop-i.i c.loop-i.invariant (omega (arith, c.saturating_sub-last.ensures)),
    )

pub overflow_sub-len : goal.overflow_sub-len
overflow_sub-len c = omega (arith, room (goal.at.overflow_sub-len c).After-shared-s)

pub slice_bounds-longer_than-count : goal.slice_bounds-longer_than-count
slice_bounds-longer_than-count c = omega (arith, room (goal.at.slice_bounds-longer_than-count c).After-shared-s)

pub slice_bounds-longer_than-end : goal.slice_bounds-longer_than-end
slice_bounds-longer_than-end c = let r = room (goal.at.slice_bounds-longer_than-end c).After-shared-s in
    omega (arith, c.loop-i.invariant.area_long, c.loop-i.invariant.high, c.requires.n_le_text_most.1)

-- what the test of the length says of the prefix
module _ (l : After-longer_than) where
  abbrev shared_of_l : After-shared-s
  shared_of_l = (goal.at.After-longer_than l).After-shared-s

  long_as : ltb 3 (length (encoded (slice (span shared_of_l).start (span shared_of_l).end l.loop-i.area))) ≡ l.longer_than.result
  long_as = ap (λ (p : List ℕ). ltb 3 (length (encoded p))) (sym (part_slice (span shared_of_l).start (span shared_of_l).end l.loop-i.area)) ∙ sym l.longer_than.ensures

pub put_prefix-requires : goal.put_prefix-requires
put_prefix-requires c = let r = room (goal.at.put_prefix-requires c).After-shared-s in
    (omega arith, omega (arith, c.loop-i.invariant.area_long, c.requires.n_le_text_most.1))

pub overflow_add-j : goal.overflow_add-j
overflow_add-j c = let l = c.loop-i.invariant in
    omega (arith, c.table_end-at.ensures, l.few, l.within, c.requires)

pub overflow_cast-words : goal.overflow_cast-words
overflow_cast-words c = omega (arith, c.loop-i.invariant.high, c.requires.n_le_text_most.0)

pub bounds-words-j : goal.bounds-words-j
bounds-words-j c = let l = c.loop-i.invariant in
    omega (arith, c.table_end-at.ensures, l.few, l.within, l.table-long, c.requires.classes.3, c.requires.classes.4, c.requires.n_le_text_most.2)

pub overflow_add-w : goal.overflow_add-w
overflow_add-w c = omega (arith, room (goal.at.overflow_add-w c).After-shared-s, c.requires.n_le_text_most.0)

pub overflow_add-w-then-longer_than : goal.overflow_add-w-then-longer_than
overflow_add-w-then-longer_than c = omega (arith, room (goal.at.overflow_add-w-then-longer_than c).After-shared-s, c.requires.n_le_text_most.0)

pub loop-i-preserved : goal.loop-i-preserved
loop-i-preserved c = let in_loop_i = (goal.at.loop-i-preserved c).In-loop-i in
    let shared = (goal.at.loop-i-preserved c).After-shared-s in
    let told = long_as (goal.at.loop-i-preserved c).After-longer_than in
    elim c.if-longer_than.branch [
      | then-longer_than w ↦ rw (w.area-is, w.words-is, w.k-is, w.w-is, c.table_end-at.ensures)
          (listing_put c.args.n c.args.count (stop in_loop_i) (area₀ in_loop_i) (table₀ in_loop_i) c.requires.classes.1 c.requires.classes.3 c.requires.classes.4 c.requires.n_le_text_most.1 c.requires.n_le_text_most.2
          c.args.v.start c.loop-i.area c.loop-i.words c.loop-i.k c.loop-i.w c.loop-i.i c.loop-i.invariant (omega (arith, c.saturating_sub-last.ensures)) (span shared) c.shared-s.ensures
          ((span shared).end - (span shared).start) refl (told ∙ w.if-longer_than.true) _ w.put_prefix.auto.area w.put_prefix.ensures)
      | else-longer_than w ↦ rw (w.area-is, w.words-is, w.k-is, w.w-is)
          (listing_skip c.args.n c.args.count (stop in_loop_i) (area₀ in_loop_i) (table₀ in_loop_i) c.requires.classes.1 c.requires.classes.3 c.requires.classes.4 c.requires.n_le_text_most.1 c.requires.n_le_text_most.2
          c.args.v.start c.loop-i.area c.loop-i.words c.loop-i.k c.loop-i.w c.loop-i.i c.loop-i.invariant (omega (arith, c.saturating_sub-last.ensures)) (span shared) c.shared-s.ensures (told ∙ w.if-longer_than.false))
    ]

pub returns : goal.returns
returns c = listing_end c.loop-i.invariant (omega (arith, c.saturating_sub-last.ensures)) (omega (arith, c.requires.classes.3, c.requires.classes.4))
