-- What is left of a line; and the lines of a view joined behind all lines.
-- Assumes nothing.
use mathlib.Core.Path.{◌≡◌, refl, sym, ap, ap₂, ◌∙◌}
use mathlib.Core.Bool.{true, false}
use Rattle.std.proofs.Common.{Option, None, Some}
use mathlib.Core.List.{List, [], ◌∷◌, ◌++◌, map, append-nil}
use Prim.Native.Nat.{ℕ, zero, suc, ◌+◌, ◌-◌, ◌≤◌, ◌<◌}
use native.Mathlib.Omega.{arith}
use lib.ListN.{length, take, drop, set, length-append}
use lib.Seq.{slice, paste, length-slice, length-take-le, drop-drop}
use Rattle.lists.proofs.SliceLaws.{part_slice, slice_part, slice_first}
use Rattle.lists.proofs.WriteLaws.{Part, part_count, part-from, part-put, part_puts, part-space, part_source, part_end, part-there}
use Rattle.rules.specs.Bytes.{starts, trim, join}
use Rattle.rules.specs.Prefix.{strip}
use Rattle.rules.proofs.HitLaws.{starts-length}
use Rattle.slices.specs.declared.ends.ByteSpan.{ByteSpan}
use Rattle.slices.specs.Classes.{Classes, space_in}
use Rattle.slices.specs.Ends.{Bare}
use Rattle.slices.proofs.EndLaws.{bare-within, bare-trim}
use Rattle.slices.proofs.KindLaws.{by_table, space-table}
use Rattle.preproc_table.specs.Entries.{start_at, end_at, line_at, lines_from}
use Rattle.preproc_join.specs.Joins.{bytes_of, LiesBelow, Past, left, Left, Puts, Put, Added, view_lines, tails, Below, Joined}

-- ---- behind a prefix
module _ (area : List ℕ) (a e : ℕ) (p : ByteSpan) (h : a ≤ e) (k : e ≤ length area) (o : p.start ≤ p.end) (l : p.end ≤ length area) where
  abbrev P : List ℕ
  P = bytes_of area p

  lent : take (p.end - p.start) (drop p.start area) ≡ P
  lent = part_slice p.start p.end area

  long : length P ≡ p.end - p.start
  long = length-slice p.start p.end area l

  module _ (s : starts (take (p.end - p.start) (drop p.start area)) (slice a e area) ≡ true) where
    there : starts P (slice a e area) ≡ true
    there = ap (λ (w : List ℕ). starts w (slice a e area)) (sym lent) ∙ s

    pub past_fits : a + (p.end - p.start) ≤ e
    past_fits = omega (arith, starts-length P (slice a e area) there, long, length-slice a e area k)

    pub past-there : Past area a e p (a + (p.end - p.start))
    past-there =
        record { low = omega arith; high = past_fits; rest = rw (there, long) (sym (drop-drop (p.end - p.start) a (take e area))) }

  pub past-other : starts (take (p.end - p.start) (drop p.start area)) (slice a e area) ≡ false → Past area a e p a
  past-other s =
      let f : starts P (slice a e area) ≡ false = ap (λ (w : List ℕ). starts w (slice a e area)) (sym lent) ∙ s in
      record { low = omega arith; high = h; rest = rw f }

pub lies-below : {to w : ℕ} (p : Option ByteSpan) → to ≤ w → LiesBelow p to → LiesBelow p w
lies-below None h q = tt
lies-below (Some p) h q = (q.0, omega (arith, q.1))

left-on : (d d₀ l : List ℕ) (p : Option ByteSpan) (to : ℕ) → ((a e : ℕ) → e ≤ to → slice a e d ≡ slice a e d₀) → LiesBelow p to → left d p l ≡ left d₀ p l
unfolding left
left-on d d₀ l None to f q = refl
left-on d d₀ l (Some p) to f q = rw (f p.start p.end q.1)

-- ---- what is left of line i, from a up to e
module _ (area table : List ℕ) (i : ℕ) where
  module _ (a e : ℕ) (u : a ≡ start_at table i) (v : e ≡ end_at table i) (h : e ≤ length area) where
    pub left-plain : start_at table i ≤ end_at table i → Left area table i None (record { start = a; end = e })
    unfolding left line_at
    left-plain k = record { low = omega arith; order = omega arith; high = omega arith; bytes = rw (← u, ← v) }

    module _ (p : ByteSpan) (t : List ℕ) (k : ℕ) (s : ByteSpan) (q : Past area a e p k) (b : Bare (space_in t) (take (e - k) (drop k area)) s) where
      pub left-within : (s.start ≤ s.end) × (k + s.end ≤ e)
      left-within =
          let w = bare-within b in
          let m : length (take (e - k) (drop k area)) ≡ e - k = ap length (part_slice k e area) ∙ length-slice k e area h in
          omega (arith, q.high)

      pub left-strip : Classes t → Left area table i (Some p) (record { start = k + s.start; end = k + s.end })
      unfolding left line_at strip
      left-strip c =
          let w = left-within in
          let r : slice (k + s.start) (k + s.end) area ≡ trim (take (e - k) (drop k area)) =
          sym (slice_part s.start s.end (e - k) k area (omega arith)) ∙ bare-trim b (by_table space_in c space-table) in
          record {
            low = omega (arith, q.low);
            order = omega arith;
            high = omega arith;
            bytes = rw (← u, ← v) (r ∙ ap trim (part_slice k e area ∙ q.rest));
          }

module _ (area table : List ℕ) (i : ℕ) (p : Option ByteSpan) where
  pub left-length : {r : ByteSpan} → end_at table i ≤ length area → Left area table i p r → length (left area p (line_at area table i)) ≡ r.end - r.start
  left-length {r} h l = ap length (sym l.bytes) ∙ length-slice r.start r.end area (omega (arith, l.high))

-- an area that is the same up to `to` has the same there
module _ (d d₀ table : List ℕ) (i : ℕ) (p : Option ByteSpan) (to : ℕ) (s : take to d ≡ take to d₀) where
  same-part : (a e : ℕ) → e ≤ to → slice a e d ≡ slice a e d₀
  same-part a e h = sym (slice_first a e to d h) ∙ ap (slice a e) s ∙ slice_first a e to d₀ h

  pub left-same : end_at table i ≤ to → LiesBelow p to → left d p (line_at d table i) ≡ left d₀ p (line_at d₀ table i)
  unfolding line_at
  left-same h k = rw (same-part (start_at table i) (end_at table i) h) (left-on d d₀ (slice (start_at table i) (end_at table i) d₀) p to same-part k)

-- ---- joined: each line behind a newline, but for the first
pub join-tails : (l : List ℕ) (ls : List (List ℕ)) → join (l ∷ ls) ≡ l ++ tails ls
unfolding tails join
join-tails l [] = sym (append-nil l)
join-tails l (m ∷ ms) = ap (λ (r : List ℕ). l ++ 10 ∷ r) (join-tails m ms)

module _ (area table : List ℕ) (i end : ℕ) (p : Option ByteSpan) where
  pub view-next : i < end → view_lines area table i end p ≡ left area p (line_at area table i) ∷ view_lines area table (i + 1) end p
  unfolding view_lines lines_from
  view-next h =
      let q : end - i ≡ suc (end - (i + 1)) = omega arith in
      let r : suc i ≡ i + 1 = omega arith in
      rw (q, ← r)

  pub view-done : end ≤ i → view_lines area table i end p ≡ []
  unfolding view_lines lines_from
  view-done h =
      let q : end - i ≡ 0 = omega arith in
      rw q

-- ---- what is left of line i, copied
module _ {class area table : List ℕ} {i : ℕ} {p : Option ByteSpan} {to : ℕ} {s : ByteSpan} (q : Puts class area table i p to) (l : Left area table i p s) where
  within : end_at table i ≤ length area
  within = omega (arith, q.below, q.room)

  pub put_fits : (s.start + (s.end - s.start) ≤ to) × (to + (s.end - s.start) ≤ length area)
  put_fits = (omega (arith, l.order, l.high, q.below), omega (arith, q.room, left-length area table i p within l))

  pub put-there : {r : ℕ} {d : List ℕ} → r ≡ to + (s.end - s.start) → d ≡ paste area to (drop s.start area) (s.end - s.start) →
      Put area table i p to r d
  put-there e f = record { count = omega (arith, left-length area table i p within l); bytes = rw (← l.bytes, e, ← part_slice s.start s.end area) f }

-- ---- the lines are the same over areas that are the same below `to`
module _ {class table : List ℕ} {end : ℕ} {p : Option ByteSpan} {to : ℕ} (q : Below class table end p to) (d d₀ : List ℕ) (s : take to d ≡ take to d₀) where
  same_count : (n i : ℕ) → i + n ≤ end → map (left d p) (lines_from d table i n) ≡ map (left d₀ p) (lines_from d₀ table i n)
  unfolding lines_from
  same_count zero i h = refl
  same_count (suc n) i h =
      ap₂ (λ (l : List ℕ) (ls : List (List ℕ)). l ∷ ls) (left-same d d₀ table i p to s (q.below i (omega arith)) q.prefix)
      (same_count n (suc i) (omega arith))

  pub view-same : (i : ℕ) → i ≤ end → view_lines d table i end p ≡ view_lines d₀ table i end p
  unfolding view_lines
  view-same i h = same_count (end - i) i (omega arith)

  pub below_puts : (i : ℕ) {w : ℕ} → i < end → to ≤ w → w + length (left d₀ p (line_at d₀ table i)) ≤ length d → Puts class d table i p w
  below_puts i {w} h k r =
      record {
        classes = q.classes;
        entry = omega (arith, q.entries);
        order = q.order i h;
        below = omega (arith, q.below i h);
        prefix = lies-below p k q.prefix;
        room = rw (left-same d d₀ table i p to s (q.below i h) q.prefix) r;
      }

-- ---- the walk over the lines from `first` on, each behind a newline: those before i are there up to w
pub record Joining (d₀ d table : List ℕ) (first end : ℕ) (p : Option ByteSpan) (to i w : ℕ) : Type 0 where
  pub from : to ≤ w
  pub within : i ≤ end
  pub part : Part (take to d₀ ++ tails (view_lines d₀ table first end p)) (tails (view_lines d₀ table i end p)) d₀ d w

module _ (d₀ : List ℕ) (first : ℕ) {class table : List ℕ} {end : ℕ} {p : Option ByteSpan} {to : ℕ} (q : Below class table end p to) where
  abbrev line : ℕ → List ℕ
  line i = left d₀ p (line_at d₀ table i)

  pub joining_start : first ≤ end → to + length (tails (view_lines d₀ table first end p)) ≤ length d₀ → Joining d₀ d₀ table first end p to first to
  joining_start h r = record { from = omega arith; within = h; part = part-from to (tails (view_lines d₀ table first end p)) d₀ r }

  module _ {d : List ℕ} {i w : ℕ} (g : Joining d₀ d table first end p to i w) (h : i < end) where
    more : tails (view_lines d₀ table i end p) ≡ 10 ∷ (line i ++ tails (view_lines d₀ table (i + 1) end p))
    unfolding tails
    more = ap tails (view-next d₀ table i end p h)

    pub joining_room : w < length d
    joining_room = omega (arith, part-space (10 ∷ []) (line i ++ tails (view_lines d₀ table (i + 1) end p)) more g.part)

    marked : Part (take to d₀ ++ tails (view_lines d₀ table first end p)) (line i ++ tails (view_lines d₀ table (i + 1) end p)) d₀ (set d w 10) (w + 1)
    marked = part-put more g.part

    same : take to (set d w 10) ≡ take to d₀
    same = part_source to (tails (view_lines d₀ table first end p)) (omega (arith, g.from)) marked

    pub joining_puts : Puts class (set d w 10) table i p (w + 1)
    joining_puts =
        below_puts q (set d w 10) d₀ same i h (omega (arith, g.from))
        (part-space (line i) (tails (view_lines d₀ table (i + 1) end p)) refl marked)

    pub joining_more : {r : ℕ} {d' : List ℕ} → Put (set d w 10) table i p (w + 1) r d' → Joining d₀ d' table first end p to (i + 1) r
    joining_more {r} {d'} u =
        let s = left-same (set d w 10) d₀ table i p to same (q.below i h) q.prefix in
        let n : r ≡ w + 1 + length (line i) = u.count ∙ rw s in
        let b : d' ≡ take (w + 1) (set d w 10) ++ line i ++ drop r (set d w 10) = u.bytes ∙ rw s in
        record { from = omega (arith, g.from); within = omega arith; part = part_puts (line i) refl n b marked }

-- all lines
module _ {d₀ d table : List ℕ} {first end : ℕ} {p : Option ByteSpan} {to i w : ℕ} (g : Joining d₀ d table first end p to i w) where
  pub joining_end : end ≤ i → Added (tails (view_lines d₀ table first end p)) d₀ to w d
  unfolding tails
  joining_end h =
      let t = part_end (ap tails (view-done d₀ table i end p h)) g.part in
      let k : to ≤ length d₀ = omega (arith, g.from, g.part.at, g.part.long) in
      record {
        count = omega (arith, t.count, length-append (take to d₀) (tails (view_lines d₀ table first end p)), length-take-le to d₀ k);
        bytes = t.bytes;
      }

-- ---- the first line, and those behind it
module _ (d₀ : List ℕ) (first : ℕ) {class table : List ℕ} {end : ℕ} {p : Option ByteSpan} {to : ℕ} (q : Below class table end p to)
    (r : to + length (join (view_lines d₀ table first end p)) ≤ length d₀) where
  pub joined-none : end ≤ first → Joined (join (view_lines d₀ table first end p)) d₀ to 0 d₀
  unfolding join
  joined-none h =
      let e = view-done d₀ table first end p h in
      record { there = record { within = omega arith; count = rw e; bytes = rw e }; below = refl }

  module _ (h : first < end) where
    abbrev head : List ℕ
    head = left d₀ p (line_at d₀ table first)

    abbrev rest : List ℕ
    rest = tails (view_lines d₀ table (first + 1) end p)

    parts : join (view_lines d₀ table first end p) ≡ head ++ rest
    parts = ap join (view-next d₀ table first end p h) ∙ join-tails head (view_lines d₀ table (first + 1) end p)

    begun : Part (take to d₀ ++ join (view_lines d₀ table first end p)) (join (view_lines d₀ table first end p)) d₀ d₀ to
    begun = part-from to (join (view_lines d₀ table first end p)) d₀ r

    pub first_puts : Puts class d₀ table first p to
    first_puts = below_puts q d₀ d₀ refl first h (omega arith) (part-space head rest parts begun)

    module _ {w : ℕ} {d : List ℕ} (u : Put d₀ table first p to w d) where
      headed : Part (take to d₀ ++ join (view_lines d₀ table first end p)) rest d₀ d w
      headed = part_puts head parts u.count u.bytes begun

      still : take to d ≡ take to d₀
      still = part_source to (join (view_lines d₀ table first end p)) (omega (arith, u.count)) headed

      again : tails (view_lines d table (first + 1) end p) ≡ rest
      again = ap tails (view-same q d d₀ still (first + 1) (omega arith))

      pub rest_below : Below class table end p w
      rest_below =
          record {
            classes = q.classes;
            entries = q.entries;
            order = q.order;
            below = λ i l. omega (arith, q.below i l, u.count);
            prefix = lies-below p (omega (arith, u.count)) q.prefix;
          }

      pub rest-room : w + length (tails (view_lines d table (first + 1) end p)) ≤ length d
      rest-room = rw again (omega (arith, part_count headed, headed.fits, headed.long, length-append (take to d₀) (join (view_lines d₀ table first end p))))

      pub joined-all : {e : ℕ} {f : List ℕ} → Added (tails (view_lines d table (first + 1) end p)) d w e f →
          (to ≤ e) × Joined (join (view_lines d₀ table first end p)) d₀ to (e - to) f
      joined-all {e} {f} a =
          let n : e ≡ w + length rest = a.count ∙ rw again in
          let b : f ≡ take w d ++ rest ++ drop e d = a.bytes ∙ rw again in
          let g : Part (take to d₀ ++ join (view_lines d₀ table first end p)) [] d₀ f e = part_puts rest (sym (append-nil rest)) n b headed in
          let k : to ≤ e = omega (arith, u.count) in (
            k,
            record {
              there = part-there to (omega arith) refl (omega arith) g;
              below = part_source to (join (view_lines d₀ table first end p)) k g;
            },
          )
