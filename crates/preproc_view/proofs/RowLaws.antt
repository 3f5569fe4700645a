-- The rows of passes before and behind the title, by the table of the classes; and the whole row.
-- Assumes nothing.
use mathlib.Core.Path.{◌≡◌, sym, ap, ◌∙◌}
use mathlib.Core.Bool.{Bool, true, false, ◌||◌}
use mathlib.Core.List.{List, map, ◌++◌}
use Prim.Native.Nat.{ℕ, ◌+◌, ◌-◌, ◌≤◌}
use native.Mathlib.Omega.{arith}
use lib.ListN.{length, take, drop, length-append, length-take, length-drop, length-map}
use lib.Seq.{slice, take_at, drop_at, length-take-le, take-append-le}
use Rattle.lists.specs.Wrote.{InFront}
use Rattle.lists.proofs.SliceLaws.{part_slice, part-rest, slice_shift, slice_first}
use Rattle.rules.specs.Bytes.{space, word, lead, keep, runs, trim}
use Rattle.rules.specs.Points.{encoded}
use Rattle.rules.proofs.GrowthLaws.{weight, width, two, width-encoded, weight-front, first-weight, without-within, runs-weight, trim-lead}
use Rattle.points.specs.Spread.{Spread}
use Rattle.rules.specs.Passes.{lowered, without_title, without_copyright, passes}
use Rattle.slices.specs.declared.ends.ByteSpan.{ByteSpan}
use Rattle.slices.specs.Classes.{Classes, kept_in, space_in, vertical_in}
use Rattle.slices.specs.Ends.{Bare}
use Rattle.slices.proofs.EndLaws.{bare-within, bare-trim}
use Rattle.slices.proofs.KindLaws.{by_table, space-table, vertical-table, kept_table}
use Rattle.preproc_runs.specs.Capped.{capped}
use Rattle.preproc_runs.proofs.PassLaws.{vertical-capped}
use Rattle.preproc_view.specs.Rows.{StandsAt, first_passes, last_passes}

-- lower case keeps the length, and so what a pass left in front stands there in lower case
pub in-lower : {out b p : List ℕ} {n : ℕ} → InFront out n b → p ≡ map lowered (take n b) → (rest : List ℕ) → InFront (map lowered out) n (p ++ rest)
in-lower {out} {b} {p} {n} f e rest =
    let q : p ≡ map lowered out = e ∙ ap (map lowered) f.bytes in
    let l : length p ≡ n = ap length q ∙ length-map out lowered ∙ sym f.count in
    record { within = rw length-append (omega (arith, l)); count = sym l ∙ ap length q; bytes = take_at p rest n l ∙ q }

-- a part of the front, written over, leaves the whole as long as it was
pub whole-length : (n : ℕ) (d p : List ℕ) → length p ≡ length (take n d) → length (p ++ drop n d) ≡ length d
whole-length n d p e = rw (length-append, length-drop, e, length-take) (omega arith)

module _ (t : List ℕ) (e : Classes t) where
  pub first-row : (s : List ℕ) → map lowered (keep (kept_in t) (capped (vertical_in t) 10 2 0 s)) ≡ first_passes s
  unfolding first_passes
  first-row s =
      ap (λ (f : ℕ → Bool). map lowered (keep f (capped (vertical_in t) 10 2 0 s))) (by_table kept_in e kept_table) ∙
      ap (λ (f : ℕ → Bool). map lowered (keep (λ x. word x || space x) (capped f 10 2 0 s))) (by_table vertical_in e vertical-table) ∙
      ap (λ (l : List ℕ). map lowered (keep (λ x. word x || space x) l)) (vertical-capped 0 s)

  -- what is bare of the spaces around it, of the first n
  pub last_row : (s : List ℕ) {d : List ℕ} {n : ℕ} {r : ByteSpan} → InFront (runs (space_in t) 32 false (without_copyright true true 0 s)) n d →
      Bare (space_in t) (take n d) r → StandsAt (last_passes s) d r
  unfolding last_passes
  last_row s {d} {n} {r} f b =
      let k = by_table space_in e space-table in
      let w = bare-within b in
      let m = length-take-le n d f.within in
      let h : r.end ≤ n = omega arith in
      let o : take n d ≡ runs space 32 false (without_copyright true true 0 s) =
      f.bytes ∙ ap (λ (p : ℕ → Bool). runs p 32 false (without_copyright true true 0 s)) k in
      record {
        from = w.0;
        to = omega arith;
        bytes = sym (slice_first r.start r.end n d h) ∙ bare-trim b k ∙ ap trim o;
      }

  -- where it starts, and how long it is as UTF-8
  pub last-room : (s : List ℕ) {d : List ℕ} {n : ℕ} {r : ByteSpan} → InFront (runs (space_in t) 32 false (without_copyright true true 0 s)) n d →
      Bare (space_in t) (take n d) r → r.start + length (encoded (last_passes s)) ≤ length (encoded s)
  unfolding last_passes
  last-room s {d} {n} {r} f b =
      let k = by_table space_in e space-table in
      let six = without_copyright true true 0 s in
      let o : take n d ≡ runs space 32 false six = f.bytes ∙ ap (λ (p : ℕ → Bool). runs p 32 false six) k in
      let a : lead (space_in t) (take n d) ≡ lead space (runs space 32 false six) = ap (λ (p : ℕ → Bool). lead p (take n d)) k ∙ ap (lead space) o in
      omega (
        arith,
        b.start,
        a,
        trim-lead two (runs space 32 false six),
        runs-weight two space 32 (omega arith) false six,
        without-within two true true 0 s,
        width-encoded s,
        width-encoded (trim (runs space 32 false six)),
      )

-- it is written as UTF-8 in its place
pub stands_spread : {out d₀ d : List ℕ} {r : ByteSpan} {end : ℕ} → StandsAt out d₀ r → Spread d₀ r.start r.end end d → StandsAt (encoded out) d (record { start = r.start; end = end })
stands_spread p q = record { from = q.low; to = q.high; bytes = q.bytes ∙ ap encoded p.bytes }

-- what stands in a part d that was lent from t on stands there in the whole; e stands behind the part
pub stands-lent : {out : List ℕ} {r : ByteSpan} (t : ℕ) (b d e : List ℕ) → t ≤ length b → StandsAt out d r →
    StandsAt out (take t b ++ (d ++ e)) (record { start = t + r.start; end = t + r.end })
stands-lent {out} {r} t b d e h p =
    let k : length (take t b) ≡ t = length-take-le t b h in
    let q : drop t (take t b ++ (d ++ e)) ≡ d ++ e = drop_at (take t b) (d ++ e) t k in
    let z : slice r.start r.end (d ++ e) ≡ slice r.start r.end d = ap (drop r.start) (take-append-le r.end d e p.to) in
    record {
      from = omega (arith, p.from);
      to = rw (length-append, length-append, k) (omega (arith, p.to));
      bytes = sym (slice_shift t r.start r.end (take t b ++ (d ++ e))) ∙ ap (slice r.start r.end) q ∙ z ∙ p.bytes;
    }

-- the title goes, and the last passes work behind it, on the part that is lent
module _ (s b : List ℕ) (m title : ℕ) (f : InFront (first_passes s) m b) (l : title ≤ length (take m b)) where
  abbrev lent : List ℕ
  lent = take (m - title) (take (length b - title) (drop title b))

  lent-rest : lent ≡ drop title (take m b)
  lent-rest = rw (part-rest title b) (part_slice title m b)

  title_within : title ≤ length b
  title_within = omega (arith, f.within, length-take-le m b f.within)

  -- there is room behind it
  pub lent-room : length (encoded s) ≤ length b → title + length (encoded lent) ≤ length b
  unfolding first_passes
  lent-room h =
      omega (
        arith,
        ap (λ (x : List ℕ). length (encoded x)) lent-rest,
        width-encoded (drop title (take m b)),
        weight-front two title (take m b) l,
        ap (weight width) f.bytes,
        first-weight two s,
        width-encoded s,
      )

  pub whole_row : (d e : List ℕ) (r : ByteSpan) → without_title (take m b) ≡ drop title (take m b) → StandsAt (encoded (last_passes lent)) d r →
      StandsAt (encoded (passes s)) (take title b ++ (d ++ e)) (record { start = title + r.start; end = title + r.end })
  unfolding passes first_passes last_passes
  whole_row d e r t p =
      let i : lent ≡ without_title (first_passes s) = lent-rest ∙ sym t ∙ ap without_title f.bytes in
      stands-lent title b d e title_within (rw i at p)
