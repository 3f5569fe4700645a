-- One line in the byte area: passes 2 to 5 after each other, and the trimmed line in what they leave.
-- Assumes nothing.
use mathlib.Core.Path.{◌≡◌, refl, sym, ap, ◌∙◌}
use mathlib.Core.Bool.{Bool, false, not}
use mathlib.Core.List.{List, ◌++◌}
use Prim.Native.Nat.{ℕ, ◌+◌, ◌-◌, ◌*◌, ◌≤◌}
use native.Mathlib.Omega.{arith}
use lib.ListN.{length, take, drop, length-take}
use lib.Seq.{slice, length-take-le, take_at, drop_at, take-append-le}
use Rattle.lists.specs.Wrote.{Wrote, InFront}
use Rattle.lists.proofs.SliceLaws.{part_slice, part_at, slice_part}
use Rattle.lists.proofs.ChainLaws.{front_of, wrote-behind, wrote-before, wrote-from, wrote-end}
use Rattle.rules.specs.Bytes.{space, dropped, keep, runs, trim}
use Rattle.rules.specs.Points.{points}
use Rattle.rules.specs.Lines.{urls, signs, line_by}
use Rattle.rules.proofs.GrowthLaws.{keep-length, runs-length, signs-length, urls-length}
use Rattle.points.proofs.ReadLaws.{points-length}
use Rattle.slices.specs.declared.ends.ByteSpan.{ByteSpan}
use Rattle.slices.specs.Ends.{Bare}
use Rattle.slices.proofs.EndLaws.{bare-within, bare-trim}
use Rattle.preproc_lines.specs.Placed.{untrimmed, Filled, Placed}

line-trim : (set : ℕ → Bool) (s : List ℕ) → trim (untrimmed set s) ≡ line_by set s
unfolding line_by untrimmed
line-trim set s = refl

abbrev kept : List ℕ → List ℕ
kept s = keep (λ x. not (dropped x)) (points s)

kept-length : (s : List ℕ) → length (kept s) ≤ length s
kept-length s = omega (arith, keep-length (λ x. not (dropped x)) (points s), points-length s)

-- ---- passes 2 and 3: the line in the scratch front, then from `to` on
module _ (src : List ℕ) (to : ℕ) {d₀ d₁ : List ℕ} {n₂ : ℕ} (fits : length src ≤ to) (room : to + 3 * length src ≤ length d₁) (two : Wrote (kept src) d₀ n₂ d₁) where
  pub kept-short : n₂ ≤ length src
  kept-short = omega (arith, two.count, kept-length src)

  pub urls-room : to + length (urls false (take n₂ d₁)) ≤ length d₁
  urls-room = omega (arith, urls-length (take n₂ d₁), length-take-le n₂ d₁ (omega (arith, kept-short)), kept-short)

  module _ {d₂ : List ℕ} {e : ℕ} (three : Wrote (take to d₁ ++ urls false (take n₂ d₁)) d₁ e d₂) where
    three_end : e ≡ to + length (urls false (take n₂ d₁))
    three_end = wrote-end to _ (omega arith) three

    pub urls-end-low : to ≤ e
    urls-end-low = omega (arith, three_end)

    pub urls-end-high : e ≤ length d₁
    urls-end-high = omega (arith, three_end, urls-room)

    three_bytes : slice to e d₂ ≡ urls false (kept src)
    three_bytes = wrote-from to _ (omega arith) three ∙ ap (urls false) (front_of two).bytes

    -- what passes 4 and 5 are handed: the part `&mut area[to..end]`
    three_part : take (e - to) (drop to d₂) ≡ urls false (kept src)
    three_part = part_slice to e d₂ ∙ three_bytes

    three_length : length (urls false (kept src)) ≤ 3 * length src
    three_length = omega (arith, urls-length (kept src), kept-length src)

    three_same : slice (length src) to d₂ ≡ slice (length src) to d₀
    three_same =
        ap (drop (length src)) (wrote-before to _ (omega arith) three)
        ∙ sym (part_slice (length src) to d₁)
        ∙ ap (take (to - length src)) (wrote-behind (length src) kept-short two)
        ∙ part_slice (length src) to d₀

    -- what they leave, with the part back in its place
    pub fill_done : (set : ℕ → Bool) {n₅ : ℕ} (ys post : List ℕ) → length d₂ ≡ length d₁ → InFront (signs (runs set 32 false (take (e - to) (drop to d₂)))) n₅ ys →
        Filled set src d₀ to (to + n₅) (take to d₂ ++ (ys ++ post))
    unfolding untrimmed
    fill_done set {n₅} ys post long f =
        let l : length (take to d₂) ≡ to = length-take-le to d₂ (omega arith) in
        let g : InFront (signs (runs set 32 false (urls false (kept src)))) n₅ ys = rw three_part at f in
        record {
          low = omega arith;
          high = omega (arith, g.count, signs-length (runs set 32 false (urls false (kept src))), runs-length set 32 (omega arith) false (urls false (kept src)), three_length);
          bytes = sym (part_at to n₅ (take to d₂ ++ (ys ++ post))) ∙ ap (take n₅) (drop_at (take to d₂) (ys ++ post) to l) ∙ take-append-le n₅ ys post g.within ∙ g.bytes;
          same = ap (drop (length src)) (take_at (take to d₂) (ys ++ post) to l) ∙ three_same;
        }

-- ---- pass 6: the ends
module _ {src d₀ d : List ℕ} {to r : ℕ} {set p : ℕ → Bool} {s : ByteSpan} (f : Filled set src d₀ to r d) (b : Bare p (take (r - to) (drop to d)) s) where
  pub bare-most : (s.start ≤ s.end) × (to + s.end ≤ r)
  bare-most =
      let w = bare-within b in
      (w.0, omega (arith, f.low, w.1, length-take (r - to) (drop to d)))

  pub placed : p ≡ space → Placed set src d₀ to (record { start = to + s.start; end = to + s.end }) d
  placed e =
      let m = bare-most in
      record {
        low = omega arith;
        order = omega (arith, m.0);
        high = omega (arith, m.1, f.high);
        bytes = sym (slice_part s.start s.end (r - to) to d (omega (arith, f.low, m.1))) ∙ bare-trim b e ∙ ap trim (part_slice to r d ∙ f.bytes) ∙ line-trim set src;
        same = f.same;
      }
