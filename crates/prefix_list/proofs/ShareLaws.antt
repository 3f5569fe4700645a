-- What two lines have in common, as bytes of the first (`shared-there`); and the prefixes of a view's lines, line after line.
-- Assumes nothing.
use mathlib.Core.Path.{◌≡◌, refl, sym, ap, subst, ◌∙◌}
use mathlib.Core.Bool.{Bool, true, false, cond}
use mathlib.Core.List.{List, [], ◌∷◌, ◌++◌}
use Prim.Native.Nat.{ℕ, zero, suc, ◌+◌, ◌-◌, ◌*◌, ◌≤◌, ◌<◌}
use native.Mathlib.Numerals.{add-one}
use native.Mathlib.Omega.{arith}
use lib.Dec.{ltb, eqb}
use lib.ListN.{length, take, drop, length-drop}
use lib.Seq.{slice, take-take, length-take-le}
use Rattle.lists.proofs.SliceLaws.{part_slice, slice_part}
use Rattle.rules.specs.Bytes.{space, trim, same}
use Rattle.rules.specs.Points.{encoded}
use Rattle.rules.specs.Prefix.{common, prefixes}
use Rattle.rules.specs.Table.{occurs}
use Rattle.slices.specs.Ends.{Bare}
use Rattle.slices.specs.declared.ends.ByteSpan.{ByteSpan}
use Rattle.slices.proofs.EndLaws.{bare-within, bare-trim}
use Rattle.preproc_table.specs.Entries.{start_at, end_at, line_at, lines_from, Apart}
use Rattle.prefix_list.specs.Listing.{PairLies, Shared, Home}

pub common-front : (a b : List ℕ) → take (length (common a b)) a ≡ common a b
unfolding common
common-front [] b = refl
common-front (x ∷ xs) [] = refl
common-front (x ∷ xs) (y ∷ ys) = go (eqb x y) (common-front xs ys)
  where
    go : (t : Bool) → take (length (common xs ys)) xs ≡ common xs ys →
        take (length (cond t (x ∷ common xs ys) [])) (x ∷ xs) ≡ cond t (x ∷ common xs ys) []
    go true e = ap (λ (l : List ℕ). x ∷ l) e
    go false e = refl

common-short : (a b : List ℕ) → length (common a b) ≤ length a
unfolding common
common-short [] b = omega arith
common-short (x ∷ xs) [] = omega arith
common-short (x ∷ xs) (y ∷ ys) = go (eqb x y) (common-short xs ys)
  where
    go : (t : Bool) → length (common xs ys) ≤ length xs → length (cond t (x ∷ common xs ys) []) ≤ suc (length xs)
    go true e = omega arith
    go false e = omega arith

-- the span s of the first k bytes of the line, which are those in common
module _ (area table : List ℕ) (i start end next stop k : ℕ)
    (e₁ : start ≡ start_at table i) (e₂ : end ≡ end_at table i) (e₃ : next ≡ start_at table (i + 1)) (e₄ : stop ≡ end_at table (i + 1))
    (lies : PairLies area table i)
    (e₅ : k ≡ length (common (take (end - start) (drop start area)) (take (stop - next) (drop next area)))) where
  abbrev line : List ℕ
  line = take (end - start) (drop start area)

  abbrev other : List ℕ
  other = take (stop - next) (drop next area)

  line-long : length line ≡ end - start
  line-long = length-take-le (end - start) (drop start area) (rw length-drop (omega (arith, e₁, e₂, lies.order, lies.high)))

  pub shared-short : k ≤ length line
  shared-short = omega (arith, e₅, common-short line other)

  front : take k line ≡ common line other
  front = rw e₅ (common-front line other)

  module _ (s : ByteSpan) (p : ℕ → Bool) (b : Bare p (take k line) s) where
    kept : s.end ≤ k
    kept = omega (arith, (bare-within b).1, length-take-le k line shared-short)

    pub shared-end : (s.start ≤ s.end) × (start + s.end ≤ end)
    shared-end = ((bare-within b).0, omega (arith, kept, shared-short, line-long, e₁, e₂, lies.order))

    pub shared-there : p ≡ space → Shared area table i (record { start = start + s.start; end = start + s.end })
    unfolding line_at
    shared-there q =
        let l : k ≤ end - start = omega (arith, shared-short, line-long) in
        let at : slice s.start s.end (take k (take (end - start) (drop start area))) ≡ slice (start + s.start) (start + s.end) area =
        rw (take-take k (end - start) (drop start area) l) (slice_part s.start s.end k start area kept) in
        let lines : common line other ≡ common (line_at area table i) (line_at area table (i + 1)) =
        rw (part_slice start end area, part_slice next stop area, e₁, e₂, e₃, e₄) in
        record {
          low = omega (arith, e₁);
          order = omega (arith, shared-end.0);
          high = omega (arith, shared-end.1, e₂);
          bytes = sym at ∙ bare-trim b q ∙ ap trim (front ∙ lines);
        }

-- ---- the prefixes of the lines from i on, up to `stop`
abbrev pub rest : List ℕ → List ℕ → ℕ → ℕ → List (List ℕ)
rest area table stop i = prefixes (lines_from area table i (stop - i))

-- what lines i and i + 1 have in common
abbrev pub both : List ℕ → List ℕ → ℕ → List ℕ
both area table i = trim (common (line_at area table i) (line_at area table (i + 1)))

module _ (area table : List ℕ) (i stop : ℕ) where
  abbrev first : List (List ℕ)
  first = cond (ltb 3 (length (encoded (both area table i)))) (both area table i ∷ []) []

  pub prefixes-step : i + 1 < stop → rest area table stop i ≡ first ++ rest area table stop (i + 1)
  unfolding lines_from prefixes
  prefixes-step h =
      let m : ℕ = stop - (i + 1) - 1 in
      let e : stop - i ≡ suc (suc m) = omega arith in
      let f : stop - (i + 1) ≡ suc m = omega arith in
      ap (λ (z : ℕ). prefixes (lines_from area table i z)) e ∙ go m ∙ ap (λ (z : ℕ). first ++ prefixes (lines_from area table (i + 1) z)) (sym f)
    where
      go : (m : ℕ) → prefixes (lines_from area table i (suc (suc m))) ≡ first ++ prefixes (lines_from area table (i + 1) (suc m))
      go m =
          let b : ℕ → List ℕ = λ k. trim (common (line_at area table i) (line_at area table k)) in
          let P : ℕ → Type 0 = λ k. prefixes (lines_from area table i (suc (suc m))) ≡ cond (ltb 3 (length (encoded (b k)))) (b k ∷ []) [] ++ prefixes (lines_from area table k (suc m)) in
          subst P (sym (add-one i)) refl

  pub prefixes-done : stop ≤ i + 1 → rest area table stop i ≡ []
  unfolding lines_from prefixes
  prefixes-done h = go (stop - i) (omega arith)
    where
      go : (m : ℕ) → m ≤ 1 → prefixes (lines_from area table i m) ≡ []
      go zero l = refl
      go (suc zero) l = refl
      go (suc (suc m)) l = absurd (omega arith)

  -- another one than w does not count
  pub occurs-step : (w : List ℕ) → i + 1 < stop → same (both area table i) w ≡ false → occurs w (rest area table stop i) ≡ occurs w (rest area table stop (i + 1))
  unfolding occurs
  occurs-step w h n = ap (occurs w) (prefixes-step h) ∙ go (ltb 3 (length (encoded (both area table i))))
    where
      go : (t : Bool) → occurs w (cond t (both area table i ∷ []) [] ++ rest area table stop (i + 1)) ≡ occurs w (rest area table stop (i + 1))
      go true = rw n (omega arith)
      go false = refl

-- neighbours lie in the area
pub lies-of : {n : ℕ} {table : List ℕ} {count : ℕ} (area : List ℕ) (i : ℕ) → Apart n (4 * n) table count → i + 1 < count → 4 * n ≤ length area → PairLies area table i
lies-of {n} {table} {count} area i a h l =
    record {
      order = a.order i (omega arith);
      high = omega (arith, a.high i (omega arith));
      next-order = a.order (i + 1) h;
      next-high = omega (arith, a.high (i + 1) h);
    }

-- ---- where a prefix was taken from
pub home_there : {n : ℕ} {area table : List ℕ} {count : ℕ} (i : ℕ) (w : List ℕ) (r : ByteSpan) → Apart n (4 * n) table count → i + 1 < count → Shared area table i r →
    slice r.start r.end area ≡ w → Home n area w r
home_there i w r a h s e =
    record {
      low = omega (arith, s.low, a.low i (omega arith));
      order = s.order;
      high = omega (arith, s.high, a.high i (omega arith));
      bytes = e;
    }

module _ (area table : List ℕ) (i stop : ℕ) (w : List ℕ) where
  pub home_next : (r : ByteSpan) → i + 1 < stop → Shared area table i r → same (take (r.end - r.start) (drop r.start area)) w ≡ false →
      0 < occurs w (rest area table stop i) → 0 < occurs w (rest area table stop (i + 1))
  home_next r h s n o =
      let e : same (both area table i) w ≡ false = rw (← s.bytes, ← part_slice r.start r.end area) n in
      omega (arith, occurs-step area table i stop w h e)

  pub home_none : stop ≤ i + 1 → 0 < occurs w (rest area table stop i) → ⊥
  unfolding occurs
  home_none h o = let e = ap (occurs w) (prefixes-done area table i stop h) in omega arith
