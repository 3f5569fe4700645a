-- The loop of `merge`: w elements are written, and what is to come is the merge of what is left of the two runs. It writes below what it
-- reads of the right run, so what is left of that stands where it belongs.
--     merging_right, merging_left     one more, from the right or the left run
--     merging_end                 with the left run out
-- Assumes nothing.
use mathlib.Core.Path.{◌≡◌, refl, sym, ap, ◌∙◌}
use mathlib.Core.Bool.{Bool, true, false}
use mathlib.Core.List.{List, [], ◌∷◌, ◌++◌}
use Prim.Native.Nat.{ℕ, zero, suc, ◌+◌, ◌-◌, ◌≤◌, ◌<◌}
use native.Mathlib.Nat.{sub-zero}
use native.Mathlib.Numerals.{add-one}
use native.Mathlib.Omega.{arith}
use lib.ListN.{length, take, drop, set, get_or, length-set, take-append-drop}
use lib.Seq.{slice, take-suc-set, append_snoc, drop-set-lt, take-take, length-slice}
use Rattle.lists.proofs.SliceLaws.{slice_next, slice_done, drop_back, slice_back, get_d_back}
use Rattle.sort_spread.specs.Sort.{right_next, merged}

-- which of two runs is next
module _ (f : ℕ → ℕ → Bool) (l : List ℕ) (i m j n : ℕ) (r : n ≤ length l) (q : m ≤ length l) where
  pub from-both : i < m → j < n → right_next f (slice i m l) (slice j n l) ≡ f (get_or l i 0) (get_or l j 0)
  unfolding right_next
  from-both h k = rw (slice_next l i m h q, slice_next l j n k r)

  pub from-left : i < m → n ≤ j → right_next f (slice i m l) (slice j n l) ≡ false
  unfolding right_next
  from-left h k = rw (slice_next l i m h q, slice_done l j n k)

  pub from-right : m ≤ i → right_next f (slice i m l) (slice j n l) ≡ true
  unfolding right_next
  from-right h = rw (slice_done l i m h)

-- the next element of a merge
module _ (f : ℕ → ℕ → Bool) (c n x : ℕ) (xs ys zs : List ℕ) (s : c ≡ suc n) where
  pub next-right : ys ≡ x ∷ zs → right_next f xs ys ≡ true → merged f c xs ys ≡ x ∷ merged f n xs zs
  unfolding merged
  next-right e b = rw (s, b, e)

  pub next-left : xs ≡ x ∷ zs → right_next f xs ys ≡ false → merged f c xs ys ≡ x ∷ merged f n zs ys
  unfolding merged
  next-left e b = rw (s, b, e)

-- with the left list out, the right one
pub merged-out : (f : ℕ → ℕ → Bool) (n : ℕ) (ys : List ℕ) → n ≡ length ys → merged f n [] ys ≡ ys
unfolding merged right_next
merged-out f zero [] e = refl
merged-out f zero (y ∷ ys) e = absurd (omega arith)
merged-out f (suc n) [] e = absurd (omega arith)
merged-out f (suc n) (y ∷ ys) e = ap (λ (zs : List ℕ). y ∷ zs) (merged-out f n ys (omega arith))

-- the runs [k, m) and [h, k) of src, read from i and j on; d has the first w of the merge, and is as src from j on
pub record Merging (f : ℕ → ℕ → Bool) (whole src d : List ℕ) (k h m i j w : ℕ) : Type 0 where
  pub room : k + k ≤ length src
  pub long : length d ≡ length src
  pub half : h ≤ k
  pub top : m ≡ k + h
  pub low : k ≤ i
  pub mid : i ≤ m
  pub from : h ≤ j
  pub to : j ≤ k
  pub sum : w + k + h ≡ i + j
  pub front : take w d ++ merged f (k - w) (slice i m src) (slice j k src) ≡ whole
  pub back : drop j d ≡ drop j src

module _ {f : ℕ → ℕ → Bool} {whole src d : List ℕ} {k h m i j w : ℕ} (p : Merging f whole src d k h m i j w) (t : i < m) where
  -- what is written is behind what is read
  merging_behind : w < j
  merging_behind = omega (arith, p.sum, p.top)

  -- the runs are read as they were
  merging_read : (b : Bool) → right_next f (slice i m d) (slice j k d) ≡ b → right_next f (slice i m src) (slice j k src) ≡ b
  merging_read b e = rw (← slice_back j d src p.back i (omega (arith, p.low, p.to)) m, ← slice_back j d src p.back j (omega arith) k) e

  pub merging_right : j < k → right_next f (slice i m d) (slice j k d) ≡ true → Merging f whole src (set d w (get_or d j 0)) k h m i (j + 1) (w + 1)
  merging_right l b =
      let x = get_or d j 0 in
      let v = merging_behind in
      let room : w < length d = omega (arith, p.room, p.long, v) in
      let s : k - w ≡ suc (k - (w + 1)) = omega (arith, v) in
      let e : slice j k src ≡ x ∷ slice (j + 1) k src = slice_next src j k l (omega (arith, p.room)) ∙ rw (get_d_back j d src p.back j (omega arith)) in
      record {
        room = p.room;
        long = length-set d w x ∙ p.long;
        half = p.half;
        top = p.top;
        low = p.low;
        mid = p.mid;
        from = omega (arith, p.from);
        to = omega arith;
        sum = omega (arith, p.sum);
        front = rw (add-one, take-suc-set d w x room, append_snoc, ← add-one, ← next-right f (k - w) (k - (w + 1)) x (slice i m src) (slice j k src) (slice (j + 1) k src) s e (merging_read true b)) p.front;
        back = drop-set-lt (j + 1) d w x (omega (arith, v)) ∙ drop_back j d src p.back (j + 1) (omega arith);
      }

  pub merging_left : right_next f (slice i m d) (slice j k d) ≡ false → Merging f whole src (set d w (get_or d i 0)) k h m (i + 1) j (w + 1)
  merging_left b =
      let x = get_or d i 0 in
      let v = merging_behind in
      let room : w < length d = omega (arith, p.room, p.long, p.to, v) in
      let s : k - w ≡ suc (k - (w + 1)) = omega (arith, p.to, v) in
      let e : slice i m src ≡ x ∷ slice (i + 1) m src = slice_next src i m t (omega (arith, p.top, p.half, p.room)) ∙ rw (get_d_back j d src p.back i (omega (arith, p.low, p.to))) in
      record {
        room = p.room;
        long = length-set d w x ∙ p.long;
        half = p.half;
        top = p.top;
        low = omega (arith, p.low);
        mid = omega arith;
        from = p.from;
        to = p.to;
        sum = omega (arith, p.sum);
        front = rw (add-one, take-suc-set d w x room, append_snoc, ← add-one, ← next-left f (k - w) (k - (w + 1)) x (slice i m src) (slice j k src) (slice (i + 1) m src) s e (merging_read false b)) p.front;
        back = drop-set-lt j d w x v ∙ p.back;
      }

pub merging_start : (f : ℕ → ℕ → Bool) (src : List ℕ) (k h : ℕ) → k + k ≤ length src → h ≤ k → Merging f (merged f k (slice k (k + h) src) (slice h k src)) src src k h (k + h) k h 0
merging_start f src k h a b =
    record {
      room = a;
      long = refl;
      half = b;
      top = refl;
      low = omega arith;
      mid = omega arith;
      from = omega arith;
      to = b;
      sum = omega arith;
      front = rw (sub-zero k);
      back = refl;
    }

-- the first run is out
module _ {f : ℕ → ℕ → Bool} {whole src d : List ℕ} {k h m i j w : ℕ} where
  pub merging_end : m ≤ i → Merging f whole src d k h m i j w → (take k d ≡ whole) × (drop k d ≡ drop k src)
  merging_end l p =
      let e : w ≡ j = omega (arith, p.sum, p.mid, p.top) in
      let n : k - w ≡ length (slice j k src) = rw (length-slice j k src (omega (arith, p.room))) (omega arith) in
      let q : take w d ++ merged f (k - w) [] (slice j k src) ≡ whole = rw (slice_done src i m l) at p.front in
      let o : take w d ++ slice j k src ≡ whole = rw (merged-out f (k - w) (slice j k src) n) at q in
      let r : take j d ++ slice j k d ≡ whole = rw (slice_back j d src p.back j (omega arith) k) (rw e at o) in
      let z : take k d ≡ take j d ++ slice j k d = sym (take-append-drop j (take k d)) ∙ rw (take-take j k d p.to) in
      (z ∙ r, drop_back j d src p.back k p.to)
