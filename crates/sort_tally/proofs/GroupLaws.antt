-- The loop of `group_parts`: d groups are closed and stand in p, one is open, and the rest is to come.
--     put_facts                           what writing a group leaves, by parts
--     grouping_start, grouping_open,      with the first seen, with one more group, with one more of the open group,
--     grouping_join, grouping_end         and with all seen
-- Assumes nothing.
use mathlib.Core.Path.{◌≡◌, refl, sym, ap, ◌∙◌}
use mathlib.Core.Bool.{Bool, true, false, cond}
use mathlib.Core.List.{List, [], ◌∷◌, ◌++◌}
use Prim.Native.Nat.{ℕ, suc, ◌+◌, ◌≤◌, ◌<◌}
use native.Mathlib.Numerals.{add-one}
use native.Mathlib.Omega.{arith}
use lib.ListN.{length, take, drop, set, get_or, length-set, length-append, length-drop}
use lib.Seq.{slice, length-take-le, take-suc-set, take-set-le, take-set-lt, drop-set-lt, drop-set-add, append_snoc}
use Rattle.lists.proofs.SliceLaws.{slice_next, slice_done, slice_tail}
use Rattle.sort_tally.specs.Group.{Group, groups_from, groups, group_starts, counts, Grouped}

length-starts : (gs : List Group) → length (group_starts gs) ≡ length gs
length-starts [] = refl
length-starts (g ∷ gs) = ap suc (length-starts gs)

-- no more groups than elements
from-few : (f : ℕ → ℕ → Bool) (start n : ℕ) (xs : List ℕ) → length (groups_from f start n xs) ≤ suc (length xs)
unfolding groups_from
from-few f start n [] = omega arith
from-few f start n (x ∷ xs) = go (f x start) (from-few f x 1 xs) (from-few f start (n + 1) xs)
  where
    go : (t : Bool) → length (groups_from f x 1 xs) ≤ suc (length xs) → length (groups_from f start (n + 1) xs) ≤ suc (length xs) →
        length (cond t (record { start = start; count = n } ∷ groups_from f x 1 xs) (groups_from f start (n + 1) xs)) ≤ suc (suc (length xs))
    go true a b = omega arith
    go false a b = omega arith

pub groups-few : (f : ℕ → ℕ → Bool) (xs : List ℕ) → length (groups f xs) ≤ length xs
unfolding groups
groups-few f [] = omega arith
groups-few f (x ∷ xs) = from-few f x 1 xs

-- what stands after a group is put at d
pub record GroupPut (p q : List ℕ) (k d i start count : ℕ) : Type 0 where
  pub long : length q ≡ length p
  pub first : take (d + 1) q ≡ take d p ++ (start ∷ [])
  pub second : take (d + 1) (drop k q) ≡ take d (drop k p) ++ (count ∷ [])
  pub ahead : slice i k q ≡ slice i k p
  pub back : drop (k + k) q ≡ drop (k + k) p

pub put_facts : (p : List ℕ) (k d i start count : ℕ) → d < i → d < k → k + k ≤ length p →
    GroupPut p (set (set p d start) (k + d) count) k d i start count
put_facts p k d i start count h l r =
    let l₁ : length (set p d start) ≡ length p = length-set p d start in
    let far : d < length (drop k (set p d start)) = rw length-drop (omega arith) in
    record {
      long = length-set (set p d start) (k + d) count ∙ l₁;
      first = rw (take-set-le (d + 1) (set p d start) (k + d) count (omega arith), add-one, take-suc-set p d start (omega arith));
      second =
          rw (drop-set-add k (set p d start) d count, add-one, take-suc-set (drop k (set p d start)) d count far, drop-set-lt k p d start l);
      ahead = rw (take-set-le k (set p d start) (k + d) count (omega arith), take-set-lt k p d start l, drop-set-lt i (take k p) d start h);
      back = rw (drop-set-lt (k + k) (set p d start) (k + d) count (omega arith), drop-set-lt (k + k) p d start (omega arith));
    }

pub record GroupWalk (f : ℕ → ℕ → Bool) (whole : List Group) (p₀ p : List ℕ) (k i d start count : ℕ) : Type 0 where
  pub room : k + k ≤ length p₀
  pub long : length p ≡ length p₀
  pub closed : d < i
  pub within : i ≤ k
  pub few : count + d ≤ i
  pub first : take d p ++ group_starts (groups_from f start count (slice i k p₀)) ≡ group_starts whole
  pub second : take d (drop k p) ++ counts (groups_from f start count (slice i k p₀)) ≡ counts whole
  pub ahead : slice i k p ≡ slice i k p₀
  pub back : drop (k + k) p ≡ drop (k + k) p₀

-- with none to see
pub grouping_none : (f : ℕ → ℕ → Bool) (p : List ℕ) → Grouped (groups f (take 0 p)) 0 0 p
unfolding groups
grouping_none f p = record { many = refl; first = refl; second = refl }

pub grouping_start : (f : ℕ → ℕ → Bool) (p : List ℕ) (k : ℕ) → 0 < k → k + k ≤ length p →
    GroupWalk f (groups f (take k p)) p p k 1 0 (get_or p 0 0) 1
unfolding groups
grouping_start f p k h r =
    let e : take k p ≡ get_or p 0 0 ∷ slice 1 k p = slice_next p 0 k h (omega arith) in
    record {
      room = r;
      long = refl;
      closed = omega arith;
      within = h;
      few = omega arith;
      first = rw e;
      second = rw e;
      ahead = refl;
      back = refl;
    }

module _ (f : ℕ → ℕ → Bool) (start n x : ℕ) (l xs : List ℕ) (e : l ≡ x ∷ xs) where
  pub from_open : f x start ≡ true → groups_from f start n l ≡ record { start = start; count = n } ∷ groups_from f x 1 xs
  unfolding groups_from
  from_open t = rw (e, t)

  pub from-join : f x start ≡ false → groups_from f start n l ≡ groups_from f start (n + 1) xs
  unfolding groups_from
  from-join t = rw (e, t)

module _ {f : ℕ → ℕ → Bool} {whole : List Group} {p₀ p : List ℕ} {k i d start count : ℕ} (g : GroupWalk f whole p₀ p k i d start count) where
  -- the next to see
  pub grouping_read : i < k → slice i k p₀ ≡ get_or p i 0 ∷ slice (i + 1) k p₀
  grouping_read h =
      let e = slice_next p i k h (omega (arith, g.room, g.long)) in
      let a : slice (i + 1) k p ≡ slice (i + 1) k p₀ = slice_tail i k p ∙ ap (drop 1) g.ahead ∙ sym (slice_tail i k p₀) in
      sym g.ahead ∙ e ∙ rw a

  pub grouping_open : i < k → f (get_or p i 0) start ≡ true → GroupWalk f whole p₀ (set (set p d start) (k + d) count) k (i + 1) (d + 1) (get_or p i 0) 1
  grouping_open h t =
      let w = put_facts p k d i start count g.closed (omega (arith, g.closed, g.within)) (omega (arith, g.room, g.long)) in
      let o = from_open f start count (get_or p i 0) (slice i k p₀) (slice (i + 1) k p₀) (grouping_read h) t in
      let q = set (set p d start) (k + d) count in
      record {
        room = g.room;
        long = w.long ∙ g.long;
        closed = omega (arith, g.closed);
        within = omega arith;
        few = omega (arith, g.closed);
        first = rw (w.first, append_snoc) (rw o at g.first);
        second = rw (w.second, append_snoc) (rw o at g.second);
        ahead = slice_tail i k q ∙ ap (drop 1) (w.ahead ∙ g.ahead) ∙ sym (slice_tail i k p₀);
        back = w.back ∙ g.back;
      }

  pub grouping_join : i < k → f (get_or p i 0) start ≡ false → GroupWalk f whole p₀ p k (i + 1) d start (count + 1)
  grouping_join h t =
      let o = from-join f start count (get_or p i 0) (slice i k p₀) (slice (i + 1) k p₀) (grouping_read h) t in
      record {
        room = g.room;
        long = g.long;
        closed = omega (arith, g.closed);
        within = omega arith;
        few = omega (arith, g.few);
        first = rw o at g.first;
        second = rw o at g.second;
        ahead = slice_tail i k p ∙ ap (drop 1) g.ahead ∙ sym (slice_tail i k p₀);
        back = g.back;
      }

  pub grouping_end : k ≤ i →
      Grouped whole k (d + 1) (set (set p d start) (k + d) count) × (drop (k + k) (set (set p d start) (k + d) count) ≡ drop (k + k) p₀)
  unfolding groups_from
  grouping_end h =
      let w = put_facts p k d i start count g.closed (omega (arith, g.closed, g.within)) (omega (arith, g.room, g.long)) in
      let z = slice_done p₀ i k h in
      let a : take d p ++ (start ∷ []) ≡ group_starts whole = rw z at g.first in
      let b : take d (drop k p) ++ (count ∷ []) ≡ counts whole = rw z at g.second in
      let n : length (take d p) ≡ d = length-take-le d p (omega (arith, g.closed, g.within, g.room, g.long)) in (
        record {
          many = omega (arith, n, length-append (take d p) (start ∷ []), ap length a, length-starts whole);
          first = w.first ∙ a;
          second = w.second ∙ b;
        },
        w.back ∙ g.back,
      )
