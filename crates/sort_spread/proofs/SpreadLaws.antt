-- The loop that places starts by their bytes: the places of each byte fill up from below, each in its own range.
--     spreading_start, spreading_next   with none placed, and with one more
--     spreading_end                     with all placed: the same elements
-- Assumes nothing.
use mathlib.Core.Path.{◌≡◌, refl, sym, ap, ◌∙◌}
use mathlib.Core.Bool.{Bool, true, false, ◌&&◌, and-true, and-false}
use mathlib.Core.List.{List, [], ◌∷◌, ◌++◌}
use Prim.Native.Nat.{ℕ, zero, suc, ◌+◌, ◌≤◌, ◌<◌}
use native.Mathlib.Omega.{arith}
use lib.Dec.{ltb, eqb}
use borrow.Author.Tests.{eq-eqb, lt-ltb, le-ltb, eqb-true, eqb-false}
use lib.ListN.{length, take, set, get_or, length-set}
use lib.Seq.{slice, slice_empty, take-add, take-length, take_all}
use Rattle.lists.proofs.SliceLaws.{part_at}
use Rattle.lists.proofs.StoreLaws.{slice_set_past, slice_set_low, slice_set_next}
use Rattle.sort_spread.specs.Sort.{count_of}
use Rattle.sort_spread.specs.Spread.{keyed, keyed_below, Counters, Shuffled}
use Rattle.sort_spread.proofs.SortLaws.{either}
use Rattle.sort_spread.proofs.OrderLaws.{count_of_append}
use Rattle.sort_spread.proofs.CountLaws.{one, count_of_split, count_of_same, count_of_none, count_of_one, count_of_more, count_of_take, below_next, lower-next, lower_mono, lower-none, lower-all, lower-most, counters_set}

-- of q, those with the key b, and those with a lower one
abbrev having : (ℕ → Bool) → (ℕ → ℕ) → ℕ → ℕ → Bool
having q key b x = q x && eqb (key x) b

abbrev under : (ℕ → Bool) → (ℕ → ℕ) → ℕ → ℕ → Bool
under q key b x = q x && ltb (key x) b

-- where the next with the key b goes, with i of the elements placed
abbrev pub next : (ℕ → ℕ) → List ℕ → ℕ → ℕ → ℕ
next key xs i b = keyed_below key xs b + keyed key (take i xs) b

pub record Spreading (key : ℕ → ℕ) (xs d c : List ℕ) (i : ℕ) : Type 0 where
  pub long : length d ≡ length xs
  pub counters : Counters (next key xs i) c
  pub held : (q : ℕ → Bool) (b : ℕ) → b < 256 → count_of q (slice (keyed_below key xs b) (next key xs i b) d) ≡ count_of (having q key b) (take i xs)

module _ (key : ℕ → ℕ) (xs : List ℕ) where
  -- one more of the key b
  next-same : (i b : ℕ) → i < length xs → key (get_or xs i 0) ≡ b → next key xs (i + 1) b ≡ next key xs i b + 1
  next-same i b h e = omega (arith, count_of_more (λ x. eqb (key x) b) xs i h, ap one (eq-eqb (key (get_or xs i 0)) b e))

  next-other : (i b : ℕ) → i < length xs → eqb (key (get_or xs i 0)) b ≡ false → next key xs (i + 1) b ≡ next key xs i b
  next-other i b h e = omega (arith, count_of_more (λ x. eqb (key x) b) xs i h, ap one e)

  -- a key's places end where the next key's begin
  next_in : (i b : ℕ) → next key xs i b ≤ keyed_below key xs (suc b)
  next_in i b = omega (arith, lower-next key xs b, count_of_take (λ x. eqb (key x) b) xs i)

  -- there is a place for the next one
  next-room : (i b : ℕ) → i < length xs → key (get_or xs i 0) ≡ b → next key xs i b < keyed_below key xs (suc b)
  next-room i b h e = omega (arith, next-same i b h e, next_in (i + 1) b)

  pub next_place : (i b : ℕ) → i < length xs → key (get_or xs i 0) ≡ b → next key xs i b < length xs
  next_place i b h e = omega (arith, next-room i b h e, lower-most key xs (suc b))

pub spreading_start : (key : ℕ → ℕ) (xs d c : List ℕ) → length d ≡ length xs → Counters (keyed_below key xs) c → Spreading key xs d c 0
unfolding count_of
spreading_start key xs d c n h =
    record {
      long = n;
      counters = record { all = h.all; each = λ b l. omega (arith, h.each b l) };
      held = λ q b l.
          let z : keyed_below key xs b + 0 ≡ keyed_below key xs b = omega arith in
          ap (count_of q) (ap (λ (n : ℕ). slice (keyed_below key xs b) n d) z ∙ slice_empty (keyed_below key xs b) d);
    }

module _ {key : ℕ → ℕ} {xs d c : List ℕ} {i : ℕ} (s : Spreading key xs d c i) (l : i < length xs) (k : key (get_or xs i 0) < 256) where
  -- of the key that the placed one has
  held_same : (q : ℕ → Bool) (b : ℕ) → key (get_or xs i 0) ≡ b → count_of q (slice (keyed_below key xs b) (next key xs i b) d) ≡ count_of (having q key b) (take i xs) →
      count_of q (slice (keyed_below key xs b) (next key xs (i + 1) b) (set d (next key xs i b) (get_or xs i 0))) ≡ count_of (having q key b) (take (i + 1) xs)
  held_same q b e h =
      let w : ℕ = next key xs i b in
      let x : ℕ = get_or xs i 0 in
      let m : w < length d = omega (arith, next_place key xs i b l e, s.long) in
      let n : slice (keyed_below key xs b) (w + 1) (set d w x) ≡ slice (keyed_below key xs b) w d ++ (x ∷ []) = slice_set_next (keyed_below key xs b) d w x (omega arith) m in
      let t : having q key b x ≡ q x = rw (eq-eqb (key x) b e) (and-true (q x)) in
      rw (next-same key xs i b l e, n)
      (omega (arith, count_of_append q (slice (keyed_below key xs b) w d) (x ∷ []), count_of_one q x, count_of_more (having q key b) xs i l, ap one t, h))

  -- of another key
  held-other : (q : ℕ → Bool) (b : ℕ) → eqb (key (get_or xs i 0)) b ≡ false → count_of q (slice (keyed_below key xs b) (next key xs i b) d) ≡ count_of (having q key b) (take i xs) →
      count_of q (slice (keyed_below key xs b) (next key xs (i + 1) b) (set d (next key xs i (key (get_or xs i 0))) (get_or xs i 0))) ≡ count_of (having q key b) (take (i + 1) xs)
  held-other q b e h =
      let x : ℕ = get_or xs i 0 in
      let w : ℕ = next key xs i (key x) in
      let t : having q key b x ≡ false = rw e (and-false (q x)) in
      let outside : slice (keyed_below key xs b) (next key xs i b) (set d w x) ≡ slice (keyed_below key xs b) (next key xs i b) d = either (key x) b
      (λ m. slice_set_low (keyed_below key xs b) (next key xs i b) d w x (omega (arith, next-room key xs i (key x) l refl, lower_mono key xs (suc (key x)) b m)))
      (λ m. let ne : b < key x = either b (key x) (λ y. y) (λ y. absurd (eqb-false (key x) b e (omega arith))) in
      slice_set_past (keyed_below key xs b) (next key xs i b) d w x (omega (arith, next_in key xs i b, lower_mono key xs (suc b) (key x) ne))) in
      rw (next-other key xs i b l e, outside) (omega (arith, count_of_more (having q key b) xs i l, ap one t, h))

  spreading_held : (q : ℕ → Bool) (b : ℕ) → b < 256 →
      count_of q (slice (keyed_below key xs b) (next key xs (i + 1) b) (set d (next key xs i (key (get_or xs i 0))) (get_or xs i 0))) ≡ count_of (having q key b) (take (i + 1) xs)
  spreading_held q b m = go (eqb (key (get_or xs i 0)) b) refl
    where
      go : (t : Bool) → eqb (key (get_or xs i 0)) b ≡ t →
          count_of q (slice (keyed_below key xs b) (next key xs (i + 1) b) (set d (next key xs i (key (get_or xs i 0))) (get_or xs i 0))) ≡ count_of (having q key b) (take (i + 1) xs)
      go true e = let f = eqb-true (key (get_or xs i 0)) b e in rw f (held_same q b f (s.held q b m))
      go false e = held-other q b e (s.held q b m)

  pub spreading_next : (b x w : ℕ) → x ≡ get_or xs i 0 → b ≡ key x → w ≡ get_or c b 0 → Spreading key xs (set d w x) (set c b (w + 1)) (i + 1)
  spreading_next b x w e f g =
      let bb : b ≡ key (get_or xs i 0) = f ∙ ap key e in
      let ww : w ≡ next key xs i (key (get_or xs i 0)) = g ∙ rw bb (s.counters.each (key (get_or xs i 0)) k) in
      rw (e, bb, ww)
      record {
        long = length-set d (next key xs i (key (get_or xs i 0))) (get_or xs i 0) ∙ s.long;
        counters =
            counters_set (next key xs i) (next key xs (i + 1)) c (key (get_or xs i 0)) (next key xs i (key (get_or xs i 0)) + 1) k s.counters
            (next-same key xs i (key (get_or xs i 0)) l refl) (λ a z. next-other key xs i a l z);
        held = spreading_held;
      }

-- ---- all placed
module _ {key : ℕ → ℕ} {xs d c : List ℕ} {i : ℕ} (s : Spreading key xs d c i) (l : length xs ≤ i) (most : (x : ℕ) → key x < 256) where
  full : take i xs ≡ xs
  full = take_all i xs l

  under_next : (q : ℕ → Bool) (b x : ℕ) → one (under q key (suc b) x) ≡ one (under q key b x) + one (having q key b x)
  under_next q b x = go (q x)
    where
      go : (t : Bool) → one (t && ltb (key x) (suc b)) ≡ one (t && ltb (key x) b) + one (t && eqb (key x) b)
      go true = below_next (key x) b
      go false = refl

  -- the places of all lower keys
  front : (q : ℕ → Bool) (b : ℕ) → b ≤ 256 → count_of q (take (keyed_below key xs b) d) ≡ count_of (under q key b) xs
  unfolding count_of
  front q zero m =
      rw (lower-none key xs) (sym (count_of_same (under q key 0) (λ x. false) (λ x. rw (le-ltb (key x) 0 (omega arith)) (and-false (q x))) xs ∙ count_of_none xs))
  front q (suc b) m =
      let n : ℕ = keyed key xs b in
      let a : ℕ = keyed_below key xs b in
      let h : count_of q (slice a (a + n) d) ≡ count_of (having q key b) xs = rw full at (s.held q b m) in
      rw (lower-next key xs b, take-add a n d, part_at a n d)
      (omega (
        arith,
        count_of_append q (take a d) (slice a (a + n) d),
        front q b (omega arith),
        h,
        count_of_split (under q key (suc b)) (under q key b) (having q key b) (under_next q b) xs,
      ))

  pub spreading_end : Shuffled d xs
  spreading_end q =
      let n : keyed_below key xs 256 ≡ length d = lower-all key xs 256 most ∙ sym s.long in
      sym (ap (count_of q) (rw n (take-length d)))
      ∙ front q 256 (omega arith)
      ∙ count_of_same (under q key 256) q (λ x. rw (lt-ltb (key x) 256 (most x)) (and-true (q x))) xs
