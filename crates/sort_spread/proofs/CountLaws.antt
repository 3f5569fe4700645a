-- Counting by a key: how many have a key, and how many a lower one.
--     count_of_split, count_of_mono, count_of_same     what holds of each element, of the whole
--     lower-next, lower_mono, lower-all             the counts of lower keys
--     added-lower                                   sums of the counters are those counts
--     counters_set                                  one counter changed
--     counting-.., summing-..                       the loops of `count_bytes` and `sum_counts`
-- Assumes nothing.
use mathlib.Core.Path.{◌≡◌, refl, sym, ap, ◌∙◌}
use mathlib.Core.Bool.{Bool, true, false, cond}
use mathlib.Core.List.{List, [], ◌∷◌, ◌++◌}
use Prim.Native.Nat.{ℕ, zero, suc, ◌+◌, ◌≤◌, ◌<◌}
use native.Mathlib.Omega.{arith}
use native.Mathlib.Numerals.{add-one}
use lib.Dec.{ltb, eqb}
use borrow.Author.Tests.{lt-ltb, le-ltb, eq-eqb, ne_eqb, eqb-true, eqb-false}
use lib.ListN.{length, take, drop, set, get_or, replicate, take-append-drop, length-set, length-replicate, get_or-replicate}
use lib.Seq.{take-suc, take_all, take-length, length-take-le, get_or-set_same, get_or-set_other, drop-set-lt}
use Rattle.lists.proofs.SliceLaws.{get_d_back, drop_back}
use Rattle.sort_spread.specs.Sort.{count_of}
use Rattle.sort_spread.specs.Spread.{keyed, keyed_below, added, Counters}
use Rattle.sort_spread.proofs.SortLaws.{either}
use Rattle.sort_spread.proofs.OrderLaws.{count_of_append}

-- 1 where it holds
abbrev pub one : Bool → ℕ
one t = cond t 1 0

pub one-most : (t : Bool) → one t ≤ 1
one-most true = omega arith
one-most false = omega arith

-- ---- element by element
pub count_of_split : (q r s : ℕ → Bool) → ((x : ℕ) → one (q x) ≡ one (r x) + one (s x)) → (xs : List ℕ) → count_of q xs ≡ count_of r xs + count_of s xs
unfolding count_of
count_of_split q r s h [] = refl
count_of_split q r s h (x ∷ xs) = omega (arith, h x, count_of_split q r s h xs)

pub count_of_mono : (q r : ℕ → Bool) → ((x : ℕ) → one (q x) ≤ one (r x)) → (xs : List ℕ) → count_of q xs ≤ count_of r xs
unfolding count_of
count_of_mono q r h [] = omega arith
count_of_mono q r h (x ∷ xs) = omega (arith, h x, count_of_mono q r h xs)

pub count_of_same : (q r : ℕ → Bool) → ((x : ℕ) → q x ≡ r x) → (xs : List ℕ) → count_of q xs ≡ count_of r xs
unfolding count_of
count_of_same q r h [] = refl
count_of_same q r h (x ∷ xs) = omega (arith, ap one (h x), count_of_same q r h xs)

pub count_of_none : (xs : List ℕ) → count_of (λ x. false) xs ≡ 0
unfolding count_of
count_of_none [] = refl
count_of_none (x ∷ xs) = omega (arith, count_of_none xs)

pub count_of_all : (xs : List ℕ) → count_of (λ x. true) xs ≡ length xs
unfolding count_of
count_of_all [] = refl
count_of_all (x ∷ xs) = omega (arith, count_of_all xs)

pub count_of_one : (q : ℕ → Bool) (x : ℕ) → count_of q (x ∷ []) ≡ one (q x)
unfolding count_of
count_of_one q x = omega arith

-- one more element
pub count_of_more : (q : ℕ → Bool) (xs : List ℕ) (i : ℕ) → i < length xs → count_of q (take (i + 1) xs) ≡ count_of q (take i xs) + one (q (get_or xs i 0))
count_of_more q xs i h =
    rw (add-one, take-suc xs i 0 h, count_of_append q (take i xs) (get_or xs i 0 ∷ [])) (ap (λ (n : ℕ). count_of q (take i xs) + n) (count_of_one q (get_or xs i 0)))

pub count_of_take : (q : ℕ → Bool) (xs : List ℕ) (i : ℕ) → count_of q (take i xs) ≤ count_of q xs
count_of_take q xs i = omega (arith, count_of_append q (take i xs) (drop i xs), ap (count_of q) (take-append-drop i xs))

-- ---- by a key
-- below the next number: below this, or this
pub below_next : (a b : ℕ) → one (ltb a (suc b)) ≡ one (ltb a b) + one (eqb a b)
below_next a b =
    either a b (λ l. rw (lt-ltb a b l, lt-ltb a (suc b) (omega arith), ne_eqb a b (λ e. omega arith)))
    (λ l. either b a (λ m. rw (le-ltb a b l, le-ltb a (suc b) m, ne_eqb a b (λ e. omega arith)))
    (λ m. let e : a ≡ b = omega arith in rw (le-ltb a b l, lt-ltb a (suc b) (omega arith), eq-eqb a b e)))

below_more : (a b e : ℕ) → b ≤ e → one (ltb a b) ≤ one (ltb a e)
below_more a b e h =
    either a b (λ l. rw (lt-ltb a b l, lt-ltb a e (omega arith)) (omega arith)) (λ l. rw (le-ltb a b l) (omega arith))

module _ (key : ℕ → ℕ) (xs : List ℕ) where
  pub lower-next : (b : ℕ) → keyed_below key xs (suc b) ≡ keyed_below key xs b + keyed key xs b
  lower-next b = count_of_split (λ x. ltb (key x) (suc b)) (λ x. ltb (key x) b) (λ x. eqb (key x) b) (λ x. below_next (key x) b) xs

  pub lower_mono : (b e : ℕ) → b ≤ e → keyed_below key xs b ≤ keyed_below key xs e
  lower_mono b e h = count_of_mono (λ x. ltb (key x) b) (λ x. ltb (key x) e) (λ x. below_more (key x) b e h) xs

  pub lower-none : keyed_below key xs 0 ≡ 0
  lower-none = count_of_same (λ x. ltb (key x) 0) (λ x. false) (λ x. le-ltb (key x) 0 (omega arith)) xs ∙ count_of_none xs

  pub lower-all : (n : ℕ) → ((x : ℕ) → key x < n) → keyed_below key xs n ≡ length xs
  lower-all n h = count_of_same (λ x. ltb (key x) n) (λ x. true) (λ x. lt-ltb (key x) n (h x)) xs ∙ count_of_all xs

  pub lower-most : (b : ℕ) → keyed_below key xs b ≤ length xs
  lower-most b = omega (arith, count_of_mono (λ x. ltb (key x) b) (λ x. true) (λ x. one-most (ltb (key x) b)) xs, count_of_all xs)

  pub keyed-most : (b : ℕ) → keyed key xs b ≤ length xs
  keyed-most b = omega (arith, count_of_mono (λ x. eqb (key x) b) (λ x. true) (λ x. one-most (eqb (key x) b)) xs, count_of_all xs)

-- ---- sums
pub added-append : (xs ys : List ℕ) → added (xs ++ ys) ≡ added xs + added ys
unfolding added
added-append [] ys = omega arith
added-append (x ∷ xs) ys = omega (arith, added-append xs ys)

added-one : (x : ℕ) → added (x ∷ []) ≡ x
unfolding added
added-one x = omega arith

pub added_more : (c : List ℕ) (b : ℕ) → b < length c → added (take (suc b) c) ≡ added (take b c) + get_or c b 0
added_more c b h = rw (take-suc c b 0 h) (omega (arith, added-append (take b c) (get_or c b 0 ∷ []), added-one (get_or c b 0)))

pub added-take : (c : List ℕ) (b : ℕ) → added (take b c) ≤ added c
added-take c b = omega (arith, added-append (take b c) (drop b c), ap added (take-append-drop b c))

pub added-lower : (key : ℕ → ℕ) (xs c : List ℕ) → Counters (keyed key xs) c → (b : ℕ) → b ≤ 256 → added (take b c) ≡ keyed_below key xs b
unfolding added
added-lower key xs c h zero l = sym (lower-none key xs)
added-lower key xs c h (suc b) l =
    omega (arith, h.all, added_more c b (omega (arith, h.all)), added-lower key xs c h b (omega arith), h.each b (omega arith), lower-next key xs b)

-- ---- the counters
pub counters_set : (f g : ℕ → ℕ) (c : List ℕ) (a v : ℕ) → a < 256 → Counters f c → g a ≡ v → ((b : ℕ) → eqb a b ≡ false → g b ≡ f b) → Counters g (set c a v)
counters_set f g c a v l h e o = record { all = length-set c a v ∙ h.all; each = λ b m. go b m (eqb a b) refl }
  where
    go : (b : ℕ) → b < 256 → (t : Bool) → eqb a b ≡ t → get_or (set c a v) b 0 ≡ g b
    go b m true z = let y = eqb-true a b z in rw (← y) (get_or-set_same c a v 0 (omega (arith, h.all)) ∙ sym e)
    go b m false z = get_or-set_other c a b v 0 (λ y. eqb-false a b z (sym y)) ∙ h.each b m ∙ sym (o b z)

-- i of the elements are counted
pub record Counting (key : ℕ → ℕ) (xs c : List ℕ) (i : ℕ) : Type 0 where
  pub within : i ≤ length xs
  pub counters : Counters (keyed key (take i xs)) c

module _ (key : ℕ → ℕ) (xs c : List ℕ) where
  pub counting_start : Counters (λ b. 0) c → Counting key xs c 0
  unfolding count_of
  counting_start h = record { within = omega arith; counters = record { all = h.all; each = h.each } }

module _ {key : ℕ → ℕ} {xs c : List ℕ} {i : ℕ} (s : Counting key xs c i) where
  -- none has counted more than are seen
  pub counting_most : (b : ℕ) → b < 256 → get_or c b 0 ≤ i
  counting_most b l = omega (arith, s.counters.each b l, keyed-most key (take i xs) b, length-take-le i xs s.within)

  pub counting_next : (b : ℕ) → i < length xs → b ≡ key (get_or xs i 0) → b < 256 → Counting key xs (set c b (get_or c b 0 + 1)) (i + 1)
  counting_next b l e m =
      let more : (a : ℕ) → keyed key (take (i + 1) xs) a ≡ keyed key (take i xs) a + one (eqb (key (get_or xs i 0)) a) = λ a. count_of_more (λ x. eqb (key x) a) xs i l in
      record {
        within = omega arith;
        counters =
            counters_set (keyed key (take i xs)) (keyed key (take (i + 1) xs)) c b (get_or c b 0 + 1) m s.counters
            (omega (arith, more b, ap one (eq-eqb (key (get_or xs i 0)) b (sym e)), s.counters.each b m))
            (λ a z. omega (arith, more a, ap one (rw e at z)));
      }

  pub counting_end : length xs ≤ i → Counters (keyed key xs) c
  counting_end l = let e : i ≡ length xs = omega (arith, s.within) in rw (e, take-length) at s.counters

-- b counters are sums
pub record Summing (c₀ c : List ℕ) (sum b : ℕ) : Type 0 where
  pub within : b ≤ 256
  pub whole : length c₀ ≡ 256
  pub all : length c ≡ 256
  pub sums : (a : ℕ) → a < b → get_or c a 0 ≡ added (take a c₀)
  pub ahead : drop b c ≡ drop b c₀
  pub now : sum ≡ added (take b c₀)

pub summing_start : (c : List ℕ) → length c ≡ 256 → Summing c c 0 0
unfolding added
summing_start c n = record { within = omega arith; whole = n; all = n; sums = λ a l. absurd (omega arith); ahead = refl; now = refl }

module _ {c₀ c : List ℕ} {sum b : ℕ} (s : Summing c₀ c sum b) where
  pub summing_read : get_or c b 0 ≡ get_or c₀ b 0
  summing_read = get_d_back b c c₀ s.ahead b (omega arith)

  pub summing_most : b < 256 → sum + get_or c b 0 ≤ added c₀
  summing_most l = omega (arith, s.now, summing_read, added_more c₀ b (omega (arith, s.whole)), added-take c₀ (suc b))

  pub summing_next : b < 256 → Summing c₀ (set c b sum) (sum + get_or c b 0) (b + 1)
  summing_next l =
      record {
        within = omega arith;
        whole = s.whole;
        all = length-set c b sum ∙ s.all;
        sums = λ a m. either a b (λ n. get_or-set_other c b a sum 0 (λ e. omega arith) ∙ s.sums a n)
            (λ n. let e : a ≡ b = omega arith in rw e (get_or-set_same c b sum 0 (omega (arith, s.all)) ∙ s.now));
        ahead = drop-set-lt (b + 1) c b sum (omega arith) ∙ drop_back b c c₀ s.ahead (b + 1) (omega arith);
        now = rw add-one (omega (arith, s.now, summing_read, added_more c₀ b (omega (arith, s.whole))));
      }

  pub summing_end : 256 ≤ b → Counters (λ a. added (take a c₀)) c
  summing_end l = record { all = s.all; each = λ a m. s.sums a (omega arith) }

-- ---- from the counts to the places
pub counters_none : Counters (λ b. 0) (replicate 256 0)
counters_none = record { all = length-replicate {A = ℕ} 256 0; each = λ b l. get_or-replicate {A = ℕ} 256 b 0 0 l }

module _ (key : ℕ → ℕ) (xs c : List ℕ) (h : Counters (keyed key xs) c) where
  pub added-most : added c ≤ length xs
  added-most =
      let e : take 256 c ≡ c = take_all 256 c (omega (arith, h.all)) in
      omega (arith, ap added e, added-lower key xs c h 256 (omega arith), lower-most key xs 256)

  pub counters_lower : (d : List ℕ) → Counters (λ b. added (take b c)) d → Counters (keyed_below key xs) d
  counters_lower d g = record { all = g.all; each = λ b l. g.each b l ∙ added-lower key xs c h b (omega arith) }
