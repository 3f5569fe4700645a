-- The list that stands is read back as the prefixes, by their starts (`tabled`); and the lines are as they were.
-- Assumes nothing.
use mathlib.Core.Path.{◌≡◌, refl, sym, ap, ap₂, subst, ◌∙◌}
use mathlib.Core.Logic.{◌⊎◌, inl, inr}
use mathlib.Core.Bool.{Bool, true, false, cond}
use mathlib.Core.List.{List, [], ◌∷◌, ◌++◌, append_assoc, append-nil}
use Prim.Native.Nat.{ℕ, ◌+◌, ◌-◌, ◌*◌, ◌≤◌, ◌<◌}
use native.Mathlib.Omega.{arith}
use lib.ListN.{length, take, drop, get_or, length-append, length-drop, take-append-drop, drop_of_length-le}
use lib.Seq.{drop_at, take-take, length-take-le, get_or-take}
use borrow.Author.Tests.{lt-leb}
use Rattle.lists.proofs.SliceLaws.{part_at}
use Rattle.rules.specs.Prefix.{prefixes}
use Rattle.rules.proofs.BoolLaws.{and_left, and_right}
use Rattle.sort_spread.specs.Sort.{part_later, msorted, InOrder, Leads}
use Rattle.sort_tally.specs.Group.{groups_from, groups, group_starts, Grouped, parts_at}
use Rattle.sort_tally.proofs.GroupLaws.{groups-few}
use Rattle.sort_spread.proofs.OrderLaws.{length-msorted}
use Rattle.sort_tally.specs.Group.{Has, Climbing}
use Rattle.sort_tally.proofs.StableLaws.{has_cases, has_none, grouped, group_has}
use Rattle.preproc_table.specs.Entries.{lines_from, Apart}
use Rattle.preproc_table.proofs.EntryLaws.{lines_same, line_same}
use Rattle.prefix_list.specs.declared.Listed.{Listed}
use Rattle.prefix_list.specs.Listing.{plain, plain_lines, listed, starts_from, ListStands}
use Rattle.prefix_choice.specs.Choice as choice
use Rattle.prefix_choice.proofs.ReachLaws.{part-whole}
use Rattle.prefix_choice.proofs.WinnerLaws.{starts-long}

-- ---- the list, read back
parts-listed : (before : List ℕ) (qs : List (List ℕ)) (a : ℕ) → length before ≡ a → plain_lines qs ≡ true → parts_at 10 1 (before ++ listed qs) (starts_from a qs) ≡ qs
unfolding listed starts_from plain_lines
parts-listed before [] a e h = refl
parts-listed before (q ∷ qs) a e h =
    let here : List ℕ = before ++ (q ++ 10 ∷ []) in
    let l : length here ≡ a + length q + 1 = rw (length-append, length-append) (omega arith) in
    let t : before ++ (q ++ 10 ∷ listed qs) ≡ here ++ listed qs = simp append_assoc in
    let ih : parts_at 10 1 (here ++ listed qs) (starts_from (a + length q + 1) qs) ≡ qs =
    parts-listed here qs (a + length q + 1) l (and_right (plain q) (plain_lines qs) h) in
    ap₂ (λ (p : List ℕ) (ps : List (List ℕ)). p ∷ ps)
    (rw (drop_at before (q ++ 10 ∷ listed qs) a e) (part-whole q (listed qs) (and_left (plain q) (plain_lines qs) h)))
    (subst (λ (z : List ℕ). parts_at 10 1 z (starts_from (a + length q + 1) qs) ≡ qs) (sym t) ih)

climbing-starts : (a : ℕ) (qs : List (List ℕ)) → Climbing (starts_from a qs)
unfolding starts_from InOrder Leads
climbing-starts a [] = tt
climbing-starts a (q ∷ []) = (tt, tt)
climbing-starts a (q ∷ r ∷ qs) = (lt-leb (a + length q + 1) a (omega arith), climbing-starts (a + length q + 1) (r ∷ qs))

starts-under : (a : ℕ) (qs : List (List ℕ)) (b : ℕ) → Has b (starts_from a qs) → b ≤ a + length (listed qs)
unfolding starts_from listed
starts-under a [] b h = absurd (has_none b h)
starts-under a (q ∷ qs) b h = go (has_cases b a (starts_from (a + length q + 1) qs) h) (starts-under (a + length q + 1) qs b)
  where
    go : (b ≡ a) ⊎ Has b (starts_from (a + length q + 1) qs) → (Has b (starts_from (a + length q + 1) qs) → b ≤ a + length q + 1 + length (listed qs)) →
        b ≤ a + length (q ++ 10 ∷ listed qs)
    go (inl e) more = omega arith
    go (inr k) more = rw length-append (omega (arith, more k))

starts_none : (a : ℕ) (qs : List (List ℕ)) → length (starts_from a qs) ≡ 0 → qs ≡ []
unfolding starts_from
starts_none a [] h = refl
starts_none a (q ∷ qs) h = absurd (omega arith)

groups-from-some : (f : ℕ → ℕ → Bool) (x n : ℕ) (xs : List ℕ) → 0 < length (groups_from f x n xs)
unfolding groups_from
groups-from-some f x n [] = omega arith
groups-from-some f x n (y ∷ ys) = go (f y x) (groups-from-some f x (n + 1) ys)
  where
    go : (t : Bool) → 0 < length (groups_from f x (n + 1) ys) →
        0 < length (cond t (record { start = x; count = n } ∷ groups_from f y 1 ys) (groups_from f x (n + 1) ys))
    go true h = omega arith
    go false h = h

groups-some : (f : ℕ → ℕ → Bool) (xs : List ℕ) → 0 < length xs → 0 < length (groups f xs)
unfolding groups
groups-some f [] h = absurd (omega arith)
groups-some f (x ∷ xs) h = groups-from-some f x 1 xs

-- ---- the groups of k starts
module _ (text p : List ℕ) (k d : ℕ) (xs : List ℕ) (long : length xs ≡ k) (g : Grouped (groups (part_later 10 1 text) (msorted (part_later 10 1 text) k xs)) k d p) where
  pub grouped-some : 0 < k → (0 < d) × (d ≤ k)
  grouped-some h =
      let f : ℕ → ℕ → Bool = part_later 10 1 text in
      let ys : List ℕ = msorted f k xs in
      let l : length ys ≡ length xs = length-msorted f k xs in
      (omega (arith, g.many, groups-some f ys (omega arith)), omega (arith, g.many, groups-few f ys))

  pub grouped_fits : (m : ℕ) → ((a : ℕ) → Has a xs → a ≤ m) → (j : ℕ) → j < d → get_or p j 0 ≤ m
  grouped_fits m f j h =
      let e : get_or p j 0 ≡ get_or (group_starts (grouped 10 1 text k xs)) j 0 = sym (get_or-take d p j 0 h) ∙ ap (λ (l : List ℕ). get_or l j 0) g.first in
      let l : j < length (group_starts (grouped 10 1 text k xs)) = omega (arith, starts-long (grouped 10 1 text k xs), g.many) in
      rw e (f (get_or (group_starts (grouped 10 1 text k xs)) j 0) (group_has 10 1 text k xs j l))

-- ---- a part that was lent up to the end
module _ (at : ℕ) (d ys : List ℕ) (h : at ≤ length d) (l : length ys ≡ length d - at) where
  pub lent-rest : drop at (take at d ++ (ys ++ drop (length d - at) (drop at d))) ≡ ys
  lent-rest =
      let e : drop (length d - at) (drop at d) ≡ [] = drop_of_length-le (drop at d) {i = length d - at} (rw length-drop (omega arith)) in
      rw (drop_at (take at d) (ys ++ drop (length d - at) (drop at d)) at (length-take-le at d h), e) (append-nil ys)

-- ---- from the list that stands
module _ (n : ℕ) (ls : List (List ℕ)) (area₀ table₀ : List ℕ) (r : Listed) (area table : List ℕ) (st : ListStands n (prefixes ls) area₀ table₀ r area table)
    (smooth : plain_lines (prefixes ls) ≡ true) (room : 8 * n + 64 ≤ length area) (words : 12 * n + 64 ≤ length table) where
  abbrev first : List ℕ
  first = take r.k (drop (2 * n + 2) table)

  abbrev text : List ℕ
  text = take r.end area

  starts_are : first ≡ starts_from (4 * n) (prefixes ls)
  starts_are = part_at (2 * n + 2) r.k table ∙ st.starts

  starts-count : length (starts_from (4 * n) (prefixes ls)) ≡ r.k
  starts-count = ap length (sym starts_are) ∙ length-take-le r.k (drop (2 * n + 2) table) (rw length-drop (omega (arith, st.few)))

  text-is : take (4 * n) area ++ listed (prefixes ls) ≡ text
  text-is =
      let e : take (4 * n) (take r.end area) ≡ take (4 * n) area = take-take (4 * n) r.end area st.low in
      rw (← st.bytes, ← e) (take-append-drop (4 * n) (take r.end area))

  front_long : length (take (4 * n) area) ≡ 4 * n
  front_long = length-take-le (4 * n) area (omega arith)

  text-long : length text ≡ 4 * n + length (listed (prefixes ls))
  text-long = ap length (sym text-is) ∙ length-append (take (4 * n) area) (listed (prefixes ls)) ∙ ap (λ (m : ℕ). m + length (listed (prefixes ls))) front_long

  pub stands-listed : choice.ListsAt text first ls
  stands-listed =
      record {
        climbing = rw starts_are (climbing-starts (4 * n) (prefixes ls));
        parts = rw (starts_are, ← text-is) (parts-listed (take (4 * n) area) (prefixes ls) (4 * n) front_long smooth);
      }

  pub stands_fits : (a : ℕ) → Has a first → a ≤ length text
  stands_fits a h = omega (arith, text-long, starts-under (4 * n) (prefixes ls) a (rw starts_are at h))

  pub stands-none : r.k ≡ 0 → prefixes ls ≡ []
  stands-none e = starts_none (4 * n) (prefixes ls) (starts-count ∙ e)

-- ---- the lines, as they were
module _ (n count : ℕ) (area₀ table₀ area table : List ℕ) (apart : Apart n (4 * n) table₀ count) (lines : count ≤ n + 1)
    (area_low : take (4 * n) area ≡ take (4 * n) area₀) (table-low : take (2 * n + 2) table ≡ take (2 * n + 2) table₀) where
  pub view-same : (i m : ℕ) → i + m ≤ count → lines_from area table i m ≡ lines_from area₀ table₀ i m
  view-same i m h =
      lines_same area area₀ table table₀ i m
      (λ j a b. line_same count (2 * n + 2) (omega arith) table table₀ table-low (4 * n) area area₀ area_low j (omega arith) (apart.high j (omega arith)))
