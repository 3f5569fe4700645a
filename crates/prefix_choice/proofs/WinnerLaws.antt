-- The group that no other beats is the winner of the definition, and the sum over the groups is the definition's: `decided`.
-- Assumes nothing.
use mathlib.Core.Path.{◌≡◌, refl, sym, ap, ◌∙◌, subst}
use mathlib.Core.Logic.{◌⊎◌, inl, inr}
use mathlib.Core.Bool.{Bool, true, false, cond}
use mathlib.Core.List.{List, [], ◌∷◌, map}
use Prim.Native.Nat.{ℕ, suc, ◌+◌, ◌*◌, ◌/◌, ◌≤◌, ◌<◌}
use native.Mathlib.Omega.{arith}
use lib.Dec.{ltb}
use lib.ListN.{length, drop, get_or, length-drop}
use lib.Seq.{slice, get_or-take, get_or-drop}
use borrow.Author.Tests.{ltb-true, ltb-false, lt-ltb, le-ltb, leb-false}
use Rattle.lists.proofs.SliceLaws.{part_at}
use Rattle.rules.specs.Bytes.{same}
use Rattle.rules.specs.Prefix.{prefixes, four_fifths, strip, without_prefix, reached}
use Rattle.rules.specs.Table.{tallied, occurs}
use Rattle.rules.proofs.PrefixLaws.{first_most, without-prefix, same_self}
use Rattle.sort_spread.specs.Sort.{part_of, InOrder, Leads}
use Rattle.sort_tally.specs.Group.{Group, group_starts, counts, entries_at, parts_at}
use Rattle.sort_order.proofs.PartLaws.{part-front, part-short}
use Rattle.sort_tally.proofs.TallyLaws.{part, entries-read, groups-tallied}
use Rattle.sort_tally.specs.Group.{Has, Climbing}
use Rattle.sort_tally.proofs.StableLaws.{has_cases, has_here, has_more, has_none, climbing_skip, Represented, grouped, covered, group_has, group-count}
use Rattle.prefix_list.specs.Listing.{plain}
use Rattle.prefix_choice.specs.Choice.{Beaten, Grouping}
use Rattle.prefix_choice.proofs.ReachLaws.{part-plain}

-- ---- the first start with the highest number
unfoldable pub top_start : (ℕ → ℕ) → ℕ → List ℕ → ℕ
top_start many b [] = b
top_start many b (x ∷ xs) = top_start many (cond (ltb (many b) (many x)) x b) xs

module _ (text : List ℕ) (many : List ℕ → ℕ) where
  abbrev of : ℕ → List ℕ
  of a = part 10 1 text a

  top_part : (b : ℕ) (xs : List ℕ) → first_most many (of b) (parts_at 10 1 text xs) ≡ of (top_start (λ a. many (of a)) b xs)
  unfolding first_most top_start
  top_part b [] = refl
  top_part b (x ∷ xs) = go (ltb (many (of b)) (many (of x))) (top_part x xs) (top_part b xs)
    where
      go : (t : Bool) → first_most many (of x) (parts_at 10 1 text xs) ≡ of (top_start (λ a. many (of a)) x xs) →
          first_most many (of b) (parts_at 10 1 text xs) ≡ of (top_start (λ a. many (of a)) b xs) →
          first_most many (cond t (of x) (of b)) (parts_at 10 1 text xs) ≡ of (top_start (λ a. many (of a)) (cond t x b) xs)
      go true e f = e
      go false e f = f

module _ (many : ℕ → ℕ) (w : ℕ) where
  -- none of the list has more, and none that has as many starts before
  abbrev Under : List ℕ → Type 0
  Under xs = (a : ℕ) → Has a xs → (many a ≤ many w) × (many a ≡ many w → w ≤ a)

  top_is : (b : ℕ) (xs : List ℕ) → Climbing (b ∷ xs) → Has w (b ∷ xs) → Under (b ∷ xs) → top_start many b xs ≡ w
  unfolding top_start
  top_is b [] c h u = go (has_cases w b [] h)
    where
      go : (w ≡ b) ⊎ Has w [] → b ≡ w
      go (inl e) = sym e
      go (inr k) = absurd (has_none w k)
  top_is b (x ∷ xs) c h u =
      go (ltb (many b) (many x)) refl (has_cases w b (x ∷ xs) h)
      (λ k. top_is x xs (unfold InOrder in c.1) k (λ a l. u a (has_more a b (x ∷ xs) l)))
      (λ k. top_is b xs (climbing_skip b x xs c) k (λ a l. u a (between a (has_cases a b xs l))))
    where
      between : (a : ℕ) → (a ≡ b) ⊎ Has a xs → Has a (b ∷ x ∷ xs)
      between a (inl e) = subst (λ (z : ℕ). Has z (b ∷ x ∷ xs)) (sym e) (has_here b (x ∷ xs))
      between a (inr k) = has_more a b (x ∷ xs) (has_more a x xs k)

      rises : b < x
      rises = leb-false x b (unfold InOrder Leads in c.0)

      bound_x : many x ≤ many w
      bound_x = (u x (has_more x b (x ∷ xs) (has_here x xs))).0

      first_b : (many b ≤ many w) × (many b ≡ many w → w ≤ b)
      first_b = u b (has_here b (x ∷ xs))

      kept : many x ≤ many b → (w ≡ b) ⊎ Has w (x ∷ xs) → Has w (b ∷ xs)
      kept l (inl e) = subst (λ (z : ℕ). Has z (b ∷ xs)) (sym e) (has_here b xs)
      kept l (inr k) = again (has_cases w x xs k)
        where
          again : (w ≡ x) ⊎ Has w xs → Has w (b ∷ xs)
          again (inl e) =
              let q : many w ≡ many x = ap many e in
              let r : many b ≡ many w = omega (arith, first_b.0) in
              absurd (omega (arith, first_b.1 r, rises))
          again (inr m) = has_more w b xs m

      moved : many b < many x → (w ≡ b) ⊎ Has w (x ∷ xs) → Has w (x ∷ xs)
      moved l (inl e) = let q : many w ≡ many b = ap many e in absurd (omega (arith, bound_x))
      moved l (inr k) = k

      go : (t : Bool) → ltb (many b) (many x) ≡ t → (w ≡ b) ⊎ Has w (x ∷ xs) → (Has w (x ∷ xs) → top_start many x xs ≡ w) → (Has w (b ∷ xs) → top_start many b xs ≡ w) →
          top_start many (cond t x b) xs ≡ w
      go true e k right left = right (moved (ltb-true (many b) (many x) e) k)
      go false e k right left = left (kept (ltb-false (many b) (many x) e) k)

-- ---- a part, as bytes of the text
module _ (text : List ℕ) (a e : ℕ) (q : e ≡ a + length (part_of 10 1 (drop a text))) where
  pub part_bytes : slice a e text ≡ part_of 10 1 (drop a text)
  part_bytes = rw (q, ← part_at a (length (part_of 10 1 (drop a text))) text) (sym (part-front 10 1 (drop a text)))

  pub part-within : a ≤ length text → (a ≤ e) × (e ≤ length text)
  part-within h = omega (arith, q, part-short 10 1 (drop a text), length-drop a text)

  pub part_smooth : plain (slice a e text) ≡ true
  part_smooth = rw part_bytes (part-plain (drop a text))

has_occurs : (text : List ℕ) (a : ℕ) (xs : List ℕ) → Has a xs → 0 < occurs (part 10 1 text a) (parts_at 10 1 text xs)
unfolding occurs
has_occurs text a [] h = absurd (has_none a h)
has_occurs text a (x ∷ xs) h = go (has_cases a x xs h) (has_occurs text a xs)
  where
    go : (a ≡ x) ⊎ Has a xs → (Has a xs → 0 < occurs (part 10 1 text a) (parts_at 10 1 text xs)) →
        0 < cond (same (part 10 1 text x) (part 10 1 text a)) 1 0 + occurs (part 10 1 text a) (parts_at 10 1 text xs)
    go (inl e) more = rw (e, same_self (part 10 1 text x)) (omega arith)
    go (inr k) more = omega (arith, more k)

-- ---- the choice
pub starts-long : (gs : List Group) → length (group_starts gs) ≡ length gs
starts-long [] = refl
starts-long (g ∷ gs) = ap suc (starts-long gs)

module _ (text p : List ℕ) (k d : ℕ) (ls : List (List ℕ)) (xs : List ℕ) (t : Grouping text p k d ls xs) where
  abbrev gs : List Group
  gs = grouped 10 1 text k xs

  long : length (group_starts gs) ≡ d
  long = starts-long gs ∙ sym t.grouped.many

  start_is : (j : ℕ) → j < d → get_or p j 0 ≡ get_or (group_starts gs) j 0
  start_is j h = sym (get_or-take d p j 0 h) ∙ ap (λ (l : List ℕ). get_or l j 0) t.grouped.first

  count-is : (j : ℕ) → j < d → get_or p (k + j) 0 ≡ get_or (counts gs) j 0
  count-is j h = sym (get_or-drop k p j 0) ∙ sym (get_or-take d (drop k p) j 0 h) ∙ ap (λ (l : List ℕ). get_or l j 0) t.grouped.second

  abbrev seen : ℕ → ℕ
  seen a = occurs (part 10 1 text a) (parts_at 10 1 text xs)

  fits : length xs ≤ k
  fits = omega (arith, t.long)

  count-seen : (j : ℕ) → j < d → get_or p (k + j) 0 ≡ seen (get_or p j 0)
  count-seen j h = count-is j h ∙ group-count 10 1 text k xs fits j (omega (arith, long)) ∙ ap seen (sym (start_is j h))

  start_has : (j : ℕ) → j < d → Has (get_or p j 0) xs
  start_has j h = rw (start_is j h) (group_has 10 1 text k xs j (omega (arith, long)))

  -- the entries are the definition's table
  entries_are : entries_at 10 1 text p k d ≡ tallied (prefixes ls)
  unfolding entries_at
  entries_are = rw (t.grouped.first, t.grouped.second) (entries-read 10 1 text gs ∙ groups-tallied 10 1 text k xs fits ∙ ap tallied t.listed.parts)

  module _ (w : ℕ) (h : w < d) (most : (j : ℕ) → j < d → Beaten p k j w) where
    abbrev best : ℕ
    best = get_or p w 0

    under : (a : ℕ) → Has a xs → (seen a ≤ seen best) × (seen a ≡ seen best → best ≤ a)
    under a l = at (covered 10 1 text k xs t.listed.climbing fits a l)
      where
        at : Represented 10 1 text (group_starts gs) a → (seen a ≤ seen best) × (seen a ≡ seen best → best ≤ a)
        at r =
            let j : ℕ = r.at in
            let b : j < d = omega (arith, r.within, long) in
            let m = most j b in
            let s = start_is j b in
            let c : get_or p (k + j) 0 ≡ seen a =
            count-seen j b ∙ ap (λ (q : List ℕ). occurs q (parts_at 10 1 text xs)) (ap (part 10 1 text) s ∙ r.like) in
            let e = count-seen w h in (
              omega (arith, m.most),
              λ q.
                  let f = m.first (c ∙ q ∙ sym e) in
                  omega (arith, r.low),
            )

    first-is : (ys : List ℕ) → Climbing ys → parts_at 10 1 text ys ≡ prefixes ls → Has best ys →
        ((a : ℕ) → Has a ys → (occurs (part 10 1 text a) (parts_at 10 1 text ys) ≤ occurs (part 10 1 text best) (parts_at 10 1 text ys)) × (occurs (part 10 1 text a) (parts_at 10 1 text ys) ≡ occurs (part 10 1 text best) (parts_at 10 1 text ys) → best ≤ a)) →
        without_prefix ls ≡ cond (ltb (reached (part 10 1 text best) (tallied (parts_at 10 1 text ys))) (four_fifths (length ls))) ls (map (strip (part 10 1 text best)) ls)
    first-is [] c e b u = absurd (has_none best b)
    first-is (y ∷ ys) c e b u =
        without-prefix ls (part 10 1 text y) (parts_at 10 1 text ys) (part 10 1 text best) (sym e)
        (top_part text (λ q. occurs q (parts_at 10 1 text (y ∷ ys))) y ys ∙ ap (part 10 1 text) (top_is (λ a. occurs (part 10 1 text a) (parts_at 10 1 text (y ∷ ys))) best y ys c b u))

    pub decided : without_prefix ls ≡ cond (ltb (reached (part 10 1 text best) (entries_at 10 1 text p k d)) (four_fifths (length ls))) ls (map (strip (part 10 1 text best)) ls)
    decided = rw (entries_are, ← t.listed.parts) (first-is xs t.listed.climbing t.listed.parts (start_has w h) under)

    pub decided_seen : 0 < occurs (part 10 1 text best) (prefixes ls)
    decided_seen = rw (← t.listed.parts) (has_occurs text best xs (start_has w h))

    -- by the sum that the code has
    module _ (a e sum lines : ℕ) (ea : a ≡ best) (ee : e ≡ a + length (part_of 10 1 (drop a text))) (es : sum ≡ reached (slice a e text) (entries_at 10 1 text p k d)) (el : length ls ≡ lines) where
      bytes_are : slice a e text ≡ part 10 1 text best
      bytes_are = part_bytes text a e ee ∙ ap (part 10 1 text) ea

      by_sum : without_prefix ls ≡ cond (ltb sum (4 * lines / 5)) ls (map (strip (slice a e text)) ls)
      unfolding four_fifths
      by_sum = rw (es, ← el, bytes_are) decided

      pub decided_none : sum < 4 * lines / 5 → without_prefix ls ≡ ls
      decided_none l = rw (lt-ltb sum (4 * lines / 5) l) at by_sum

      pub decided_some : 4 * lines / 5 ≤ sum → without_prefix ls ≡ map (strip (slice a e text)) ls
      decided_some l = rw (le-ltb sum (4 * lines / 5) l) at by_sum

      pub decided_there : 0 < occurs (slice a e text) (prefixes ls)
      decided_there = rw bytes_are decided_seen
