-- The groups of the sorted parts are exactly the definition's table: `groups-tallied`. The byte order that the sort goes by is the
-- definition's (`lex_order`); the groups rise strictly, and hold each part as often as the list does.
-- Assumes nothing.
use mathlib.Core.Path.{◌≡◌, refl, sym, ap, ◌∙◌}
use mathlib.Core.Bool.{Bool, true, false, cond}
use mathlib.Core.List.{List, [], ◌∷◌, map}
use Prim.Native.Nat.{ℕ, ◌+◌, ◌≤◌, ◌<◌, compare, Ordering}
use native.Mathlib.Omega.{arith}
use lib.Dec.{eqb, ltb}
use lib.ListN.{length, take, drop}
use lib.Seq.{length-take-le}
use borrow.Author.Tests.{eq-eqb, ne_eqb, lt-ltb, le-ltb}
use Rattle.rules.specs.Bytes.{order, same, rises}
use Rattle.rules.specs.Prefix.{Counted}
use Rattle.rules.specs.Table.{tallied, count_in, occurs}
use Rattle.rules.proofs.OrderLaws.{Compared, compared, flip, order_eq, order_flip, rises-is}
use Rattle.rules.specs.Book.{Above, Rising}
use Rattle.rules.proofs.TableLaws.{tallied-count, tallied-rising, entries_exactly}
use Rattle.sort_spread.specs.Sort.{part_of, lex_later, part_later, msorted, count_of, Leads, InOrder}
use Rattle.sort_spread.specs.Spread.{Shuffled}
use Rattle.sort_tally.specs.Group.{Group, groups_from, groups, group_starts, counts, Grouped, entries_from, entries_at, parts_at}
use Rattle.sort_order.proofs.PartLaws.{later-one}
use Rattle.sort_spread.proofs.OrderLaws.{count_of_msorted, inorder_msorted}

-- ---- the order
abbrev pub is_gt : Ordering → Bool
is_gt Ordering.lt = false
is_gt Ordering.eq = false
is_gt Ordering.gt = true

pub lex_order : (xs ys : List ℕ) → lex_later xs ys ≡ is_gt (order xs ys)
unfolding lex_later order
lex_order [] [] = refl
lex_order [] (y ∷ ys) = refl
lex_order (x ∷ xs) [] = refl
lex_order (x ∷ xs) (y ∷ ys) = go (compare x y) (compared x y) (lex_order xs ys)
  where
    go : (o : Ordering) → Compared o x y → lex_later xs ys ≡ is_gt (order xs ys) →
        cond (eqb y x) (lex_later xs ys) (ltb y x) ≡
        is_gt (elim o [ Ordering.lt ↦ Ordering.lt | Ordering.eq ↦ order xs ys | Ordering.gt ↦ Ordering.gt ])
    go Ordering.lt h e = rw (ne_eqb y x (λ z. omega arith), le-ltb y x (omega arith))
    go Ordering.eq h e = rw (eq-eqb y x (sym h)) e
    go Ordering.gt h e = rw (ne_eqb y x (λ z. omega arith), lt-ltb y x h)

-- the first comes after the second: the second rises to it
pub lex_rises : (xs ys : List ℕ) → lex_later xs ys ≡ true → rises ys xs ≡ true
lex_rises xs ys h = go (order xs ys) refl (sym (lex_order xs ys) ∙ h)
  where
    go : (o : Ordering) → order xs ys ≡ o → is_gt o ≡ true → rises ys xs ≡ true
    go Ordering.lt e t = let z : ◌≡◌ {A = ℕ} 0 1 = cc in absurd (omega arith)
    go Ordering.eq e t = let z : ◌≡◌ {A = ℕ} 0 1 = cc in absurd (omega arith)
    go Ordering.gt e t = (rises-is ys xs).1 (order_flip xs ys ∙ ap flip e)

-- neither comes after the other: they are equal
lex_equal : (xs ys : List ℕ) → lex_later xs ys ≡ false → lex_later ys xs ≡ false → xs ≡ ys
lex_equal xs ys h k = go (order xs ys) refl (sym (lex_order xs ys) ∙ h) (sym (lex_order ys xs ∙ ap is_gt (order_flip xs ys)) ∙ k)
  where
    go : (o : Ordering) → order xs ys ≡ o → is_gt o ≡ false → is_gt (flip (order xs ys)) ≡ false → xs ≡ ys
    go Ordering.lt e t u = let w = rw e at u in let z : ◌≡◌ {A = ℕ} 0 1 = cc in absurd (omega arith)
    go Ordering.eq e t u = (order_eq xs ys).0 e
    go Ordering.gt e t u = let z : ◌≡◌ {A = ℕ} 0 1 = cc in absurd (omega arith)

-- ---- the groups read as counted parts
module _ (m c : ℕ) (s : List ℕ) where
  abbrev pub part : ℕ → List ℕ
  part a = part_of m c (drop a s)

  abbrev pub later : ℕ → ℕ → Bool
  later a b = part_later m c s a b

  abbrev pub read : List Group → List Counted
  read gs = map (λ (g : Group). record { bytes = part g.start; count = g.count }) gs

  pub entries-read : (gs : List Group) → entries_from m c s (group_starts gs) (counts gs) ≡ read gs
  unfolding entries_from
  entries-read [] = refl
  entries-read (g ∷ gs) = ap (λ (es : List Counted). record { bytes = part g.start; count = g.count } ∷ es) (entries-read gs)

  pub equal_parts : (x a : ℕ) → later x a ≡ false → later a x ≡ false → part x ≡ part a
  unfolding part_later
  equal_parts x a h k = lex_equal (part x) (part a) h k

  -- the first group is that of `start`
  groups_above : (g : List ℕ) (start n : ℕ) (xs : List ℕ) → rises g (part start) ≡ true → Above g (read (groups_from later start n xs))
  unfolding groups_from
  groups_above g start n [] h = h
  groups_above g start n (x ∷ xs) h = go (later x start) (groups_above g start (n + 1) xs h)
    where
      go : (t : Bool) → Above g (read (groups_from later start (n + 1) xs)) →
          Above g (read (cond t (record { start = start; count = n } ∷ groups_from later x 1 xs) (groups_from later start (n + 1) xs)))
      go true more = h
      go false more = more

  -- an equal one in the place of the first
  moved : (x a : ℕ) (xs : List ℕ) → part x ≡ part a → InOrder later (x ∷ xs) → InOrder later (a ∷ xs)
  unfolding InOrder Leads part_later
  moved x a [] e h = (tt, tt)
  moved x a (y ∷ ys) e h = (rw (← e) h.0, h.1)

  groups-rising : (start n : ℕ) (xs : List ℕ) → 0 < n → InOrder later (start ∷ xs) → Rising (read (groups_from later start n xs))
  unfolding groups_from InOrder Leads
  groups-rising start n [] h o = (h, tt, tt)
  groups-rising start n (x ∷ xs) h o =
      go (later x start) refl (λ e. groups-rising start (n + 1) xs (omega arith) (moved x start xs e o.1))
      (groups-rising x 1 xs (omega arith) o.1)
    where
      go : (t : Bool) → later x start ≡ t → (part x ≡ part start → Rising (read (groups_from later start (n + 1) xs))) →
          Rising (read (groups_from later x 1 xs)) →
          Rising (read (cond t (record { start = start; count = n } ∷ groups_from later x 1 xs) (groups_from later start (n + 1) xs)))
      go true e joins opens = (h, groups_above (part start) x 1 xs (lex_rises (part x) (part start) (unfold part_later in e)), opens)
      go false e joins opens = joins (equal_parts x start e o.0)

  groups-count : (g : List ℕ) (start n : ℕ) (xs : List ℕ) → InOrder later (start ∷ xs) →
      count_in (read (groups_from later start n xs)) g ≡ cond (same (part start) g) n 0 + occurs g (parts_at m c s xs)
  unfolding groups_from InOrder Leads count_in occurs
  groups-count g start n [] o = refl
  groups-count g start n (x ∷ xs) o =
      go (later x start) refl (λ e. groups-count g start (n + 1) xs (moved x start xs e o.1)) (groups-count g x 1 xs o.1)
    where
      more : (t : Bool) (k : ℕ) → cond t (n + 1) 0 + k ≡ cond t n 0 + (cond t 1 0 + k)
      more true k = omega arith
      more false k = omega arith

      rest : ℕ
      rest = occurs g (parts_at m c s xs)

      go : (t : Bool) → later x start ≡ t →
          (part x ≡ part start → count_in (read (groups_from later start (n + 1) xs)) g ≡ cond (same (part start) g) (n + 1) 0 + rest) →
          count_in (read (groups_from later x 1 xs)) g ≡ cond (same (part x) g) 1 0 + rest →
          count_in (read (cond t (record { start = start; count = n } ∷ groups_from later x 1 xs) (groups_from later start (n + 1) xs))) g
          ≡ cond (same (part start) g) n 0 + (cond (same (part x) g) 1 0 + rest)
      go true e joins opens = ap (λ (k : ℕ). cond (same (part start) g) n 0 + k) opens
      go false e joins opens =
          let q = equal_parts x start e o.0 in
          joins q ∙ more (same (part start) g) rest ∙ rw q

  -- a list of starts that are in order
  pub sorted_count : (g : List ℕ) (xs : List ℕ) → InOrder later xs → count_in (read (groups later xs)) g ≡ occurs g (parts_at m c s xs)
  unfolding groups count_in occurs
  sorted_count g [] o = refl
  sorted_count g (x ∷ xs) o = groups-count g x 1 xs o

  pub sorted_rising : (xs : List ℕ) → InOrder later xs → Rising (read (groups later xs))
  unfolding groups
  sorted_rising [] o = tt
  sorted_rising (x ∷ xs) o = groups-rising x 1 xs (omega arith) o

  pub occurs-count : (g : List ℕ) (xs : List ℕ) → occurs g (parts_at m c s xs) ≡ count_of (λ a. same (part a) g) xs
  unfolding occurs count_of
  occurs-count g [] = refl
  occurs-count g (x ∷ xs) = ap (λ (k : ℕ). cond (same (part x) g) 1 0 + k) (occurs-count g xs)

  pub groups-tallied : (k : ℕ) (xs : List ℕ) → length xs ≤ k → read (groups later (msorted later k xs)) ≡ tallied (parts_at m c s xs)
  groups-tallied k xs h =
      let o = inorder_msorted later (later-one m c s) k xs h in
      let gs = parts_at m c s xs in
      (entries_exactly (read (groups later (msorted later k xs))) (tallied gs) (sorted_rising (msorted later k xs) o) (tallied-rising gs)).1
      (λ g. sorted_count g (msorted later k xs) o
      ∙ occurs-count g (msorted later k xs)
      ∙ count_of_msorted (λ a. same (part a) g) later k xs
      ∙ sym (occurs-count g xs)
      ∙ sym (tallied-count g gs))

  -- the table does not depend on the order
  pub tallied_shuffled : (xs ys : List ℕ) → Shuffled xs ys → tallied (parts_at m c s xs) ≡ tallied (parts_at m c s ys)
  tallied_shuffled xs ys h =
      let us = parts_at m c s xs in
      let vs = parts_at m c s ys in
      (entries_exactly (tallied us) (tallied vs) (tallied-rising us) (tallied-rising vs)).1
      (λ g. tallied-count g us ∙ occurs-count g xs ∙ h (λ a. same (part a) g) ∙ sym (occurs-count g ys) ∙ sym (tallied-count g vs))

  -- what the two steps leave, read back
  pub table-there : (k d : ℕ) (p₀ p₁ p₂ : List ℕ) → k ≤ length p₀ → take k p₁ ≡ msorted later k (take k p₀)
      → Grouped (groups later (take k p₁)) k d p₂ → entries_at m c s p₂ k d ≡ tallied (parts_at m c s (take k p₀))
  unfolding entries_at
  table-there k d p₀ p₁ p₂ h e g =
      rw (g.first, g.second) (entries-read (groups later (take k p₁)) ∙ rw e (groups-tallied k (take k p₀) (omega (arith, length-take-le k p₀ h))))
