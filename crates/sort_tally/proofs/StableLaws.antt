-- The sort is stable: starts that rise are sorted as if equal parts went by their starts (`msorted-stable`). So the start that a group
-- keeps is the least of its part (`covered`), a start of the list (`group_has`), and its count is how often the part stands in the
-- list (`group-count`).
-- Assumes nothing.
use mathlib.Core.Path.{◌≡◌, refl, sym, ap, ap₂, ◌∙◌, subst}
use mathlib.Core.Logic.{◌⊎◌, inl, inr}
use mathlib.Core.Bool.{Bool, true, false, cond, not, ◌&&◌, ◌||◌}
use mathlib.Core.List.{List, [], ◌∷◌}
use Prim.Native.Nat.{Ordering}
use Prim.Native.Nat.{ℕ, zero, suc, ◌+◌, ◌/◌, ◌≤◌, ◌<◌}
use native.Mathlib.Nat.{le_of_suc-le-suc, not-suc-le-zero}
use native.Mathlib.Omega.{arith}
use lib.Dec.{ltb, leb, eqb}
use lib.ListN.{length, take, drop, get_or}
use borrow.Author.Tests.{ltb-true, ltb-false, le-ltb, leb-false, lt-leb, eqb-true, eq-eqb}
use Rattle.rules.specs.Bytes.{order, same}
use Rattle.rules.specs.Table.{count_in, occurs}
use Rattle.rules.proofs.OrderLaws.{order_trans, rises-is, same_by}
use Rattle.rules.specs.Book.{Above, Rising}
use Rattle.rules.proofs.TableLaws.{count_none}
use Rattle.rules.proofs.PrefixLaws.{same_self}
use Rattle.sort_spread.specs.Sort.{part_later, right_next, merged, msorted, count_of, Leads, InOrder}
use Rattle.sort_tally.specs.Group.{Has, Climbing, Group, groups_from, groups, group_starts, counts, parts_at}
use Rattle.sort_order.proofs.PartLaws.{later-one}
use Rattle.sort_spread.proofs.OrderLaws.{count_of_msorted, inorder_msorted}
use Rattle.sort_tally.proofs.TallyLaws.{part, later, read, equal_parts, sorted_count, sorted_rising, occurs-count}

pub has_cases : (a x : ℕ) (xs : List ℕ) → Has a (x ∷ xs) → (a ≡ x) ⊎ Has a xs
unfolding count_of
has_cases a x xs h = go (eqb a x) refl h
  where
    go : (t : Bool) → eqb a x ≡ t → 0 < cond t 1 0 + count_of (eqb a) xs → (a ≡ x) ⊎ Has a xs
    go true e l = inl (eqb-true a x e)
    go false e l = inr (omega arith)

pub has_here : (a : ℕ) (xs : List ℕ) → Has a (a ∷ xs)
unfolding count_of
has_here a xs = rw (eq-eqb a a refl) (omega arith)

pub has_more : (a x : ℕ) (xs : List ℕ) → Has a xs → Has a (x ∷ xs)
unfolding count_of
has_more a x xs h = omega arith

pub has_none : (a : ℕ) → Has a [] → ⊥
unfolding count_of
has_none a h = omega arith

pub climbing_above : (z : ℕ) (xs : List ℕ) → Climbing (z ∷ xs) → (a : ℕ) → Has a xs → z < a
unfolding InOrder Leads
climbing_above z [] c a h = absurd (has_none a h)
climbing_above z (x ∷ xs) c a h = go (has_cases a x xs h) (climbing_above x xs c.1 a)
  where
    go : (a ≡ x) ⊎ Has a xs → (Has a xs → x < a) → z < a
    go (inl e) more = omega (arith, leb-false x z c.0)
    go (inr k) more = omega (arith, leb-false x z c.0, more k)

pub climbing_skip : (z x : ℕ) (xs : List ℕ) → Climbing (z ∷ x ∷ xs) → Climbing (z ∷ xs)
unfolding InOrder Leads
climbing_skip z x [] c = (tt, tt)
climbing_skip z x (y ∷ ys) c = (lt-leb y z (omega (arith, leb-false x z c.0, leb-false y x c.1.0)), c.1.1)

climbing-take : (h : ℕ) (xs : List ℕ) → Climbing xs → Climbing (take h xs)
unfolding InOrder Leads
climbing-take zero xs c = tt
climbing-take (suc h) [] c = tt
climbing-take (suc zero) (x ∷ xs) c = (tt, tt)
climbing-take (suc (suc h)) (x ∷ []) c = (tt, tt)
climbing-take (suc (suc h)) (x ∷ y ∷ xs) c = (c.0, climbing-take (suc h) (y ∷ xs) c.1)

climbing-drop : (h : ℕ) (xs : List ℕ) → Climbing xs → Climbing (drop h xs)
unfolding InOrder
climbing-drop zero xs c = c
climbing-drop (suc h) [] c = c
climbing-drop (suc h) (x ∷ xs) c = climbing-drop h xs c.1

-- all are b or more
abbrev under : ℕ → ℕ → Bool
under b y = ltb y b

least : (b z : ℕ) (xs : List ℕ) → Climbing (z ∷ xs) → b ≤ z → count_of (under b) (z ∷ xs) ≡ 0
unfolding count_of InOrder Leads
least b z [] c l = rw (le-ltb z b l)
least b z (x ∷ xs) c l =
    let k : b ≤ x = omega (arith, leb-false x z c.0) in
    rw (le-ltb z b l) (omega (arith, least b x xs c.1 k))

rest_least : (z : ℕ) (xs : List ℕ) → Climbing (z ∷ xs) → count_of (under (suc z)) xs ≡ 0
unfolding InOrder Leads
rest_least z [] c = unfold count_of in refl
rest_least z (x ∷ xs) c = least (suc z) x xs c.1 (leb-false x z c.0)

none-under : (xs : List ℕ) → count_of (under 0) xs ≡ 0
unfolding count_of
none-under [] = refl
none-under (x ∷ xs) = rw (le-ltb x 0 (omega arith)) (omega (arith, none-under xs))

-- a number that parts the first h from the others
pub record Parted (z h : ℕ) (xs : List ℕ) : Type 0 where
  pub at : ℕ
  pub above : z ≤ at
  pub low : count_of (leb at) (take h xs) ≡ 0
  pub high : count_of (under at) (drop h xs) ≡ 0

parted_from : (z h : ℕ) (xs : List ℕ) → Climbing (z ∷ xs) → Parted (suc z) h xs
unfolding count_of InOrder Leads
parted_from z zero xs c = record { at = suc z; above = omega arith; low = refl; high = rest_least z xs c }
parted_from z (suc h) [] c = record { at = suc z; above = omega arith; low = refl; high = refl }
parted_from z (suc h) (x ∷ xs) c =
    let p = parted_from x h xs c.1 in
    let n : leb p.at x ≡ false = lt-leb p.at x p.above in
    record { at = p.at; above = omega (arith, leb-false x z c.0, p.above); low = rw n (omega (arith, p.low)); high = p.high }

parted : (h : ℕ) (xs : List ℕ) → Climbing xs → Parted 0 h xs
unfolding count_of InOrder Leads
parted zero xs c = record { at = 0; above = omega arith; low = refl; high = none-under xs }
parted (suc h) [] c = record { at = 0; above = omega arith; low = refl; high = refl }
parted (suc h) (x ∷ xs) c =
    let p = parted_from x h xs c in
    let n : leb p.at x ≡ false = lt-leb p.at x p.above in
    record { at = p.at; above = omega arith; low = rw n (omega (arith, p.low)); high = p.high }

-- ---- the sort is stable
module _ (f : ℕ → ℕ → Bool) where
  -- where neither comes after the other the larger does
  unfoldable pub stable : ℕ → ℕ → Bool
  stable x y = f x y || (not (f y x) && ltb y x)

  stable-below : (x y : ℕ) → x ≤ y → f x y ≡ stable x y
  unfolding stable
  stable-below x y l = rw (le-ltb y x l) (go (f x y) (f y x))
    where
      go : (t u : Bool) → t ≡ (t || (not u && false))
      go true u = refl
      go false true = refl
      go false false = refl

  stable-one : ((x y : ℕ) → f x y ≡ true → f y x ≡ false) → (x y : ℕ) → stable x y ≡ true → stable y x ≡ false
  unfolding stable
  stable-one one x y h = go (f x y) refl (f y x) refl h
    where
      go : (t : Bool) → f x y ≡ t → (u : Bool) → f y x ≡ u → (t || (not u && ltb y x)) ≡ true → (u || (not t && ltb x y)) ≡ false
      go true e true g k = let z : ◌≡◌ {A = Bool} true false = sym g ∙ one x y e in absurd (let n : ◌≡◌ {A = ℕ} 0 1 = cc in omega arith)
      go true e false g k = refl
      go false e true g k = let n : ◌≡◌ {A = ℕ} 0 1 = cc in absurd (omega arith)
      go false e false g k = le-ltb x y (omega (arith, ltb-true y x k))

  count-drop : (q : ℕ → Bool) (xs : List ℕ) → count_of q xs ≡ 0 → count_of q (drop 1 xs) ≡ 0
  unfolding count_of
  count-drop q [] e = refl
  count-drop q (x ∷ xs) e = omega arith

  count_head : (q : ℕ → Bool) (x : ℕ) (xs : List ℕ) → count_of q (x ∷ xs) ≡ 0 → q x ≡ false
  unfolding count_of
  count_head q x xs e = go (q x) e
    where
      go : (t : Bool) → cond t 1 0 + count_of q xs ≡ 0 → t ≡ false
      go true k = absurd (omega arith)
      go false k = refl

  merged-stable : (b n : ℕ) (xs ys : List ℕ) → count_of (leb b) xs ≡ 0 → count_of (under b) ys ≡ 0 → merged f n xs ys ≡ merged stable n xs ys
  unfolding merged right_next
  merged-stable b zero xs ys l h = refl
  merged-stable b (suc n) [] ys l h = ap (λ (zs : List ℕ). get_or ys 0 0 ∷ zs) (merged-stable b n [] (drop 1 ys) l (count-drop (under b) ys h))
  merged-stable b (suc n) (x ∷ xs) [] l h = ap (λ (zs : List ℕ). x ∷ zs) (merged-stable b n xs [] (count-drop (leb b) (x ∷ xs) l) h)
  merged-stable b (suc n) (x ∷ xs) (y ∷ ys) l h =
      let p : x < b = leb-false b x (count_head (leb b) x xs l) in
      let q : b ≤ y = ltb-false y b (count_head (under b) y ys h) in
      let e : f x y ≡ stable x y = stable-below x y (omega arith) in
      rw (← e)
      (ap₂ (λ (us vs : List ℕ). cond (f x y) (y ∷ us) (x ∷ vs))
      (merged-stable b n (x ∷ xs) ys l (count-drop (under b) (y ∷ ys) h))
      (merged-stable b n xs (y ∷ ys) (count-drop (leb b) (x ∷ xs) l) h))

  pub msorted-stable : (g : ℕ) (xs : List ℕ) → Climbing xs → msorted f g xs ≡ msorted stable g xs
  unfolding msorted
  msorted-stable zero xs c = refl
  msorted-stable (suc g) xs c =
      let h : ℕ = length xs / 2 in
      let p = parted h xs c in
      let low : count_of (leb p.at) (msorted stable g (take h xs)) ≡ 0 = count_of_msorted (leb p.at) stable g (take h xs) ∙ p.low in
      let high : count_of (under p.at) (msorted stable g (drop h xs)) ≡ 0 = count_of_msorted (under p.at) stable g (drop h xs) ∙ p.high in
      ap (cond (ltb (length xs) 2) xs)
      (ap₂ (merged f (length xs)) (msorted-stable g (take h xs) (climbing-take h xs c)) (msorted-stable g (drop h xs) (climbing-drop h xs c))
      ∙ merged-stable p.at (length xs) (msorted stable g (take h xs)) (msorted stable g (drop h xs)) low high)

-- ---- the groups of starts that are in the stable order
-- among the starts ss there is one of the same part as a, and no later
pub record Represented (m c : ℕ) (s ss : List ℕ) (a : ℕ) : Type 0 where
  pub at : ℕ
  pub within : at < length ss
  pub like : part m c s (get_or ss at 0) ≡ part m c s a
  pub low : get_or ss at 0 ≤ a

module _ (m c : ℕ) (s : List ℕ) where
  abbrev after : ℕ → ℕ → Bool
  after a b = stable (later m c s) a b

  kept_next : (x a : ℕ) (ss : List ℕ) → Represented m c s ss a → Represented m c s (x ∷ ss) a
  kept_next x a ss k = record { at = suc k.at; within = omega (arith, k.within); like = k.like; low = k.low }

  kept-first : (x a : ℕ) (ss : List ℕ) → a ≡ x → Represented m c s (x ∷ ss) a
  kept-first x a ss e = record { at = 0; within = omega arith; like = ap (part m c s) (sym e); low = omega arith }

  -- a start of the same part, and no later, in the place of the first
  stable-moved : (x a : ℕ) (xs : List ℕ) → part m c s x ≡ part m c s a → a ≤ x → InOrder after (x ∷ xs) → InOrder after (a ∷ xs)
  unfolding InOrder Leads stable part_later
  stable-moved x a [] e l o = (tt, tt)
  stable-moved x a (y ∷ ys) e l o = (moved, o.1)
    where
      go : (t u : Bool) → (t || (not u && ltb y x)) ≡ false → (t || (not u && ltb y a)) ≡ false
      go true u h = h
      go false true h = refl
      go false false h = le-ltb y a (omega (arith, ltb-false y x h))

      moved : after a y ≡ false
      moved = go (later m c s a y) (later m c s y a) (rw (← e) o.0)

  covers : (start n : ℕ) (xs : List ℕ) → InOrder after (start ∷ xs) → (a : ℕ) → Has a (start ∷ xs) →
      Represented m c s (group_starts (groups_from (later m c s) start n xs)) a
  unfolding groups_from InOrder Leads stable
  covers start n [] o a h = kept-first start a [] (only (has_cases a start [] h))
    where
      only : (a ≡ start) ⊎ Has a [] → a ≡ start
      only (inl e) = e
      only (inr k) = absurd (has_none a k)
  covers start n (x ∷ xs) o a h =
      go (later m c s x start) refl (has_cases a start (x ∷ xs) h) (covers x 1 xs o.1 a)
      (λ e l b k. covers start (n + 1) xs (stable-moved x start xs e l o.1) b k)
    where
      Goal : Bool → Type 0
      Goal t =
          Represented m c s
          (group_starts (cond t (record { start = start; count = n } ∷ groups_from (later m c s) x 1 xs) (groups_from (later m c s) start (n + 1) xs))) a

      -- x joins the group: it is of the same part, and no earlier
      joins : later m c s x start ≡ false → after start x ≡ false → (part m c s x ≡ part m c s start) × (start ≤ x)
      joins e k = at (later m c s start x) refl (rw e at k)
        where
          at : (t : Bool) → later m c s start x ≡ t → (t || (not false && ltb x start)) ≡ false → (part m c s x ≡ part m c s start) × (start ≤ x)
          at true q r = let z : ◌≡◌ {A = ℕ} 0 1 = cc in absurd (omega arith)
          at false q r = (equal_parts m c s x start e q, ltb-false x start r)

      later_of : (ss : List ℕ) → part m c s x ≡ part m c s start → start ≤ x → a ≡ x → Represented m c s ss start → Represented m c s ss a
      later_of ss e l q k = record { at = k.at; within = k.within; like = k.like ∙ sym e ∙ ap (part m c s) (sym q); low = omega (arith, k.low) }

      joined : (ss : List ℕ) → part m c s x ≡ part m c s start → start ≤ x → (a ≡ start) ⊎ Has a (x ∷ xs) →
          ((b : ℕ) → Has b (start ∷ xs) → Represented m c s ss b) → Represented m c s ss a
      joined ss e l (inl q) more = more a (subst (λ (b : ℕ). Has b (start ∷ xs)) (sym q) (has_here start xs))
      joined ss e l (inr k) more = again (has_cases a x xs k)
        where
          again : (a ≡ x) ⊎ Has a xs → Represented m c s ss a
          again (inl q) = later_of ss e l q (more start (has_here start xs))
          again (inr h) = more a (has_more a start xs h)

      go : (t : Bool) → later m c s x start ≡ t → (a ≡ start) ⊎ Has a (x ∷ xs) →
          (Has a (x ∷ xs) → Represented m c s (group_starts (groups_from (later m c s) x 1 xs)) a) →
          (part m c s x ≡ part m c s start → start ≤ x → (b : ℕ) → Has b (start ∷ xs) → Represented m c s (group_starts (groups_from (later m c s) start (n + 1) xs)) b) →
          Goal t
      go true e (inl q) opens more = kept-first start a (group_starts (groups_from (later m c s) x 1 xs)) q
      go true e (inr k) opens more = kept_next start a (group_starts (groups_from (later m c s) x 1 xs)) (opens k)
      go false e w opens more =
          let j = joins e o.0 in
          joined (group_starts (groups_from (later m c s) start (n + 1) xs)) j.0 j.1 w (more j.0 j.1)

  -- a group's start is one of the list
  starts_has : (start n : ℕ) (xs : List ℕ) (j : ℕ) → j < length (group_starts (groups_from (later m c s) start n xs)) →
      Has (get_or (group_starts (groups_from (later m c s) start n xs)) j 0) (start ∷ xs)
  unfolding groups_from
  starts_has start n [] zero l = has_here start []
  starts_has start n [] (suc j) l = absurd (not-suc-le-zero (le_of_suc-le-suc l))
  starts_has start n (x ∷ xs) j l =
      go (later m c s x start) j l (λ i k. starts_has x 1 xs i k) (λ i k. starts_has start (n + 1) xs i k)
    where
      between : (a : ℕ) → (a ≡ start) ⊎ Has a xs → Has a (start ∷ x ∷ xs)
      between a (inl e) = subst (λ (b : ℕ). Has b (start ∷ x ∷ xs)) (sym e) (has_here start (x ∷ xs))
      between a (inr h) = has_more a start (x ∷ xs) (has_more a x xs h)

      go : (t : Bool) (j : ℕ) →
          j < length (group_starts (cond t (record { start = start; count = n } ∷ groups_from (later m c s) x 1 xs) (groups_from (later m c s) start (n + 1) xs))) →
          ((i : ℕ) → i < length (group_starts (groups_from (later m c s) x 1 xs)) → Has (get_or (group_starts (groups_from (later m c s) x 1 xs)) i 0) (x ∷ xs)) →
          ((i : ℕ) → i < length (group_starts (groups_from (later m c s) start (n + 1) xs)) → Has (get_or (group_starts (groups_from (later m c s) start (n + 1) xs)) i 0) (start ∷ xs)) →
          Has (get_or (group_starts (cond t (record { start = start; count = n } ∷ groups_from (later m c s) x 1 xs) (groups_from (later m c s) start (n + 1) xs))) j 0) (start ∷ x ∷ xs)
      go true zero l opens more = has_here start (x ∷ xs)
      go true (suc j) l opens more = has_more (get_or (group_starts (groups_from (later m c s) x 1 xs)) j 0) start (x ∷ xs) (opens j (le_of_suc-le-suc l))
      go false j l opens more =
          let b : ℕ = get_or (group_starts (groups_from (later m c s) start (n + 1) xs)) j 0 in
          between b (has_cases b start xs (more j l))

  -- a group's count is that of its part
  above_at : (g : List ℕ) (gs : List Group) → Above g (read m c s gs) → Rising (read m c s gs) → (j : ℕ) → j < length (group_starts gs) →
      order g (part m c s (get_or (group_starts gs) j 0)) ≡ Ordering.lt
  above_at g [] a r j l = absurd (not-suc-le-zero l)
  above_at g (h ∷ gs) a r zero l = (rises-is g (part m c s h.start)).0 a
  above_at g (h ∷ gs) a r (suc j) l =
      let p = part m c s h.start in
      order_trans g p (part m c s (get_or (group_starts gs) j 0)) ((rises-is g p).0 a) (above_at p gs r.1 r.2 j (le_of_suc-le-suc l))

  count_at : (gs : List Group) → Rising (read m c s gs) → (j : ℕ) → j < length (group_starts gs) →
      count_in (read m c s gs) (part m c s (get_or (group_starts gs) j 0)) ≡ get_or (counts gs) j 0
  unfolding count_in
  count_at [] r j l = absurd (not-suc-le-zero l)
  count_at (g ∷ gs) r zero l =
      let p = part m c s g.start in
      rw (same_self p) (omega (arith, count_none p (read m c s gs) r.1 r.2))
  count_at (g ∷ gs) r (suc j) l =
      let p = part m c s g.start in
      let q = part m c s (get_or (group_starts gs) j 0) in
      let k = le_of_suc-le-suc l in
      rw (same_by Ordering.lt p q (above_at p gs r.1 r.2 j k)) (omega (arith, count_at gs r.2 j k))

  -- ---- of a list of starts that rises
  module _ (k : ℕ) (xs : List ℕ) where
    abbrev pub grouped : List Group
    grouped = groups (later m c s) (msorted (later m c s) k xs)

    same_has : (a : ℕ) → count_of (eqb a) (msorted (later m c s) k xs) ≡ count_of (eqb a) xs
    same_has a = count_of_msorted (eqb a) (later m c s) k xs

    pub covered : Climbing xs → length xs ≤ k → (a : ℕ) → Has a xs → Represented m c s (group_starts grouped) a
    unfolding groups
    covered climb fits a h =
        go (msorted (later m c s) k xs)
        (rw (msorted-stable (later m c s) k xs climb) (inorder_msorted (stable (later m c s)) (stable-one (later m c s) (later-one m c s)) k xs fits))
        (rw (same_has a) h)
      where
        go : (ys : List ℕ) → InOrder after ys → Has a ys → Represented m c s (group_starts (groups (later m c s) ys)) a
        go [] o h = absurd (has_none a h)
        go (y ∷ ys) o h = covers y 1 ys o a h

    pub group_has : (j : ℕ) → j < length (group_starts grouped) → Has (get_or (group_starts grouped) j 0) xs
    unfolding groups
    group_has j l = rw same_has at (go (msorted (later m c s) k xs) l)
      where
        go : (ys : List ℕ) → j < length (group_starts (groups (later m c s) ys)) → Has (get_or (group_starts (groups (later m c s) ys)) j 0) ys
        go [] l = absurd (not-suc-le-zero l)
        go (y ∷ ys) l = starts_has y 1 ys j l

    pub group-count : length xs ≤ k → (j : ℕ) → j < length (group_starts grouped) →
        get_or (counts grouped) j 0 ≡ occurs (part m c s (get_or (group_starts grouped) j 0)) (parts_at m c s xs)
    group-count fits j l =
        let o = inorder_msorted (later m c s) (later-one m c s) k xs fits in
        let ys : List ℕ = msorted (later m c s) k xs in
        let p : List ℕ = part m c s (get_or (group_starts grouped) j 0) in
        sym (count_at grouped (sorted_rising m c s ys o) j l)
        ∙ sorted_count m c s p ys o
        ∙ occurs-count m c s p ys
        ∙ count_of_msorted (λ a. same (part m c s a) p) (later m c s) k xs
        ∙ sym (occurs-count m c s p xs)
