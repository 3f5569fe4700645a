-- The kinds of line passes 4 and 5 in one walk: `joined` is `in_turn` (`joined-turn`), where the byte that a kind leaves is of no later kind
-- and no later kind leaves the same (`Good`). So one walk by the table of classes is passes 4 and 5 (`joined-signs`).
-- Assumes nothing.
use mathlib.Core.Path.{◌≡◌, refl, sym, subst, ap, ◌∙◌}
use mathlib.Core.Bool.{Bool, true, false, cond}
use mathlib.Core.List.{List, [], ◌∷◌}
use Prim.Native.Nat.{ℕ, ◌<◌, ◌≤◌}
use lib.Dec.{eqb}
use lib.ListN.{get_or}
use borrow.Author.Tests.{eqb-true, eqb-false, eq-eqb, ne_eqb, le-leb}
use native.Mathlib.Omega.{arith}
use Rattle.std.proofs.lemmas.Bool.Decides.{nat_tests}
use Rattle.std.specs.Option.{option_eq}
use Rattle.std.proofs.Common.{Option, Some, None, MatchOption, unwrap_or, is_some, not, ◌||◌, rules, ◌≢◌}
use Rattle.rules.specs.Bytes.{within, runs}
use Rattle.rules.specs.Lines.{signs}
use Rattle.rules.proofs.Opened.{opened}
use Rattle.slices.specs.Classes.{in_class, gap_in, class_table, Classes}
use Rattle.slices.proofs.KindLaws.{quote-table, dash_table, open_table, close_table, under_table}
use Rattle.preproc_signs.specs.Signs.{Kind, kinds, sign_in, in_turn, joined}

-- ---- one kind, by the first byte
module _ (p : ℕ → Bool) (r x : ℕ) (xs : List ℕ) where
  run-stays : (b : Bool) → p x ≡ false → runs p r b (x ∷ xs) ≡ x ∷ runs p r false xs
  unfolding runs
  run-stays b e = rw e

  run-goes-on : p x ≡ true → runs p r true (x ∷ xs) ≡ runs p r true xs
  unfolding runs
  run-goes-on e = rw e

  run-opens : p x ≡ true → runs p r false (x ∷ xs) ≡ r ∷ runs p r true xs
  unfolding runs
  run-opens e = rw e

-- c is of none of the kinds; and none of them leaves r
unfoldable pub Outside : ℕ → List Kind → Type 0
Outside c [] = Unit {0}
Outside c (k ∷ ks) = (within k.lo k.hi c ≡ false) × Outside c ks

unfoldable pub Fresh : ℕ → List Kind → Type 0
Fresh r [] = Unit {0}
Fresh r (k ∷ ks) = (r ≡ k.rep → ⊥) × Fresh r ks

unfoldable pub Good : (ℕ → ℕ) → List Kind → Type 0
Good class [] = Unit {0}
Good class (k ∷ ks) = (0 ≡ k.rep → ⊥) × Fresh k.rep ks × Outside (class k.rep) ks × Good class ks

-- what a later kind leaves
sign_fresh : (ks : List Kind) (r c : ℕ) → Fresh r ks → (sign_in ks c ≡ 0 → ⊥) → sign_in ks c ≡ r → ⊥
unfolding sign_in Fresh
sign_fresh [] r c f n e = n refl
sign_fresh (k ∷ ks) r c f n e = at (within k.lo k.hi c) n e (sign_fresh ks r c f.1)
  where
    at : (t : Bool) → (cond t k.rep (sign_in ks c) ≡ 0 → ⊥) → cond t k.rep (sign_in ks c) ≡ r → ((sign_in ks c ≡ 0 → ⊥) → sign_in ks c ≡ r → ⊥) → ⊥
    at true m q more = f.0 (sym q)
    at false m q more = more m q

module _ (class : ℕ → ℕ) where
  -- the kind's test
  abbrev of : Kind → ℕ → Bool
  of k x = within k.lo k.hi (class x)

  -- a byte of no kind stays, and no run goes on behind it
  turn_outside : (ks : List Kind) (g h x : ℕ) (xs : List ℕ) → Outside (class x) ks → Fresh h ks → in_turn class ks g (x ∷ xs) ≡ x ∷ in_turn class ks h xs
  unfolding in_turn Outside Fresh
  turn_outside [] g h x xs o f = refl
  turn_outside (k ∷ ks) g h x xs o f =
      rw (run-stays (of k) k.rep x xs (eqb g k.rep) o.0, ne_eqb h k.rep f.0)
      (turn_outside ks g h x (runs (of k) k.rep false xs) o.1 f.1)

  -- a byte that becomes 0 is of no kind
  turn-stays : (ks : List Kind) (g x : ℕ) (xs : List ℕ) → Good class ks → sign_in ks (class x) ≡ 0 → in_turn class ks g (x ∷ xs) ≡ x ∷ in_turn class ks 0 xs
  unfolding in_turn sign_in Good
  turn-stays [] g x xs d e = refl
  turn-stays (k ∷ ks) g x xs d e = at (of k x) refl e (turn-stays ks g x (runs (of k) k.rep false xs) d.3)
    where
      at : (t : Bool) → of k x ≡ t → cond t k.rep (sign_in ks (class x)) ≡ 0
          → (sign_in ks (class x) ≡ 0 → in_turn class ks g (x ∷ runs (of k) k.rep false xs) ≡ x ∷ in_turn class ks 0 (runs (of k) k.rep false xs))
          → in_turn class ks g (runs (of k) k.rep (eqb g k.rep) (x ∷ xs)) ≡ x ∷ in_turn class ks 0 (runs (of k) k.rep (eqb 0 k.rep) xs)
      at true q z more = absurd (d.0 (sym z))
      at false q z more = rw (run-stays (of k) k.rep x xs (eqb g k.rep) q, ne_eqb 0 k.rep d.0) (more z)

  -- a byte that becomes what the one before became is gone
  turn-goes-on : (ks : List Kind) (g x : ℕ) (xs : List ℕ) → Good class ks → (g ≡ 0 → ⊥) → sign_in ks (class x) ≡ g
      → in_turn class ks g (x ∷ xs) ≡ in_turn class ks g xs
  unfolding in_turn sign_in Good
  turn-goes-on [] g x xs d n e = absurd (n (sym e))
  turn-goes-on (k ∷ ks) g x xs d n e = at (of k x) refl e (turn-goes-on ks g x (runs (of k) k.rep false xs) d.3 n)
    where
      at : (t : Bool) → of k x ≡ t → cond t k.rep (sign_in ks (class x)) ≡ g
          → (sign_in ks (class x) ≡ g → in_turn class ks g (x ∷ runs (of k) k.rep false xs) ≡ in_turn class ks g (runs (of k) k.rep false xs))
          → in_turn class ks g (runs (of k) k.rep (eqb g k.rep) (x ∷ xs)) ≡ in_turn class ks g (runs (of k) k.rep (eqb g k.rep) xs)
      at true q z more = rw (eq-eqb g k.rep (sym z), run-goes-on (of k) k.rep x xs q)
      at false q z more =
          let m : g ≡ k.rep → ⊥ = (λ w. sign_fresh ks k.rep (class x) d.1 (λ v. n (sym z ∙ v)) (z ∙ w)) in
          rw (ne_eqb g k.rep m, run-stays (of k) k.rep x xs false q) (more z)

  -- any other becomes its sign
  turn-opens : (ks : List Kind) (g x s : ℕ) (xs : List ℕ) → Good class ks → sign_in ks (class x) ≡ s → (s ≡ 0 → ⊥) → (s ≡ g → ⊥)
      → in_turn class ks g (x ∷ xs) ≡ s ∷ in_turn class ks s xs
  unfolding in_turn sign_in Good
  turn-opens [] g x s xs d e n m = absurd (n (sym e))
  turn-opens (k ∷ ks) g x s xs d e n m = at (of k x) refl e (λ z. turn-opens ks g x s (runs (of k) k.rep false xs) d.3 z n m)
    where
      at : (t : Bool) → of k x ≡ t → cond t k.rep (sign_in ks (class x)) ≡ s
          → (sign_in ks (class x) ≡ s → in_turn class ks g (x ∷ runs (of k) k.rep false xs) ≡ s ∷ in_turn class ks s (runs (of k) k.rep false xs))
          → in_turn class ks g (runs (of k) k.rep (eqb g k.rep) (x ∷ xs)) ≡ s ∷ in_turn class ks s (runs (of k) k.rep (eqb s k.rep) xs)
      at true q z more =
          let v : g ≡ k.rep → ⊥ = (λ w. m (sym z ∙ sym w)) in
          rw (← z, ne_eqb g k.rep v, run-opens (of k) k.rep x xs q, eq-eqb k.rep k.rep refl)
          (turn_outside ks g k.rep k.rep (runs (of k) k.rep true xs) d.2 d.1)
      at false q z more =
          let v : s ≡ k.rep → ⊥ = (λ w. sign_fresh ks k.rep (class x) d.1 (λ u. n (sym z ∙ u)) (z ∙ w)) in
          rw (ne_eqb s k.rep v, run-stays (of k) k.rep x xs (eqb g k.rep) q) (more z)

  turn_end : (ks : List Kind) (g : ℕ) → in_turn class ks g [] ≡ []
  unfolding in_turn runs
  turn_end [] g = refl
  turn_end (k ∷ ks) g = turn_end ks g

  pub joined-turn : (ks : List Kind) → Good class ks → (g : ℕ) (xs : List ℕ) → joined (λ x. sign_in ks (class x)) g xs ≡ in_turn class ks g xs
  unfolding joined
  joined-turn ks d g [] = sym (turn_end ks g)
  joined-turn ks d g (x ∷ xs) = at (eqb s 0) refl (eqb s g) refl (λ h. joined-turn ks d h xs)
    where
      s : ℕ
      s = sign_in ks (class x)

      at : (t : Bool) → eqb s 0 ≡ t → (u : Bool) → eqb s g ≡ u → ((h : ℕ) → joined (λ y. sign_in ks (class y)) h xs ≡ in_turn class ks h xs)
          → cond t (x ∷ joined (λ y. sign_in ks (class y)) 0 xs) (cond u (joined (λ y. sign_in ks (class y)) g xs) (s ∷ joined (λ y. sign_in ks (class y)) s xs)) ≡ in_turn class ks g (x ∷ xs)
      at true e u q go = ap (λ (ys : List ℕ). x ∷ ys) (go 0) ∙ sym (turn-stays ks g x xs d (eqb-true s 0 e))
      at false e true q go = go g ∙ sym (turn-goes-on ks g x xs d (λ z. eqb-false s 0 e (eqb-true s g q ∙ z)) (eqb-true s g q))
      at false e false q go = ap (λ (ys : List ℕ). s ∷ ys) (go s) ∙ sym (turn-opens ks g x s xs d refl (eqb-false s 0 e) (eqb-false s g q))

-- ---- the kinds of the rules
abbrev pub class_at : List ℕ → ℕ → ℕ
class_at t x = get_or t x 0

-- a run becomes a byte that has the same class in every edition
kinds_good : (e : ℕ) → Good (class_at (class_table e)) kinds
unfolding Good Fresh Outside kinds class_table opened
kinds_good e =
    let d : (a b : ℕ) → eqb a b ≡ false → a ≡ b → ⊥ = eqb-false in (
      d 0 32 refl,
      (d 32 39 refl, (d 32 45 refl, (d 32 40 refl, (d 32 41 refl, (d 32 95 refl, tt))))),
      (refl, (refl, (refl, (refl, (refl, tt))))),
      (
        d 0 39 refl,
        (d 39 45 refl, (d 39 40 refl, (d 39 41 refl, (d 39 95 refl, tt)))),
        (refl, (refl, (refl, (refl, tt)))),
        (
          d 0 45 refl,
          (d 45 40 refl, (d 45 41 refl, (d 45 95 refl, tt))),
          (refl, (refl, (refl, tt))),
          (
            d 0 40 refl,
            (d 40 41 refl, (d 40 95 refl, tt)),
            (refl, (refl, tt)),
            (
              d 0 41 refl,
              (d 41 95 refl, tt),
              (refl, tt),
              (
                d 0 95 refl,
                tt,
                tt,
                tt,
              ),
            ),
          ),
        ),
      ),
    )

-- kind after kind is pass after pass
turn-signs : (e : ℕ) (xs : List ℕ) → in_turn (class_at (class_table e)) kinds 0 xs ≡ signs (runs (gap_in (class_table e)) 32 false xs)
unfolding in_turn kinds signs in_class
turn-signs e xs = rw (← quote-table e, ← dash_table e, ← open_table e, ← close_table e, ← under_table e) refl

-- one walk by a table of some edition is passes 4 and 5
pub joined-signs : {t : List ℕ} → Classes t → (xs : List ℕ) → joined (λ x. sign_in kinds (class_at t x)) 0 xs ≡ signs (runs (gap_in t) 32 false xs)
joined-signs {t} c xs =
    let e = c.edition in
    subst (λ (u : List ℕ). joined (λ x. sign_in kinds (class_at u x)) 0 xs ≡ signs (runs (gap_in u) 32 false xs)) (sym c.table)
    (joined-turn (class_at (class_table e)) kinds (kinds_good e) 0 xs ∙ turn-signs e xs)

-- ---- what a class becomes
alone : (k c : ℕ) → c ≢ k → within k k c ≡ false
unfolding within
alone k c n = grind (arith, nat_tests)

above : (h k c : ℕ) → k < c → within h k c ≡ false
unfolding within
above h k c n = grind (arith, nat_tests)

below : (h k c : ℕ) → c < h → within h k c ≡ false
unfolding within
below h k c n = grind (arith, nat_tests)

pub sign_gap : (c : ℕ) → 2 ≤ c → c ≤ 5 → sign_in kinds c ≡ 32
unfolding sign_in kinds within
sign_gap c h k = rw (le-leb 2 c h, le-leb c 5 k)

pub sign_low : (c : ℕ) → c < 2 → sign_in kinds c ≡ 0
unfolding sign_in kinds
sign_low c h =
    rw (below 2 5 c h, below 13 13 c (omega arith), below 14 14 c (omega arith), below 15 15 c (omega arith), below 16 16 c (omega arith), below 12 12 c (omega arith))

pub sign_other : (c : ℕ) → 5 < c → c ≢ 12 → c ≢ 13 → c ≢ 14 → c ≢ 15 → c ≢ 16 → sign_in kinds c ≡ 0
unfolding sign_in kinds
sign_other c h n12 n13 n14 n15 n16 =
    rw (above 2 5 c h, alone 13 c n13, alone 14 c n14, alone 15 c n15, alone 16 c n16, alone 12 c n12)

pub sign_underscore : (c : ℕ) → c ≡ 12 → sign_in kinds c ≡ 95
unfolding sign_in kinds within
sign_underscore c e = rw e

pub sign_quote : (c : ℕ) → c ≡ 13 → sign_in kinds c ≡ 39
unfolding sign_in kinds within
sign_quote c e = rw e

pub sign_dash : (c : ℕ) → c ≡ 14 → sign_in kinds c ≡ 45
unfolding sign_in kinds within
sign_dash c e = rw e

pub sign_opening : (c : ℕ) → c ≡ 15 → sign_in kinds c ≡ 40
unfolding sign_in kinds within
sign_opening c e = rw e

pub sign_closing : (c : ℕ) → c ≡ 16 → sign_in kinds c ≡ 41
unfolding sign_in kinds within
sign_closing c e = rw e

pub ruleset sign_of_class = (sign_gap, sign_low, sign_other, sign_underscore, sign_quote, sign_dash, sign_opening, sign_closing)

-- ---- the walk, by the first byte
module _ (sign : ℕ → ℕ) (g b : ℕ) {l l' : List ℕ} where
  pub join-stays : l ≡ b ∷ l' → sign b ≡ 0 → joined sign g l ≡ b ∷ joined sign 0 l'
  unfolding joined
  join-stays h e = rw (h, eq-eqb (sign b) 0 e)

  pub join-goes-on : l ≡ b ∷ l' → (sign b ≡ 0 → ⊥) → sign b ≡ g → joined sign g l ≡ joined sign g l'
  unfolding joined
  join-goes-on h n e = rw (h, ne_eqb (sign b) 0 n, eq-eqb (sign b) g e)

  pub join-opens : l ≡ b ∷ l' → (sign b ≡ 0 → ⊥) → (sign b ≡ g → ⊥) → joined sign g l ≡ sign b ∷ joined sign (sign b) l'
  unfolding joined
  join-opens h n e = rw (h, ne_eqb (sign b) 0 n, ne_eqb (sign b) g e)

-- the same by what becomes of b, and of the byte before
abbrev pub SignIs : Option ℕ → ℕ → Type 0
SignIs o s = MatchOption o (s ≡ 0) (λ x. (s ≡ x) × (0 < x))

-- a byte that stays, or the first of its run
abbrev pub begins : Option ℕ → Option ℕ → Bool
begins o last = not (is_some o) || not (option_eq eqb o last)

pub join_writes : (sign : ℕ → ℕ) (b : ℕ) (o last : Option ℕ) {l l' : List ℕ} → l ≡ b ∷ l' → SignIs o (sign b) → begins o last ≡ true
    → joined sign (unwrap_or last 0) l ≡ unwrap_or o b ∷ joined sign (unwrap_or o 0) l'
join_writes sign b None last h e n = join-stays sign (unwrap_or last 0) b h e
join_writes sign b (Some x) None h e n = rw (← e.0) (join-opens sign 0 b h (λ z. omega (arith, e.0, e.1, z)) (λ z. omega (arith, e.0, e.1, z)))
join_writes sign b (Some x) (Some y) h e n =
    rw (← e.0) (join-opens sign y b h (λ z. omega (arith, e.0, e.1, z)) (λ z. other (eqb x y) refl n (sym e.0 ∙ z)))
  where
    other : (t : Bool) → eqb x y ≡ t → not t ≡ true → x ≡ y → ⊥
    other true q m z = absurd (search (rules, m))
    other false q m z = eqb-false x y q z

pub join_passes : (sign : ℕ → ℕ) (b : ℕ) (o last : Option ℕ) {l l' : List ℕ} → l ≡ b ∷ l' → SignIs o (sign b) → begins o last ≡ false
    → joined sign (unwrap_or last 0) l ≡ joined sign (unwrap_or o 0) l'
join_passes sign b None last h e n = cc
join_passes sign b (Some x) None h e n = cc
join_passes sign b (Some x) (Some y) {l} {l'} h e n = same (eqb x y) refl n
  where
    same : (t : Bool) → eqb x y ≡ t → not t ≡ false → joined sign y l ≡ joined sign x l'
    same true q m = rw (← eqb-true x y q) (join-goes-on sign x b h (λ z. omega (arith, e.0, e.1, z)) e.0)
    same false q m = cc

pub join-end : (sign : ℕ → ℕ) (g : ℕ) {l : List ℕ} → l ≡ [] → joined sign g l ≡ []
unfolding joined
join-end sign g h = rw h
