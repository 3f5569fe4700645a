-- What a hit of pass 6 takes at a place, case by case, over the numbers that the matchers have found on the way.
-- Assumes nothing.
use mathlib.Core.Path.{◌≡◌, refl, sym, ap, subst, ◌∙◌, fun_ext}
use mathlib.Core.Bool.{Bool, true, false, cond, ◌&&◌}
use mathlib.Core.List.{List, [], ◌∷◌}
use Prim.Native.Nat.{ℕ, zero, suc, ◌+◌, ◌-◌, ◌≤◌, ◌<◌, zero-le}
use native.Mathlib.Omega.{arith}
use lib.Dec.{ltb, eqb}
use lib.ListN.{length, take, drop, get_or, length-drop}
use lib.Seq.{drop-drop}
use borrow.Author.Tests.{eqb-true, eqb-false, eq-eqb, ne_eqb, lt-ltb}
use Rattle.lists.proofs.SliceLaws.{drop-next, drop-done, part_at}
use Rattle.rules.specs.Bytes.{text, newline, space, digit, lead, line_len, starts, holds}
use Rattle.rules.specs.Passes.{paragraph, hit_a, hit_b, item, spaced, items, hit_c, or_else, hit}
use Rattle.rules.proofs.BoolLaws.{cond_of}
use Rattle.rules.proofs.HitLaws.{lead-length, items-length}
use Rattle.std.proofs.Common.{Option, None, Some, MatchOption}
use Rattle.preproc_copyright.specs.Takes.{Takes}

-- ---- what a matcher finds is what another number says
pub takes_as : (o : Option ℕ) {n m : ℕ} → n ≡ m → Takes o n → Takes o m
takes_as o e t = subst (λ (k : ℕ). Takes o k) e t

-- ---- A
module _ (s : List ℕ) (at k : ℕ) (blank n : ℕ) (b : blank ≡ lead (eqb 32) (drop (at + k) s)) where
  pub paragraph-other : starts (text "copyright") (drop (at + k + blank) s) ≡ false → paragraph k (drop at s) ≡ 0
  unfolding paragraph
  paragraph-other h = rw (drop-drop k at s, ← b, drop-drop blank (at + k) s, h)

  module _ (e : n ≡ line_len (drop (at + k) s)) (h : starts (text "copyright") (drop (at + k + blank) s) ≡ true) where
    pub paragraph_open : starts (text "\n\n") (drop (at + k + n) s) ≡ false → paragraph k (drop at s) ≡ 0
    unfolding paragraph
    paragraph_open t = rw (drop-drop k at s, ← b, ← e, drop-drop blank (at + k) s, h, drop-drop n (at + k) s, t)

    pub paragraph-there : starts (text "\n\n") (drop (at + k + n) s) ≡ true → paragraph k (drop at s) ≡ k + n + 2
    unfolding paragraph
    paragraph-there t = rw (drop-drop k at s, ← b, ← e, drop-drop blank (at + k) s, h, drop-drop n (at + k) s, t)

flip : (a b : ℕ) (t : Bool) → eqb a b ≡ t → t ≡ eqb b a
flip a b true h = sym (eq-eqb b a (sym (eqb-true a b h)))
flip a b false h = sym (ne_eqb b a (λ e. eqb-false a b h (sym e)))

pub newlines_of : (l : List ℕ) → lead (eqb 10) l ≡ lead newline l
unfolding newline
newlines_of l = ap (λ (f : ℕ → Bool). lead f l) (fun_ext (λ (x : ℕ). flip 10 x (eqb 10 x) refl))

module _ (s : List ℕ) where
  pub A-start : hit_a true s ≡ paragraph (lead newline s) s
  unfolding hit_a
  A-start = refl

  pub A-two : starts (text "\n\n") s ≡ true → hit_a false s ≡ paragraph 2 s
  unfolding hit_a
  A-two h = rw h

  pub A-none : starts (text "\n\n") s ≡ false → hit_a false s ≡ 0
  unfolding hit_a
  A-none h = rw h

-- ---- B
module _ (w s : List ℕ) (i : ℕ) where
  pub holds-here : i < length s → starts w (drop i s) ≡ true → holds w (drop i s) ≡ true
  unfolding holds
  holds-here h e =
      let d = drop-next s i h in
      let f : starts w (get_or s i 0 ∷ drop (i + 1) s) ≡ true = ap (starts w) (sym d) ∙ e in
      rw (d, f)

  pub holds_later : i < length s → starts w (drop i s) ≡ false → holds w (drop i s) ≡ holds w (drop (i + 1) s)
  unfolding holds
  holds_later h e =
      let d = drop-next s i h in
      let f : starts w (get_or s i 0 ∷ drop (i + 1) s) ≡ false = ap (starts w) (sym d) ∙ e in
      rw (d, f)

  pub holds-end : length s ≤ i → holds w (drop i s) ≡ starts w (drop i s)
  unfolding holds
  holds-end h = rw (drop-done s i h)

module _ (s : List ℕ) (at n : ℕ) (e : n ≡ line_len (drop at s)) where
  pub B-there : holds (text "copyright") (drop at (take (at + n) s)) ≡ true → hit_b true (drop at s) ≡ n
  unfolding hit_b
  B-there h = rw (← e, part_at at n s, h)

  pub B-other : holds (text "copyright") (drop at (take (at + n) s)) ≡ false → hit_b true (drop at s) ≡ 0
  unfolding hit_b
  B-other h = rw (← e, part_at at n s, h)

pub B-none : (s : List ℕ) → hit_b false s ≡ 0
unfolding hit_b
B-none s = refl

-- ---- C
module _ (s : List ℕ) (at : ℕ) where
  pub item-end : length s ≤ at → item (drop at s) ≡ 0
  unfolding item
  item-end h = rw (drop-done s at h)

  pub item-c : at < length s → get_or s at 0 ≡ 99 → item (drop at s) ≡ 1
  unfolding item
  item-c h e = rw (drop-next s at h, eq-eqb (get_or s at 0) 99 e)

  pub item-digits : at < length s → (get_or s at 0 ≡ 99 → ⊥) → item (drop at s) ≡ lead digit (drop at s)
  unfolding item
  item-digits h e = rw (drop-next s at h, ne_eqb (get_or s at 0) 99 e)

item-length : (s : List ℕ) → item s ≤ length s
unfolding item
item-length [] = zero-le
item-length (x ∷ xs) =
    cond_of (λ (n : ℕ). n ≤ suc (length xs)) (eqb x 99) 1 (lead digit (x ∷ xs)) (omega arith) (lead-length digit (x ∷ xs))

pub item-within : (s : List ℕ) (at : ℕ) → at ≤ length s → at + item (drop at s) ≤ length s
item-within s at h = omega (arith, item-length (drop at s), length-drop at s)

module _ (s : List ℕ) (at k : ℕ) (e : k ≡ lead space (drop at s)) where
  pub spaced-none : k ≡ 0 → spaced (drop at s) ≡ 0
  unfolding spaced
  spaced-none z = rw (← e, z)

  module _ (d : ℕ) (p : k ≡ 0 → ⊥) (f : d ≡ item (drop (at + k) s)) where
    pub spaced-bare : d ≡ 0 → spaced (drop at s) ≡ 0
    unfolding spaced
    spaced-bare z = rw (← e, drop-drop k at s, ← f, z, lt-ltb 0 k (omega arith))

    pub spaced-there : (d ≡ 0 → ⊥) → spaced (drop at s) ≡ k + d
    unfolding spaced
    spaced-there q = rw (← e, drop-drop k at s, ← f, lt-ltb 0 k (omega arith), lt-ltb 0 d (omega arith))

spaced-length : (s : List ℕ) → spaced s ≤ length s
unfolding spaced
spaced-length s =
    let k = lead space s in
    let d = item (drop k s) in
    cond_of (λ (n : ℕ). n ≤ length s) (ltb 0 k && ltb 0 d) (k + d) 0
    (omega (arith, lead-length space s, item-length (drop k s), length-drop k s)) zero-le

-- taken already: k bytes, and then from where they end
items_skip : (k : ℕ) (s : List ℕ) → k ≤ length s → items k s ≡ k + items 0 (drop k s)
unfolding items
items_skip zero s h = omega arith
items_skip (suc k) [] h = omega arith
items_skip (suc k) (x ∷ xs) h = omega (arith, items_skip k xs (omega arith))

pub items-none : (s : List ℕ) → spaced s ≡ 0 → items 0 s ≡ 0
unfolding items
items-none [] h = refl
items-none (x ∷ xs) h = rw h

pub items_more : (s : List ℕ) → (spaced s ≡ 0 → ⊥) → items 0 s ≡ spaced s + items 0 (drop (spaced s) s)
unfolding items
items_more [] h = absurd (h (empty (spaced-length [])))
  where
    empty : spaced [] ≤ 0 → spaced [] ≡ 0
    empty e = omega arith
items_more (x ∷ xs) h = at (spaced (x ∷ xs)) h (spaced-length (x ∷ xs))
  where
    at : (n : ℕ) → (n ≡ 0 → ⊥) → n ≤ suc (length xs) → cond (ltb 0 n) (suc (items (n - 1) xs)) 0 ≡ n + items 0 (drop n (x ∷ xs))
    at zero p q = absurd (p refl)
    at (suc n) p q =
        let e : suc n - 1 ≡ n = omega arith in
        rw (lt-ltb 0 (suc n) (omega arith), e) (omega (arith, items_skip n xs (omega arith)))

pub spaced-within : (s : List ℕ) (at : ℕ) → at ≤ length s → at + spaced (drop at s) ≤ length s
spaced-within s at h = omega (arith, spaced-length (drop at s), length-drop at s)

-- a walk over the items from `at` on, which is at i
pub record ItemWalk (s : List ℕ) (at i : ℕ) : Type 0 where
  pub from : at ≤ i
  pub within : i ≤ length s
  pub count : i - at + items 0 (drop i s) ≡ items 0 (drop at s)

pub listed_start : (s : List ℕ) (at : ℕ) → at ≤ length s → ItemWalk s at at
listed_start s at h = record { from = omega arith; within = h; count = omega arith }

module _ {s : List ℕ} {at i n : ℕ} (e : n ≡ spaced (drop i s)) where
  pub listed-end : n ≡ 0 → ItemWalk s at i → i - at ≡ items 0 (drop at s)
  listed-end z l = omega (arith, items-none (drop i s) (sym e ∙ z))

  pub listed_more : (n ≡ 0 → ⊥) → ItemWalk s at i → ItemWalk s at (i + n)
  listed_more p l =
      let m : items 0 (drop i s) ≡ n + items 0 (drop (i + n) s) =
      items_more (drop i s) (λ z. p (e ∙ z)) ∙ rw (← e, drop-drop n i s) in
      record { from = omega arith; within = omega (arith, e, spaced-within s i l.within); count = omega arith }

pub items-within : (s : List ℕ) (at : ℕ) → at ≤ length s → at + items 0 (drop at s) ≤ length s
items-within s at h = omega (arith, items-length 0 (drop at s), length-drop at s)

module _ (s : List ℕ) (at : ℕ) where
  pub C-other : starts (text "copyright") (drop at s) ≡ false → hit_c true (drop at s) ≡ 0
  unfolding hit_c
  C-other h = rw h

  module _ (n : ℕ) (h : starts (text "copyright") (drop at s) ≡ true) (e : n ≡ items 0 (drop (at + 9) s)) where
    pub C-bare : n ≡ 0 → hit_c true (drop at s) ≡ 0
    unfolding hit_c
    C-bare z = rw (h, drop-drop 9 at s, ← e, z)

    pub C-there : (m : ℕ) → (n ≡ 0 → ⊥) → m ≡ line_len (drop (at + 9 + n) s) → hit_c true (drop at s) ≡ 9 + n + m
    unfolding hit_c
    C-there m p f =
        let r : at + (9 + n) ≡ at + 9 + n = omega arith in
        rw (h, drop-drop 9 at s, ← e, lt-ltb 0 n (omega arith), drop-drop (9 + n) at s, r, ← f)

pub C-none : (s : List ℕ) → hit_c false s ≡ 0
unfolding hit_c
C-none s = refl

-- ---- all
or-some : (a b : ℕ) → 0 < a → or_else a b ≡ a
unfolding or_else
or-some zero b h = omega arith
or-some (suc a) b h = refl

or-again : (a b c : ℕ) → or_else (or_else a b) c ≡ or_else a (or_else b c)
unfolding or_else
or-again zero b c = refl
or-again (suc a) b c = refl

-- what is found first, or else what Q says of r
pub takes-or : {Q : Type 0} (o r : Option ℕ) (a b : ℕ) → Takes o a → MatchOption o Q (λ x. r ≡ Some x) → (Q → Takes r b) → Takes r (or_else a b)
unfolding or_else
takes-or None r a b t q f = rw t (f q)
takes-or (Some x) r a b t q f = rw (q, or-some a b (omega (arith, t.0, t.1))) t

pub hit-order : (start fresh : Bool) (s : List ℕ) → or_else (or_else (hit_a start s) (hit_b start s)) (hit_c fresh s) ≡ hit start fresh s
unfolding hit
hit-order start fresh s = or-again (hit_a start s) (hit_b start s) (hit_c fresh s)
