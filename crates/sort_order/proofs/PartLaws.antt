-- Two parts, byte by byte.
-- Assumes nothing.
use mathlib.Core.Path.{◌≡◌, refl, sym, ap, ◌∙◌}
use mathlib.Core.Bool.{Bool, true, false, cond, not}
use mathlib.Core.List.{List, [], ◌∷◌}
use Prim.Native.Nat.{ℕ, suc, ◌+◌, ◌≤◌, ◌<◌}
use native.Mathlib.Omega.{arith}
use lib.Dec.{ltb, eqb}
use lib.ListN.{length, take, drop, get_or, drop_of_length-le}
use borrow.Author.Tests.{eq-eqb, ne_eqb, le-ltb, eqb-true, eqb-false, ltb-true, ltb-false}
use Rattle.lists.proofs.SliceLaws.{drop-next}
use Rattle.sort_spread.specs.Sort.{ends_part, marks_left, part_of, lex_later, part_later}

-- a byte that is no mark
module _ (m c x : ℕ) (n : x ≡ m → ⊥) where
  pub unmarked : ends_part m c x ≡ false
  unfolding ends_part
  unmarked = rw (ne_eqb x m n)

  pub marks_stay : marks_left m c x ≡ c
  unfolding marks_left
  marks_stay = rw (ne_eqb x m n)

-- the part from i on, by its first byte
module _ (m c : ℕ) (l : List ℕ) (i : ℕ) where
  pub part_none : length l ≤ i → part_of m c (drop i l) ≡ []
  unfolding part_of
  part_none h = rw (drop_of_length-le l {i = i} h)

  pub part-ended : i < length l → ends_part m c (get_or l i 0) ≡ true → part_of m c (drop i l) ≡ []
  unfolding part_of
  part-ended h e = rw (drop-next l i h, e)

  pub part-next : i < length l → ends_part m c (get_or l i 0) ≡ false →
      part_of m c (drop i l) ≡ get_or l i 0 ∷ part_of m (marks_left m c (get_or l i 0)) (drop (i + 1) l)
  unfolding part_of
  part-next h e = rw (drop-next l i h, e)

  -- a part's length, by its first byte
  pub length_none : length l ≤ i → i + length (part_of m c (drop i l)) ≡ i
  length_none h = omega (arith, ap length (part_none h))

  pub length-ended : i < length l → ends_part m c (get_or l i 0) ≡ true → i + length (part_of m c (drop i l)) ≡ i
  length-ended h e = omega (arith, ap length (part-ended h e))

  pub length-next : i < length l → ends_part m c (get_or l i 0) ≡ false →
      i + length (part_of m c (drop i l)) ≡ i + 1 + length (part_of m (marks_left m c (get_or l i 0)) (drop (i + 1) l))
  length-next h e = omega (arith, ap length (part-next h e))

-- a part is a front of the list that it starts
pub part-front : (m c : ℕ) (l : List ℕ) → part_of m c l ≡ take (length (part_of m c l)) l
unfolding part_of
part-front m c [] = refl
part-front m c (x ∷ xs) = go (ends_part m c x) (part-front m (marks_left m c x) xs)
  where
    go : (t : Bool) → part_of m (marks_left m c x) xs ≡ take (length (part_of m (marks_left m c x) xs)) xs →
        cond t [] (x ∷ part_of m (marks_left m c x) xs) ≡
        take (length (cond t [] (x ∷ part_of m (marks_left m c x) xs))) (x ∷ xs)
    go true e = refl
    go false e = ap (λ (p : List ℕ). x ∷ p) e

pub part-short : (m c : ℕ) (l : List ℕ) → length (part_of m c l) ≤ length l
unfolding part_of
part-short m c [] = omega arith
part-short m c (x ∷ xs) = go (ends_part m c x) (part-short m (marks_left m c x) xs)
  where
    go : (t : Bool) → length (part_of m (marks_left m c x) xs) ≤ length xs → length (cond t [] (x ∷ part_of m (marks_left m c x) xs)) ≤ suc (length xs)
    go true e = omega arith
    go false e = omega arith

-- a part that begins with the byte x, and another, with m to end them and c marks left
module _ (m c x : ℕ) (xs : List ℕ) where
  pub over_mark : (zs : List ℕ) → ends_part m c x ≡ true → lex_later (part_of m c (x ∷ xs)) (part_of m c zs) ≡ false
  unfolding part_of lex_later
  over_mark zs e = rw e

  module _ (e : ends_part m c x ≡ false) where
    -- the second is over, and the first is not
    pub other-end : lex_later (part_of m c (x ∷ xs)) (part_of m c []) ≡ true
    unfolding part_of lex_later
    other-end = rw e

    module _ (y : ℕ) (ys : List ℕ) where
      pub other_mark : ends_part m c y ≡ true → lex_later (part_of m c (x ∷ xs)) (part_of m c (y ∷ ys)) ≡ true
      unfolding part_of lex_later
      other_mark t = rw (e, t)

      -- neither is
      pub unlike : ends_part m c y ≡ false → (y ≡ x → ⊥) → lex_later (part_of m c (x ∷ xs)) (part_of m c (y ∷ ys)) ≡ ltb y x
      unfolding part_of lex_later
      unlike t n = rw (e, t, ne_eqb y x n)

      pub alike : y ≡ x → lex_later (part_of m c (x ∷ xs)) (part_of m c (y ∷ ys)) ≡ lex_later (part_of m (marks_left m c x) xs) (part_of m (marks_left m c x) ys)
      unfolding part_of lex_later
      alike t = rw (t, e, eq-eqb x x refl)

pub over-end : (m c : ℕ) (zs : List ℕ) → lex_later (part_of m c []) (part_of m c zs) ≡ false
unfolding part_of lex_later
over-end m c zs = refl

-- the parts of one text from i and from j on
module _ (m c : ℕ) (l : List ℕ) (i j : ℕ) where
  pub none_later : length l ≤ i → part_later m c l i j ≡ false
  unfolding part_later
  none_later h = rw (drop_of_length-le l {i = i} h) (over-end m c (drop j l))

  module _ (h : i < length l) where
    pub ended_later : ends_part m c (get_or l i 0) ≡ true → part_later m c l i j ≡ false
    unfolding part_later
    ended_later e = rw (drop-next l i h) (over_mark m c (get_or l i 0) (drop (i + 1) l) (drop j l) e)

    -- the text ends before j
    pub alone_later : length l ≤ j → part_later m c l i j ≡ not (ends_part m c (get_or l i 0))
    unfolding part_later
    alone_later t = go (ends_part m c (get_or l i 0)) refl
      where
        go : (b : Bool) → ends_part m c (get_or l i 0) ≡ b → lex_later (part_of m c (drop i l)) (part_of m c (drop j l)) ≡ not b
        go true e = ended_later e
        go false e = rw (drop-next l i h, drop_of_length-le l {i = j} t) (other-end m c (get_or l i 0) (drop (i + 1) l) e)

    module _ (e : ends_part m c (get_or l i 0) ≡ false) (k : j < length l) where
      pub other_later : ends_part m c (get_or l j 0) ≡ true → part_later m c l i j ≡ true
      unfolding part_later
      other_later t = rw (drop-next l i h, drop-next l j k) (other_mark m c (get_or l i 0) (drop (i + 1) l) e (get_or l j 0) (drop (j + 1) l) t)

      pub unlike_later : ends_part m c (get_or l j 0) ≡ false → (get_or l j 0 ≡ get_or l i 0 → ⊥) → part_later m c l i j ≡ ltb (get_or l j 0) (get_or l i 0)
      unfolding part_later
      unlike_later t n = rw (drop-next l i h, drop-next l j k) (unlike m c (get_or l i 0) (drop (i + 1) l) e (get_or l j 0) (drop (j + 1) l) t n)

      pub alike_later : get_or l j 0 ≡ get_or l i 0 → part_later m c l i j ≡ part_later m (marks_left m c (get_or l i 0)) l (i + 1) (j + 1)
      unfolding part_later
      alike_later t = rw (drop-next l i h, drop-next l j k) (alike m c (get_or l i 0) (drop (i + 1) l) e (get_or l j 0) (drop (j + 1) l) t)

    -- a byte that both have, and that is no mark
    pub plain_later : (get_or l i 0 ≡ m → ⊥) → j < length l → get_or l j 0 ≡ get_or l i 0 → part_later m c l i j ≡ part_later m c l (i + 1) (j + 1)
    plain_later n k t = rw (marks_stay m c (get_or l i 0) n) at (alike_later (unmarked m c (get_or l i 0) n) k t)

-- of two lists at most one comes after the other
no : false ≡ true → ⊥
no e = let z : ◌≡◌ {A = ℕ} 0 1 = cc in omega arith

one_cons : (b : Bool) (x y : ℕ) (p q : Bool) → eqb y x ≡ b → (p ≡ true → q ≡ false) → cond b p (ltb y x) ≡ true → cond (eqb x y) q (ltb x y) ≡ false
one_cons true x y p q e h t = rw (eq-eqb x y (sym (eqb-true y x e))) (h t)
one_cons false x y p q e h t =
    let l : y < x = ltb-true y x t in
    let n : x ≡ y → ⊥ = (λ z. omega arith) in
    rw (ne_eqb x y n) (le-ltb x y (omega arith))

pub lex_one : (xs ys : List ℕ) → lex_later xs ys ≡ true → lex_later ys xs ≡ false
unfolding lex_later
lex_one [] ys h = absurd (no h)
lex_one (x ∷ xs) [] h = refl
lex_one (x ∷ xs) (y ∷ ys) h = one_cons (eqb y x) x y (lex_later xs ys) (lex_later ys xs) refl (lex_one xs ys) h

pub later-one : (m c : ℕ) (text : List ℕ) (x y : ℕ) → part_later m c text x y ≡ true → part_later m c text y x ≡ false
unfolding part_later
later-one m c text x y h = lex_one (part_of m c (drop x text)) (part_of m c (drop y text)) h

-- what does not come after one that does not come after a third does not come after the third
chain_cons : (b c : Bool) (x y z : ℕ) (p q r : Bool) → eqb y x ≡ b → eqb z y ≡ c → (p ≡ false → q ≡ false → r ≡ false)
    → cond b p (ltb y x) ≡ false → cond c q (ltb z y) ≡ false → cond (eqb z x) r (ltb z x) ≡ false
chain_cons true true x y z p q r e g h s t = rw (eq-eqb z x (eqb-true z y g ∙ eqb-true y x e)) (h s t)
chain_cons true false x y z p q r e g h s t =
    let v : y ≡ x = eqb-true y x e in
    let n : z ≡ x → ⊥ = (λ w. eqb-false z y g (w ∙ sym v)) in
    rw (ne_eqb z x n) (le-ltb z x (omega (arith, ltb-false z y t)))
chain_cons false true x y z p q r e g h s t =
    let v : z ≡ y = eqb-true z y g in
    let n : z ≡ x → ⊥ = (λ w. eqb-false y x e (sym v ∙ w)) in
    rw (ne_eqb z x n) (le-ltb z x (omega (arith, ltb-false y x s)))
chain_cons false false x y z p q r e g h s t =
    let v : y ≡ x → ⊥ = eqb-false y x e in
    let u : x ≤ y = ltb-false y x s in
    let o : y ≤ z = ltb-false z y t in
    let n : z ≡ x → ⊥ = (λ w. v (omega arith)) in
    rw (ne_eqb z x n) (le-ltb z x (omega arith))

lex_chain : (xs ys zs : List ℕ) → lex_later xs ys ≡ false → lex_later ys zs ≡ false → lex_later xs zs ≡ false
unfolding lex_later
lex_chain [] ys zs s t = refl
lex_chain (x ∷ xs) [] zs s t = absurd (no (sym s))
lex_chain (x ∷ xs) (y ∷ ys) [] s t = absurd (no (sym t))
lex_chain (x ∷ xs) (y ∷ ys) (z ∷ zs) s t =
    chain_cons (eqb y x) (eqb z y) x y z (lex_later xs ys) (lex_later ys zs) (lex_later xs zs) refl refl (lex_chain xs ys zs) s t

pub later_chain : (m c : ℕ) (text : List ℕ) (x y z : ℕ) → part_later m c text x y ≡ false → part_later m c text y z ≡ false → part_later m c text x z ≡ false
unfolding part_later
later_chain m c text x y z s t = lex_chain (part_of m c (drop x text)) (part_of m c (drop y text)) (part_of m c (drop z text)) s t
