-- The sorted list has the same elements, and is in order, where of two elements at most one comes after the other.
--     count_of_merged, count_of_msorted      as many of each kind
--     inorder_msorted                      none comes after the next
--     runs-apart                           two runs that are in turn are merged by laying one before the other
-- Assumes nothing.
use mathlib.Core.Path.{◌≡◌, refl, sym, ap, ◌∙◌}
use mathlib.Core.Bool.{Bool, true, false, cond}
use mathlib.Core.List.{List, [], ◌∷◌, ◌++◌}
use Prim.Native.Nat.{ℕ, zero, suc, ◌+◌, ◌-◌, ◌/◌, ◌≤◌, ◌<◌}
use native.Mathlib.Omega.{arith}
use lib.Dec.{ltb}
use borrow.Author.Tests.{lt-ltb, le-ltb}
use Rattle.sort_spread.proofs.SortLaws.{either}
use lib.ListN.{length, take, drop, get_or, length-take, length-drop, take-append-drop}
use lib.Seq.{slice, length-slice, get_or-take, get_or-drop}
use Rattle.lists.proofs.SliceLaws.{slice_next}
use Rattle.sort_spread.proofs.MergeLaws.{merged-out}
use Rattle.sort_spread.specs.Sort.{merged, msorted, right_next, count_of, Leads, InOrder}

length-cond : (b : Bool) (us vs : List ℕ) (n : ℕ) → length us ≡ n → length vs ≡ n → length (cond b us vs) ≡ n
length-cond true us vs n h k = h
length-cond false us vs n h k = k

module _ (f : ℕ → ℕ → Bool) where
  pub length_merged : (n : ℕ) (xs ys : List ℕ) → length (merged f n xs ys) ≡ n
  unfolding merged
  length_merged zero xs ys = refl
  length_merged (suc n) xs ys = length-cond (right_next f xs ys) (get_or ys 0 0 ∷ merged f n xs (drop 1 ys)) (get_or xs 0 0 ∷ merged f n (drop 1 xs) ys) (suc n) (ap suc (length_merged n xs (drop 1 ys))) (ap suc (length_merged n (drop 1 xs) ys))

  pub length-msorted : (g : ℕ) (xs : List ℕ) → length (msorted f g xs) ≡ length xs
  unfolding msorted
  length-msorted zero xs = refl
  length-msorted (suc g) xs =
      length-cond (ltb (length xs) 2) xs (merged f (length xs) (msorted f g (take (length xs / 2) xs)) (msorted f g (drop (length xs / 2) xs))) (length xs) refl (length_merged (length xs) (msorted f g (take (length xs / 2) xs)) (msorted f g (drop (length xs / 2) xs)))

  length_halves : (g h : ℕ) (xs : List ℕ) → length xs ≡ length (msorted f g (take h xs)) + length (msorted f g (drop h xs))
  length_halves g h xs = rw (length-msorted g (take h xs), length-msorted g (drop h xs), length-take, length-drop) (omega arith)

module _ (q : ℕ → Bool) where
  pub count_of_append : (xs ys : List ℕ) → count_of q (xs ++ ys) ≡ count_of q xs + count_of q ys
  unfolding count_of
  count_of_append [] ys = omega arith
  count_of_append (x ∷ xs) ys = omega (arith, count_of_append xs ys)

  count_of_cond : (b : Bool) (us vs : List ℕ) (n : ℕ) → count_of q us ≡ n → count_of q vs ≡ n → count_of q (cond b us vs) ≡ n
  count_of_cond true us vs n h k = h
  count_of_cond false us vs n h k = k

  module _ (f : ℕ → ℕ → Bool) where
    pub count_of_merged : (n : ℕ) (xs ys : List ℕ) → n ≡ length xs + length ys → count_of q (merged f n xs ys) ≡ count_of q xs + count_of q ys
    unfolding merged right_next count_of
    count_of_merged zero [] [] e = refl
    count_of_merged zero [] (y ∷ ys) e = absurd (omega arith)
    count_of_merged zero (x ∷ xs) ys e = absurd (omega arith)
    count_of_merged (suc n) [] [] e = absurd (omega arith)
    count_of_merged (suc n) [] (y ∷ ys) e = omega (arith, count_of_merged n [] ys (omega arith))
    count_of_merged (suc n) (x ∷ xs) [] e = omega (arith, count_of_merged n xs [] (omega arith))
    count_of_merged (suc n) (x ∷ xs) (y ∷ ys) e =
        count_of_cond (f x y) (y ∷ merged f n (x ∷ xs) ys) (x ∷ merged f n xs (y ∷ ys)) (count_of q (x ∷ xs) + count_of q (y ∷ ys))
        (omega (arith, count_of_merged n (x ∷ xs) ys (omega arith))) (omega (arith, count_of_merged n xs (y ∷ ys) (omega arith)))

    count_of_sorted_cond : (b : Bool) (xs us : List ℕ) → count_of q us ≡ count_of q xs → count_of q (cond b xs us) ≡ count_of q xs
    count_of_sorted_cond b xs us h = count_of_cond b xs us (count_of q xs) refl h

    pub count_of_msorted : (g : ℕ) (xs : List ℕ) → count_of q (msorted f g xs) ≡ count_of q xs
    unfolding msorted
    count_of_msorted zero xs = refl
    count_of_msorted (suc g) xs =
        let h : ℕ = length xs / 2 in
        let lo : List ℕ = msorted f g (take h xs) in
        let hi : List ℕ = msorted f g (drop h xs) in
        let n : length xs ≡ length lo + length hi = length_halves f g h xs in
        let s : count_of q (take h xs) + count_of q (drop h xs) ≡ count_of q xs = sym (count_of_append (take h xs) (drop h xs)) ∙ ap (count_of q) (take-append-drop h xs) in
        count_of_sorted_cond (ltb (length xs) 2) xs (merged f (length xs) lo hi)
        (omega (arith, count_of_merged (length xs) lo hi n, count_of_msorted g (take h xs), count_of_msorted g (drop h xs), s))

-- ---- in order
module _ (f : ℕ → ℕ → Bool) (one : (x y : ℕ) → f x y ≡ true → f y x ≡ false) where
  leads_cond : (c : Bool) (z x y : ℕ) (us vs : List ℕ) → f z x ≡ false → f z y ≡ false → Leads f z (cond c (y ∷ us) (x ∷ vs))
  unfolding Leads
  leads_cond true z x y us vs a b = b
  leads_cond false z x y us vs a b = a

  leads_merged : (z n : ℕ) (xs ys : List ℕ) → n ≡ length xs + length ys → Leads f z xs → Leads f z ys → Leads f z (merged f n xs ys)
  unfolding merged right_next Leads
  leads_merged z zero xs ys e a b = tt
  leads_merged z (suc n) [] [] e a b = absurd (omega arith)
  leads_merged z (suc n) [] (y ∷ ys) e a b = b
  leads_merged z (suc n) (x ∷ xs) [] e a b = a
  leads_merged z (suc n) (x ∷ xs) (y ∷ ys) e a b = leads_cond (f x y) z x y (merged f n (x ∷ xs) ys) (merged f n xs (y ∷ ys)) a b

  -- the two heads x and y, by which of them is next
  inorder_heads : (c : Bool) (n x y : ℕ) (xs ys : List ℕ) → f x y ≡ c → suc n ≡ length (x ∷ xs) + length (y ∷ ys)
      → InOrder f (x ∷ xs) → InOrder f (y ∷ ys) → InOrder f (merged f n (x ∷ xs) ys) → InOrder f (merged f n xs (y ∷ ys))
      → InOrder f (cond c (y ∷ merged f n (x ∷ xs) ys) (x ∷ merged f n xs (y ∷ ys)))
  unfolding InOrder Leads
  inorder_heads true n x y xs ys h e a b u v = (leads_merged y n (x ∷ xs) ys (omega arith) (one x y h) b.0, u)
  inorder_heads false n x y xs ys h e a b u v = (leads_merged x n xs (y ∷ ys) (omega arith) a.0 h, v)

  inorder_merged : (n : ℕ) (xs ys : List ℕ) → n ≡ length xs + length ys → InOrder f xs → InOrder f ys → InOrder f (merged f n xs ys)
  unfolding merged right_next InOrder Leads
  inorder_merged zero xs ys e a b = tt
  inorder_merged (suc n) [] [] e a b = absurd (omega arith)
  inorder_merged (suc n) [] (y ∷ ys) e a b = (leads_merged y n [] ys (omega arith) tt b.0, inorder_merged n [] ys (omega arith) tt b.1)
  inorder_merged (suc n) (x ∷ xs) [] e a b = (leads_merged x n xs [] (omega arith) a.0 tt, inorder_merged n xs [] (omega arith) a.1 tt)
  inorder_merged (suc n) (x ∷ xs) (y ∷ ys) e a b =
      inorder_heads (f x y) n x y xs ys refl e a b
      (inorder_merged n (x ∷ xs) ys (omega arith) a b.1) (inorder_merged n xs (y ∷ ys) (omega arith) a.1 b)

  -- fewer than two are
  inorder_few : (xs : List ℕ) → length xs < 2 → InOrder f xs
  unfolding InOrder Leads
  inorder_few [] h = tt
  inorder_few (x ∷ []) h = (tt, tt)
  inorder_few (x ∷ y ∷ xs) h = absurd (omega arith)

  pub inorder_msorted : (k : ℕ) (xs : List ℕ) → length xs ≤ k → InOrder f (msorted f k xs)
  unfolding msorted
  inorder_msorted zero xs h = inorder_few xs (omega arith)
  inorder_msorted (suc k) xs h =
      either (length xs) 2 (λ l. rw (lt-ltb (length xs) 2 l) (inorder_few xs l)) (λ l.
      let m : ℕ = length xs / 2 in
      let ta : length (take m xs) ≤ k = simp length-take (omega arith) in
      let tb : length (drop m xs) ≤ k = simp length-drop (omega arith) in
      rw (le-ltb (length xs) 2 l)
      (inorder_merged (length xs) (msorted f k (take m xs)) (msorted f k (drop m xs)) (length_halves f k m xs)
      (inorder_msorted k (take m xs) ta) (inorder_msorted k (drop m xs) tb)))

  -- ---- in turn
  module _ (chain : (x y z : ℕ) → f x y ≡ false → f y z ≡ false → f x z ≡ false) where
    -- the last does not come after y: nor does the first
    head-before : (x y : ℕ) (xs : List ℕ) → InOrder f (x ∷ xs) → f (get_or (x ∷ xs) (length xs) 0) y ≡ false → f x y ≡ false
    unfolding InOrder Leads
    head-before x y [] o e = e
    head-before x y (z ∷ zs) o e = chain x z y o.0 (head-before z y zs o.1 e)

    merged-apart : (n x y : ℕ) (xs ys : List ℕ) → n ≡ suc (length xs) + suc (length ys) → InOrder f (x ∷ xs) → f (get_or (x ∷ xs) (length xs) 0) y ≡ false
        → merged f n (x ∷ xs) (y ∷ ys) ≡ x ∷ (xs ++ y ∷ ys)
    unfolding merged right_next InOrder Leads
    merged-apart zero x y xs ys n o e = absurd (omega arith)
    merged-apart (suc m) x y [] ys n o e = rw (head-before x y [] o e) (ap (λ (zs : List ℕ). x ∷ zs) (merged-out f m (y ∷ ys) (omega arith)))
    merged-apart (suc m) x y (z ∷ zs) ys n o e =
        rw (head-before x y (z ∷ zs) o e) (ap (λ (us : List ℕ). x ∷ us) (merged-apart m z y zs ys (omega arith) o.1 e))

    -- two runs of a list, the first in order and its last not after the second's first
    pub runs-apart : (l : List ℕ) (k h : ℕ) → 0 < h → h < k → k + h ≤ length l → InOrder f (slice k (k + h) l) → f (get_or l (k + h - 1) 0) (get_or l h 0) ≡ false
        → merged f k (slice k (k + h) l) (slice h k l) ≡ slice k (k + h) l ++ slice h k l
    runs-apart l k h a b r o e =
        let u : slice k (k + h) l ≡ get_or l k 0 ∷ slice (k + 1) (k + h) l = slice_next l k (k + h) (omega arith) r in
        let v : slice h k l ≡ get_or l h 0 ∷ slice (h + 1) k l = slice_next l h k b (omega arith) in
        let n : length (slice (k + 1) (k + h) l) ≡ h - 1 = rw (length-slice (k + 1) (k + h) l r) (omega arith) in
        let m : length (slice (h + 1) k l) ≡ k - (h + 1) = length-slice (h + 1) k l (omega arith) in
        let i : k + (h - 1) ≡ k + h - 1 = omega arith in
        let w : get_or (slice k (k + h) l) (h - 1) 0 ≡ get_or l (k + h - 1) 0 =
        get_or-drop k (take (k + h) l) (h - 1) 0 ∙ get_or-take (k + h) l (k + (h - 1)) 0 (omega arith) ∙ ap (λ (t : ℕ). get_or l t 0) i in
        let z : f (get_or (get_or l k 0 ∷ slice (k + 1) (k + h) l) (length (slice (k + 1) (k + h) l)) 0) (get_or l h 0) ≡ false = rw (n, ← u, w) e in
        rw (u, v) (merged-apart k (get_or l k 0) (get_or l h 0) (slice (k + 1) (k + h) l) (slice (h + 1) k l) (omega (arith, n, m)) (rw (← u) o) z)
