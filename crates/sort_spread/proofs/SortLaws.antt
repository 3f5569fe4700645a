-- The shape of the sorted list.
-- Assumes nothing.
use mathlib.Core.Path.{◌≡◌, refl, sym, ap, ◌∙◌}
use mathlib.Core.Bool.{Bool, true, false}
use mathlib.Core.List.{List, ◌++◌}
use Prim.Native.Nat.{ℕ, zero, suc, ◌+◌, ◌-◌, ◌/◌, ◌≤◌, ◌<◌}
use native.Mathlib.Omega.{arith}
use lib.Dec.{ltb}
use lib.ListN.{length, take, drop, length-take, length-drop, take-append-drop}
use lib.Seq.{slice, paste, length-paste, take-paste, drop-paste, length-take-le, take-take}
use borrow.Author.Tests.{lt-ltb, le-ltb, ltb-true, ltb-false}
use Rattle.sort_spread.specs.Sort.{merged, msorted}
use Rattle.lists.proofs.SliceLaws.{part_slice, part_at, slice_back, drop_back}
use Rattle.lists.proofs.LentLaws.{paste_mid, paste_low, lent-low, lent_in, lent-high, lent-long}

pick : {B : Type 0} (m n : ℕ) → (m < n → B) → (n ≤ m → B) → (b : Bool) → ltb m n ≡ b → B
pick m n f g true e = f (ltb-true m n e)
pick m n f g false e = g (ltb-false m n e)

pub either : {B : Type 0} (m n : ℕ) → (m < n → B) → (n ≤ m → B) → B
either m n f g = pick m n f g (ltb m n) refl

module _ (f : ℕ → ℕ → Bool) where
  pub msorted-few : (g : ℕ) (xs : List ℕ) → length xs < 2 → msorted f g xs ≡ xs
  unfolding msorted
  msorted-few zero xs h = refl
  msorted-few (suc g) xs h = rw (lt-ltb (length xs) 2 h)

  -- how far it may halve does not matter
  pub msorted-any : (g k : ℕ) (xs : List ℕ) → length xs ≤ g → length xs ≤ k → msorted f g xs ≡ msorted f k xs
  unfolding msorted
  msorted-any zero k xs a b = sym (msorted-few k xs (omega arith))
  msorted-any (suc g) zero xs a b = msorted-few (suc g) xs (omega arith)
  msorted-any (suc g) (suc k) xs a b = either (length xs) 2 (λ h. msorted-few (suc g) xs h ∙ sym (msorted-few (suc k) xs h)) (λ h.
      let la : length (take (length xs / 2) xs) ≤ length xs - 1 = simp length-take (omega arith) in
      let lb : length (drop (length xs / 2) xs) ≤ length xs - 1 = simp length-drop (omega arith) in
      rw (msorted-any g k (take (length xs / 2) xs) (omega arith) (omega arith), msorted-any g k (drop (length xs / 2) xs) (omega arith) (omega arith)))

  -- a list of two or more: its halves, sorted and merged
  pub msorted_halves : (k h : ℕ) (p : List ℕ) → 2 ≤ k → h ≡ k / 2 → k ≤ length p
      → msorted f k (take k p) ≡ merged f k (msorted f h (take h p)) (msorted f (k - h) (take (k - h) (drop h p)))
  unfolding msorted
  msorted_halves zero h p a e b = absurd (omega arith)
  msorted_halves (suc g) h p a e b =
      let l : length (take (suc g) p) ≡ suc g = length-take-le (suc g) p b in
      let lo : take h (take (suc g) p) ≡ take h p = take-take h (suc g) p (omega arith) in
      let hi : drop h (take (suc g) p) ≡ take (suc g - h) (drop h p) = sym (part_slice h (suc g) p) in
      let la : length (take h p) ≡ h = length-take-le h p (omega arith) in
      let lb : length (take (suc g - h) (drop h p)) ≡ suc g - h = length-take-le (suc g - h) (drop h p) (simp length-drop (omega arith)) in
      rw (l, le-ltb (suc g) 2 a, ← e, lo, hi, msorted-any g h (take h p) (omega arith) (omega arith), msorted-any g (suc g - h) (take (suc g - h) (drop h p)) (omega arith) (omega arith))

  -- before the merge: the right half stands sorted in its place, and the left one sorted behind both
  pub record Halves (k h r : ℕ) (p p₃ : List ℕ) : Type 0 where
    pub many : 2 ≤ k
    pub half : h ≡ k / 2
    pub other : r ≡ k - h
    pub room : k + k ≤ length p
    pub long : length p₃ ≡ length p
    pub left : slice k (k + h) p₃ ≡ msorted f h (take h p)
    pub right : slice h k p₃ ≡ msorted f r (take r (drop h p))
    pub rest : drop (k + k) p₃ ≡ drop (k + k) p

  pub halves : (k h r : ℕ) (p ys p₂ zs : List ℕ) → 2 ≤ k → h ≡ k / 2 → r ≡ k - h → k + k ≤ length p
      → length ys ≡ r + r → take r ys ≡ msorted f r (take r (drop h p))
      → p₂ ≡ paste (take h p ++ (ys ++ drop (r + r) (drop h p))) k (take h p ++ (ys ++ drop (r + r) (drop h p))) h
      → length zs ≡ h + h → take h zs ≡ msorted f h (take h (drop k p₂))
      → Halves k h r p (take k p₂ ++ (zs ++ drop (h + h) (drop k p₂)))
  halves k h r p ys p₂ zs a e q n ly ey e₂ lz ez =
      let p₁ : List ℕ = take h p ++ (ys ++ drop (r + r) (drop h p)) in
      let p₃ : List ℕ = take k p₂ ++ (zs ++ drop (h + h) (drop k p₂)) in
      let hr : k ≡ h + r = omega arith in
      let n₁ : length p₁ ≡ length p = lent-long h (r + r) p ys (omega arith) ly (omega arith) in
      let s₁ : h ≤ length p₁ = omega arith in
      let n₂ : length p₂ ≡ length p = ap length e₂ ∙ length-paste p₁ k p₁ h (omega arith) s₁ ∙ n₁ in
      let n₃ : length p₃ ≡ length p = lent-long k (h + h) p₂ zs (omega arith) lz (omega arith) ∙ n₂ in
      let l₂ : take h (drop k p₂) ≡ take h p = part_at k h p₂ ∙ rw e₂ (paste_mid p₁ k p₁ h (omega arith) s₁) ∙ lent-low h (r + r) p ys (omega arith) ly in
      let l₃ : slice k (k + h) p₃ ≡ msorted f h (take h p) = sym (part_at k h p₃) ∙ lent_in k (h + h) p₂ zs (omega arith) lz h (omega arith) ∙ ez ∙ ap (msorted f h) l₂ in
      let r₁ : slice h k p₁ ≡ msorted f r (take r (drop h p)) = rw hr (sym (part_at h r p₁) ∙ lent_in h (r + r) p ys (omega arith) ly r (omega arith) ∙ ey) in
      let t₂ : take k p₂ ≡ take k p₁ = rw e₂ (paste_low p₁ k p₁ h (omega arith) s₁ k (omega arith)) in
      let t₃ : take k p₃ ≡ take k p₂ = lent-low k (h + h) p₂ zs (omega arith) lz in
      let b₁ : drop (k + k) p₁ ≡ drop (k + k) p = drop_back (h + (r + r)) p₁ p (lent-high h (r + r) p ys (omega arith) ly) (k + k) (omega arith) in
      let b₂ : drop (k + h) p₂ ≡ drop (k + h) p₁ = rw e₂ (drop-paste p₁ k p₁ h (omega arith) s₁) in
      let b₃ : drop (k + (h + h)) p₃ ≡ drop (k + (h + h)) p₂ = lent-high k (h + h) p₂ zs (omega arith) lz in
      record {
        many = a;
        half = e;
        other = q;
        room = n;
        long = n₃;
        left = l₃;
        right = ap (drop h) (t₃ ∙ t₂) ∙ r₁;
        rest = drop_back (k + (h + h)) p₃ p₂ b₃ (k + k) (omega arith) ∙ drop_back (k + h) p₂ p₁ b₂ (k + k) (omega arith) ∙ b₁;
      }

  module _ {k h r : ℕ} {p p₃ : List ℕ} (s : Halves k h r p p₃) where
    -- the two halves, merged
    halves_sorted : merged f k (slice k (k + h) p₃) (slice h k p₃) ≡ msorted f k (take k p)
    halves_sorted = rw (s.left, s.right, s.other) (sym (msorted_halves k h p s.many s.half (omega (arith, s.room))))

    pub by_merge : (p₄ : List ℕ) → (take k p₄ ≡ merged f k (slice k (k + h) p₃) (slice h k p₃)) × (drop k p₄ ≡ drop k p₃)
        → (take k p₄ ≡ msorted f k (take k p)) × (drop (k + k) p₄ ≡ drop (k + k) p)
    by_merge p₄ e = (e.0 ∙ halves_sorted, drop_back k p₄ p₃ e.1 (k + k) (omega arith) ∙ s.rest)

    -- where they are in turn, the left one is laid before the right one
    pub by_copy : (p₄ : List ℕ) → p₄ ≡ paste p₃ 0 (drop k p₃) h → merged f k (slice k (k + h) p₃) (slice h k p₃) ≡ slice k (k + h) p₃ ++ slice h k p₃
        → (take k p₄ ≡ msorted f k (take k p)) × (drop (k + k) p₄ ≡ drop (k + k) p)
    by_copy p₄ e t =
        let hr : k ≡ h + (k - h) = omega (arith, s.half) in
        let m : h ≤ length (drop k p₃) = simp length-drop (omega (arith, s.room, s.long, s.half)) in
        let z : h ≡ 0 + h = omega arith in
        let laid : List ℕ = paste p₃ 0 (drop k p₃) h in
        let lo : take h p₄ ≡ slice k (k + h) p₃ = ap (take h) e ∙ ap (λ (i : ℕ). take i laid) z ∙ take-paste p₃ 0 (drop k p₃) h (omega arith) m ∙ part_at k h p₃ in
        let up : drop h p₄ ≡ drop h p₃ = ap (drop h) e ∙ ap (λ (i : ℕ). drop i laid) z ∙ drop-paste p₃ 0 (drop k p₃) h (omega arith) m ∙ ap (λ (i : ℕ). drop i p₃) (sym z) in
        let all : take k p₄ ≡ take h p₄ ++ slice h k p₄ = sym (take-append-drop h (take k p₄)) ∙ rw (take-take h k p₄ (omega (arith, s.half))) in
        (all ∙ rw (lo, slice_back h p₄ p₃ up h (omega arith) k) (sym t) ∙ halves_sorted, drop_back h p₄ p₃ up (k + k) (omega (arith, s.half)) ∙ s.rest)
