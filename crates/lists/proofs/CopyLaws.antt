-- A loop that copies k elements, one a turn, into p₀ from `to` on: from another list, or within p₀ to a place past its source or wholly
-- below it. The elements are numbers of any width, so that the same laws serve bytes and words.
--     copying_start    with none copied
--     copying_from, copying_room    what is read and what is written lies within
--     copying_next     one more, from the source
--     copying_on       one more, within one list
--     copying_end      all of it
-- Assumes nothing.
use mathlib.Core.Path.{◌≡◌, sym, ap, ◌∙◌}
use mathlib.Core.Logic.{◌⊎◌, inl, inr}
use mathlib.Core.List.{List}
use Prim.Native.Nat.{ℕ, zero, suc, ◌+◌, ◌≤◌, ◌<◌}
use native.Mathlib.Numerals.{add-one}
use native.Mathlib.Omega.{arith}
use lib.ListN.{length, take, drop, set, get_or, length-drop}
use lib.Seq.{paste, paste-zero, paste-suc, length-paste, drop-paste, get_or-take, get_or-drop}
use Rattle.lists.proofs.SliceLaws.{get_d_back}
use Rattle.lists.proofs.LentLaws.{paste_low}

pub record Copying (src p₀ p : List ℕ) (from k to i : ℕ) : Type 0 where
  pub source : 0 < k → from + k ≤ length src
  pub room : to + k ≤ length p₀
  pub within : i ≤ k
  pub now : p ≡ paste p₀ to (drop from src) i

pub copying_start : (src p₀ : List ℕ) (from k to : ℕ) → (0 < k → from + k ≤ length src) → to + k ≤ length p₀ → Copying src p₀ p₀ from k to 0
copying_start src p₀ from k to s r = record { source = s; room = r; within = omega arith; now = paste-zero p₀ to (drop from src) }

many : (src : List ℕ) (from k i : ℕ) → (0 < k → from + k ≤ length src) → i ≤ k → i ≤ length (drop from src)
many src from k zero s h = omega arith
many src from k (suc i) s h =
    let q = s (omega arith) in
    simp length-drop (omega arith)

module _ {src p₀ p : List ℕ} {from k to i : ℕ} (c : Copying src p₀ p from k to i) where
  copying_many : i ≤ length (drop from src)
  copying_many = many src from k i c.source c.within

  pub copying_long : length p ≡ length p₀
  copying_long = ap length c.now ∙ length-paste p₀ to (drop from src) i (omega (arith, c.room, c.within)) copying_many

  pub copying_from : i < k → from + i < length src
  copying_from h = omega (arith, c.source (omega arith))

  pub copying_room : i < k → to + i < length p
  copying_room h = omega (arith, c.room, copying_long)

  pub copying_next : i < k → Copying src p₀ (set p (to + i) (get_or src (from + i) 0)) from k to (i + 1)
  copying_next h =
      let l : i < length (drop from src) = simp length-drop (omega (arith, copying_from h)) in
      let g : set p (to + i) (get_or (drop from src) i 0) ≡ paste p₀ to (drop from src) (suc i) = ap (λ (x : List ℕ). set x (to + i) (get_or (drop from src) i 0)) c.now ∙ paste-suc p₀ to (drop from src) i 0 (omega (arith, c.room)) l in
      record { source = c.source; room = c.room; within = omega arith; now = rw (← get_or-drop from src i 0, add-one) g }

  pub copying_end : k ≤ i → p ≡ paste p₀ to (drop from src) k
  copying_end h =
      let e : i ≡ k = omega (arith, c.within) in
      rw (← e) c.now

-- within one list what is to be read is as it was: the copy lies past it, or below it
module _ {p₀ p : List ℕ} {from k to i : ℕ} (apart : (from + k ≤ to) ⊎ (to + k ≤ from)) (c : Copying p₀ p₀ p from k to i) where
  copying_read : i < k → get_or p (from + i) 0 ≡ get_or p₀ (from + i) 0
  copying_read h = go apart
    where
      go : (from + k ≤ to) ⊎ (to + k ≤ from) → get_or p (from + i) 0 ≡ get_or p₀ (from + i) 0
      go (inl a) =
          let l : from + i < to = omega arith in
          let e : take to p ≡ take to p₀ = ap (take to) c.now ∙ paste_low p₀ to (drop from p₀) i (omega (arith, c.room)) (copying_many c) to (omega arith) in
          sym (get_or-take to p (from + i) 0 l) ∙ rw e (get_or-take to p₀ (from + i) 0 l)
      go (inr a) =
          let e : drop (to + i) p ≡ drop (to + i) p₀ = ap (drop (to + i)) c.now ∙ drop-paste p₀ to (drop from p₀) i (omega (arith, c.room)) (copying_many c) in
          get_d_back (to + i) p p₀ e (from + i) (omega arith)

  pub copying_on : i < k → Copying p₀ p₀ (set p (to + i) (get_or p (from + i) 0)) from k to (i + 1)
  copying_on h = rw (copying_read h) (copying_next c h)
