-- A walk that copies k elements of any type within a list, upwards to a place past them: `Moved p₀ p from to i` says that i are copied.
--     moved_start    none copied
--     moved_more     one more
-- Assumes nothing.
use mathlib.Core.Path.{◌≡◌, sym, ap, ◌∙◌}
use mathlib.Core.List.{List, ◌++◌, append_assoc}
use Prim.Native.Nat.{ℕ, suc, ◌+◌, ◌≤◌, ◌<◌}
use native.Mathlib.Numerals.{add-one}
use native.Mathlib.Omega.{arith}
use lib.ListN.{length, take, drop, set, get_or, length-drop}
use lib.Seq.{paste, paste-zero, paste-suc, take_at, length-take-le, get_or-take, get_or-drop}

pub record Moved {A : Type 0} (p₀ p : List A) (from to i : ℕ) : Type 0 where
  pub now : p ≡ paste p₀ to (drop from p₀) i

module _ {A : Type 0} where
  pub moved_start : (p₀ : List A) (from to : ℕ) → Moved p₀ p₀ from to 0
  moved_start p₀ from to = record { now = paste-zero p₀ to (drop from p₀) }

  -- what lies before the place is as it was
  paste_front : (d s : List A) (to n : ℕ) → to ≤ length d → take to (paste d to s n) ≡ take to d
  paste_front d s to n h = rw append_assoc (take_at (take to d) (take n s ++ drop (to + n) d) to (length-take-le to d h))

  -- the element that was read is what stood there at first
  module _ {p₀ p : List A} {from k to i : ℕ} (apart : from + k ≤ to) (room : to + k ≤ length p₀) (h : i < k) (m : Moved p₀ p from to i) where
    read : (d : A) → get_or p (from + i) d ≡ get_or p₀ (from + i) d
    read d =
        let l : from + i < to = omega arith in
        let e : take to p ≡ take to p₀ = ap (take to) m.now ∙ paste_front p₀ (drop from p₀) to i (omega arith) in
        sym (get_or-take to p (from + i) d l) ∙ rw e (get_or-take to p₀ (from + i) d l)

    pub moved_more : (x : A) → x ≡ get_or p (from + i) x → Moved p₀ (set p (to + i) x) from to (i + 1)
    moved_more x q =
        let l : i < length (drop from p₀) = simp length-drop (omega arith) in
        let f : get_or (drop from p₀) i x ≡ x = get_or-drop from p₀ i x ∙ sym (q ∙ read x) in
        let s : set (paste p₀ to (drop from p₀) i) (to + i) (get_or (drop from p₀) i x) ≡ paste p₀ to (drop from p₀) (suc i) = paste-suc p₀ to (drop from p₀) i x (omega arith) l in
        record { now = ap (λ (y : List A). set y (to + i) x) m.now ∙ ap (λ (y : A). set (paste p₀ to (drop from p₀) i) (to + i) y) (sym f) ∙ rw add-one s }
