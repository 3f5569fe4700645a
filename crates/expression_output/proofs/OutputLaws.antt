-- Laws of bytes laid over an output: the length stays, one run after another is one run, a place past the end does nothing; and of places that stop.
-- Assumes nothing.
use mathlib.Core.Path.{◌≡◌, refl, sym, ap, ◌∙◌}
use Prim.Native.Nat.{ℕ, zero, suc, ◌+◌, ◌-◌, ◌≤◌, ◌<◌, min}
use native.Mathlib.Nat.{zero-add, suc-add}
use mathlib.Core.List.{List, [], ◌∷◌, ◌++◌}
use native.Mathlib.Omega.{arith, min_cases}
use lib.ListN.{length, take, drop, set, get_or, length-append}
use lib.Seq.{paste, length-take-le}
use Rattle.expression_output.specs.Output.{overlay, capped, Put}

-- ---- places
pub capped_fits : (n : ℕ) → n < 18446744073709551616 → capped n ≡ n
capped_fits n h = omega arith

-- ---- what an overlay leaves as it was
pub overlay-length : (o : ℕ) (bs s : List ℕ) → length (overlay o bs s) ≡ length s
unfolding overlay
overlay-length o bs [] = refl
overlay-length zero [] (x ∷ s) = refl
overlay-length zero (b ∷ bs) (x ∷ s) = ap suc (overlay-length zero bs s)
overlay-length (suc o) bs (x ∷ s) = ap suc (overlay-length o bs s)

pub overlay-none : (o : ℕ) (s : List ℕ) → overlay o [] s ≡ s
unfolding overlay
overlay-none o [] = refl
overlay-none zero (x ∷ s) = refl
overlay-none (suc o) (x ∷ s) = ap (λ (l : List ℕ). x ∷ l) (overlay-none o s)

pub overlay_beyond : (o : ℕ) (bs s : List ℕ) → length s ≤ o → overlay o bs s ≡ s
unfolding overlay
overlay_beyond o bs [] h = refl
overlay_beyond zero bs (x ∷ s) h = absurd (omega arith)
overlay_beyond (suc o) bs (x ∷ s) h = ap (λ (l : List ℕ). x ∷ l) (overlay_beyond o bs s (omega arith))

-- behind the bytes it is as it was
pub overlay-behind : (o : ℕ) (bs s : List ℕ) (i : ℕ) → o + length bs ≤ i → get_or (overlay o bs s) i 0 ≡ get_or s i 0
unfolding overlay
overlay-behind o bs [] i h = refl
overlay-behind zero [] (x ∷ s) i h = refl
overlay-behind zero (b ∷ bs) (x ∷ s) zero h = absurd (omega arith)
overlay-behind zero (b ∷ bs) (x ∷ s) (suc i) h = overlay-behind zero bs s i (omega arith)
overlay-behind (suc o) bs (x ∷ s) zero h = absurd (omega arith)
overlay-behind (suc o) bs (x ∷ s) (suc i) h = overlay-behind o bs s i (omega arith)

-- ---- one run after another
front-over : (a b s : List ℕ) → overlay (length a) b (overlay zero a s) ≡ overlay zero (a ++ b) s
unfolding overlay
front-over a b [] = refl
front-over [] b (x ∷ s) = refl
front-over (y ∷ a) b (x ∷ s) = ap (λ (l : List ℕ). y ∷ l) (front-over a b s)

pub overlay-over : (o : ℕ) (a b s : List ℕ) → overlay (o + length a) b (overlay o a s) ≡ overlay o (a ++ b) s
unfolding overlay
overlay-over o a b [] = refl
overlay-over zero a b (x ∷ s) = rw (zero-add (length a)) (front-over a b (x ∷ s))
overlay-over (suc o) a b (x ∷ s) = rw (suc-add o (length a)) (ap (λ (l : List ℕ). x ∷ l) (overlay-over o a b s))

-- ---- whole, in its own terms
pub overlay-front : (bs s : List ℕ) → length bs ≤ length s → overlay zero bs s ≡ bs ++ drop (length bs) s
unfolding overlay
overlay-front [] [] h = refl
overlay-front (b ∷ bs) [] h = absurd (omega arith)
overlay-front [] (x ∷ s) h = refl
overlay-front (b ∷ bs) (x ∷ s) h = ap (λ (l : List ℕ). b ∷ l) (overlay-front bs s (omega arith))

pub overlay-one : (o b : ℕ) (s : List ℕ) → overlay o (b ∷ []) s ≡ set s o b
unfolding overlay
overlay-one o b [] = refl
overlay-one zero b (x ∷ s) = ap (λ (l : List ℕ). b ∷ l) (overlay-none zero s)
overlay-one (suc o) b (x ∷ s) = ap (λ (l : List ℕ). x ∷ l) (overlay-one o b s)

-- only what fits is needed
pub overlay-take : (o k : ℕ) (bs s : List ℕ) → min (length bs) (length s - o) ≤ k → overlay o (take k bs) s ≡ overlay o bs s
unfolding overlay
overlay-take o k bs [] h = refl
overlay-take zero zero [] (x ∷ s) h = refl
overlay-take zero (suc k) [] (x ∷ s) h = refl
overlay-take zero zero (b ∷ bs) (x ∷ s) h = absurd (omega arith)
overlay-take zero (suc k) (b ∷ bs) (x ∷ s) h = ap (λ (l : List ℕ). b ∷ l) (overlay-take zero k bs s (omega arith))
overlay-take (suc o) k bs (x ∷ s) h = ap (λ (l : List ℕ). x ∷ l) (overlay-take o k bs s (omega arith))

-- a copy within the list
pub overlay_paste : (o k : ℕ) (s d : List ℕ) → o + k ≤ length d → k ≤ length s → paste d o s k ≡ overlay o (take k s) d
unfolding overlay
overlay_paste zero k s d h m =
    let n : length (take k s) ≡ k = length-take-le k s m in
    rw (zero-add k) (sym (overlay-front (take k s) d (omega arith) ∙ rw n))
overlay_paste (suc o) k s [] h m = absurd (omega arith)
overlay_paste (suc o) k s (x ∷ d) h m = rw (suc-add o k) (ap (λ (l : List ℕ). x ∷ l) (overlay_paste o k s d (omega arith) m))

-- ---- places that stop
pub overlay-capped : (o : ℕ) (bs s : List ℕ) → length s < 18446744073709551616 → overlay (capped o) bs s ≡ overlay o bs s
overlay-capped o bs s h =
    min_cases o 18446744073709551615 (overlay (capped o) bs s ≡ overlay o bs s)
    (λ _ e. ap (λ (n : ℕ). overlay n bs s) e)
    (λ q _. overlay_beyond (capped o) bs s (omega arith) ∙ sym (overlay_beyond o bs s (omega arith)))

-- one writing after another
pub put_then : (o : ℕ) (a b s : List ℕ) {d e : List ℕ} {p r : ℕ} → length s < 18446744073709551616 → Put o a s d p → Put p b d e r → Put o (a ++ b) s e r
put_then o a b s {d} {e} {p} {r} h (u, v) (w, x) = (
  w ∙ rw (u, v) (overlay-capped (o + length a) b (overlay o a s) (omega (arith, overlay-length o a s)) ∙ overlay-over o a b s),
  omega (arith, length-append a b),
)
