-- What pass 6 makes of a list, by the hit at its front; and that inside a line only a newline begins a hit.
-- Assumes nothing.
use mathlib.Core.Path.{◌≡◌, refl, sym, ap, ◌∙◌}
use mathlib.Core.Bool.{Bool, true, false}
use mathlib.Core.List.{List, [], ◌∷◌}
use mathlib.Core.Logic.{inl, inr}
use Prim.Native.Nat.{ℕ, zero, suc, ◌+◌, ◌-◌, ◌≤◌, ◌<◌}
use native.Mathlib.Nat.{not-suc-le-zero}
use native.Mathlib.Omega.{arith}
use lib.Dec.{eqb}
use lib.ListN.{length, drop, get_or, set, length-drop}
use lib.Seq.{drop-drop}
use borrow.Author.Tests.{lt-ltb, ne_eqb}
use Rattle.lists.proofs.SliceLaws.{drop-next}
use Rattle.lists.proofs.InPlaceLaws.{Over, over-next, over-at, over_jump, over_write, over-put}
use Rattle.rules.specs.Bytes.{text, newline, starts}
use Rattle.rules.specs.Passes.{hit_a, hit_b, hit_c, or_else, hit, without_copyright}
use Rattle.rules.proofs.HitLaws.{Taken, hit-size}

-- ---- where a hit can start
pub hit-inside : (s : List ℕ) → hit false false s ≡ hit_a false s
unfolding hit hit_b hit_c or_else
hit-inside s = at (hit_a false s)
  where
    at : (a : ℕ) → or_else a (or_else 0 0) ≡ a
    at zero = refl
    at (suc a) = refl

pub inside-none : (s : List ℕ) (at : ℕ) → at < length s → (get_or s at 0 ≡ 10 → ⊥) → hit false false (drop at s) ≡ 0
unfolding hit_a text starts
inside-none s at h e = hit-inside (drop at s) ∙ rw (drop-next s at h, ne_eqb 10 (get_or s at 0) (λ q. e (sym q)))

-- ---- k bytes belong to a hit already: what follows them, where the last of them tells whether a line starts
skip : (start fresh : Bool) (k : ℕ) (l : List ℕ) → k < length l →
    without_copyright start fresh (suc k) l ≡ without_copyright false (newline (get_or l k 0)) 0 (drop (suc k) l)
unfolding without_copyright
skip start fresh k [] h = absurd (not-suc-le-zero h)
skip start fresh zero (x ∷ xs) h = refl
skip start fresh (suc k) (x ∷ xs) h = skip false (newline x) k xs (omega arith)

module _ (start fresh : Bool) (b : ℕ) {l l' : List ℕ} (h : l ≡ b ∷ l') where
  pub cut_miss : hit start fresh l ≡ 0 → without_copyright start fresh 0 l ≡ b ∷ without_copyright false (newline b) 0 l'
  unfolding without_copyright
  cut_miss e =
      let f : hit start fresh (b ∷ l') ≡ 0 = rw h at e in
      rw (h, f)

  pub hit_fits : (hit start fresh l ≡ 0 → ⊥) → (2 ≤ hit start fresh l) × (hit start fresh l ≤ length l)
  hit_fits e = at (hit-size start fresh l)
    where
      at : Taken l (hit start fresh l) → (2 ≤ hit start fresh l) × (hit start fresh l ≤ length l)
      at (inl z) = absurd (e z)
      at (inr p) = p

  pub cut-hit : (n : ℕ) → n ≡ hit start fresh l → (n ≡ 0 → ⊥) →
      without_copyright start fresh 0 l ≡ 10 ∷ 10 ∷ without_copyright false (newline (get_or l (n - 1) 0)) 0 (drop n l)
  unfolding without_copyright text
  cut-hit n q e =
      let f : hit start fresh (b ∷ l') ≡ n = rw h at (sym q) in
      let p : (2 ≤ n) × (n ≤ length l) = omega (arith, hit_fits (λ z. e (q ∙ z)), q) in
      let len : length l ≡ suc (length l') = ap length h in
      let k : n - 1 ≡ suc (n - 2) = omega arith in
      let m : n ≡ suc (suc (n - 2)) = omega arith in
      let d : drop n (b ∷ l') ≡ drop (suc (n - 2)) l' = ap (λ (j : ℕ). drop j (b ∷ l')) m in
      rw (h, f, lt-ltb 0 n (omega arith), k, d) (ap (λ (r : List ℕ). 10 ∷ 10 ∷ r) (skip false (newline b) (n - 2) l' (omega arith)))

pub cut-done : (start fresh : Bool) {l : List ℕ} → l ≡ [] → without_copyright start fresh 0 l ≡ []
unfolding without_copyright
cut-done start fresh h = rw h

-- ---- the walk: it is at i, where a text or a line may start, and has written w
abbrev pub Cutting : List ℕ → List ℕ → ℕ → ℕ → Bool → Type 0
Cutting src d i w fresh = Over (without_copyright true true 0 src) (without_copyright (eqb i 0) fresh 0 (drop i src)) src d i w

past-start : (i : ℕ) → 0 < i → eqb i 0 ≡ false
past-start i h = ne_eqb i 0 (λ e. omega arith)

module _ {i w : ℕ} {src d : List ℕ} (fresh : Bool) (p : Cutting src d i w fresh) (h : i < length src) where
  -- no hit: the byte goes over
  pub cutting_miss : hit (eqb i 0) fresh (drop i d) ≡ 0 → Cutting src (set d w (get_or d i 0)) (i + 1) (w + 1) (eqb (get_or d i 0) 10)
  unfolding newline
  cutting_miss e =
      let z : hit (eqb i 0) fresh (drop i src) ≡ 0 = rw p.back at e in
      let f : without_copyright (eqb i 0) fresh 0 (drop i src) ≡ get_or d i 0 ∷ without_copyright (eqb (i + 1) 0) (eqb (get_or d i 0) 10) 0 (drop (i + 1) src) =
      cut_miss (eqb i 0) fresh (get_or d i 0) (over-next p h) z ∙ rw (past-start (i + 1) (omega arith)) in
      over-put f h p

  -- a hit of k bytes
  module _ (k : ℕ) (q : k ≡ hit (eqb i 0) fresh (drop i d)) (e : 0 < k) where
    here : k ≡ hit (eqb i 0) fresh (drop i src)
    here = q ∙ rw p.back

    pub cutting_long : (2 ≤ k) × (i + k ≤ length src)
    cutting_long =
        let f = hit_fits (eqb i 0) fresh (get_or d i 0) (over-next p h) (λ z. omega (arith, here, z)) in
        omega (arith, here, f, length-drop i src)

    -- it becomes two newlines, and its last byte tells whether a line starts behind it
    pub cutting_hit : Cutting src (set (set d w 10) (w + 1) 10) (i + k) (w + 1 + 1) (eqb (get_or d (i + k - 1) 0) 10)
    unfolding newline
    cutting_hit =
        let l = cutting_long in
        let a : i + (k - 1) ≡ i + k - 1 = omega arith in
        let b : get_or (drop i src) (k - 1) 0 ≡ get_or d (i + k - 1) 0 = over-at (k - 1) p ∙ ap (λ (j : ℕ). get_or d j 0) a in
        let f : without_copyright (eqb i 0) fresh 0 (drop i src) ≡ 10 ∷ 10 ∷ without_copyright (eqb (i + k) 0) (eqb (get_or d (i + k - 1) 0) 10) 0 (drop (i + k) src) =
        cut-hit (eqb i 0) fresh (get_or d i 0) (over-next p h) k here (λ z. omega arith) ∙ rw (b, past-start (i + k) (omega arith), drop-drop k i src) in
        over_write refl (omega arith) (over_write f (omega arith) (over_jump (i + k) refl (omega arith) l.1 p))
