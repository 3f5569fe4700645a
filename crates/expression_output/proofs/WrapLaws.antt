-- Bytes moved one place up with a byte carried along. `Shifting c₀ s d from end i c`: up to i the bytes of s stand one place higher in d,
-- c₀ in front of them, and c is carried.
-- Assumes nothing.
use mathlib.Core.Path.{◌≡◌, refl, sym, ap, ◌∙◌}
use Prim.Native.Nat.{ℕ, zero, suc, ◌+◌, ◌-◌, ◌≤◌, ◌<◌, min, max}
use native.Mathlib.Nat.{zero-add, suc-add}
use mathlib.Core.Bool.{true, false}
use mathlib.Core.List.{List, [], ◌∷◌, ◌++◌}
use native.Mathlib.Omega.{arith}
use lib.ListN.{length, take, drop, set, get_or, length-append, length-drop}
use lib.Seq.{take-suc, length-take-le, get_or-drop}
use Rattle.expression.specs.Writing.{wrap}
use Rattle.expression_output.specs.Output.{overlay, capped, Put, Wrapped}
use Rattle.expression_output.proofs.OutputLaws.{overlay-none, overlay-one, overlay-over, overlay-behind, overlay-length, overlay-capped}

-- ---- the move as a whole: k of the bytes are moved, the last one and t are put behind them
shift_front : (c k : ℕ) (bs t s : List ℕ) → k ≡ min (length bs) (length s)
    → overlay (length bs) (get_or (c ∷ overlay zero bs s) k 0 ∷ t) (overlay zero (take k (c ∷ overlay zero bs s)) (overlay zero bs s)) ≡ overlay zero (c ∷ (bs ++ t)) s
unfolding overlay
shift_front c k bs t [] e = refl
shift_front c zero [] t (x ∷ s) e = refl
shift_front c (suc k) [] t (x ∷ s) e = absurd (omega arith)
shift_front c zero (b ∷ bs) t (x ∷ s) e = absurd (omega arith)
shift_front c (suc k) (b ∷ bs) t (x ∷ s) e = ap (λ (l : List ℕ). c ∷ l) (shift_front b k bs t s (omega arith))

pub shift_over : (o c k : ℕ) (bs t s : List ℕ) → k ≡ min (length bs) (length s - o)
    → overlay (o + length bs) (get_or (c ∷ drop o (overlay o bs s)) k 0 ∷ t) (overlay o (take k (c ∷ drop o (overlay o bs s))) (overlay o bs s)) ≡ overlay o (c ∷ (bs ++ t)) s
unfolding overlay
shift_over o c k bs t [] e = refl
shift_over zero c k bs t (x ∷ s) e = rw (zero-add (length bs)) (shift_front c k bs t (x ∷ s) (omega arith))
shift_over (suc o) c k bs t (x ∷ s) e = rw (suc-add o (length bs)) (ap (λ (l : List ℕ). x ∷ l) (shift_over o c k bs t s (omega arith)))

-- ---- its loop
pub record Shifting (c₀ : ℕ) (s d : List ℕ) (from end i c : ℕ) : Type 0 where
  pub low : from ≤ i
  pub high : i ≤ max from end
  pub now : d ≡ overlay from (take (i - from) (c₀ ∷ drop from s)) s
  pub carried : c ≡ get_or (c₀ ∷ drop from s) (i - from) 0

pub shifting_start : (c₀ : ℕ) (s : List ℕ) (from end : ℕ) → Shifting c₀ s s from end from c₀
shifting_start c₀ s from end =
    let e : from - from ≡ 0 = omega arith in
    record { low = omega arith; high = omega arith; now = rw e (sym (overlay-none from s)); carried = rw e }

module _ {c₀ : ℕ} {s d : List ℕ} {from end i c : ℕ} (h : Shifting c₀ s d from end i c) where
  pub shifting_long : length d ≡ length s
  shifting_long = ap length h.now ∙ overlay-length from (take (i - from) (c₀ ∷ drop from s)) s

  pub shifting_next : i < end → end ≤ length s → Shifting c₀ s (set d i c) from end (i + 1) (get_or d i 0)
  shifting_next m n =
      let j : i + 1 - from ≡ suc (i - from) = omega (arith, h.low) in
      let e : from + (i - from) ≡ i = omega (arith, h.low) in
      let src : List ℕ = c₀ ∷ drop from s in
      let k : i - from < length src = omega (arith, length-drop from s, h.low) in
      let l : from + length (take (i - from) src) ≡ i = omega (arith, length-take-le (i - from) src (omega arith), h.low) in
      record {
        low = omega (arith, h.low);
        high = omega arith;
        now =
            sym (overlay-one i c d) ∙ ap (λ (n : ℕ). overlay n (c ∷ []) d) (sym l)
            ∙ rw (h.now, h.carried, j, take-suc src (i - from) 0 k) (overlay-over from (take (i - from) src) (get_or src (i - from) 0 ∷ []) s);
        carried =
            ap (λ (x : List ℕ). get_or x i 0) h.now ∙ overlay-behind from (take (i - from) src) s i (omega arith)
            ∙ rw j (sym (get_or-drop from s (i - from) 0 ∙ rw e));
      }

-- as many are moved as there are and as fit
shift_count : (from to end i k n : ℕ) → from ≤ i → i ≤ max from end → end ≤ i → end ≡ min to n → n < 18446744073709551616
    → to ≡ capped (from + k) → i - from ≡ min k (n - from)
shift_count from to end i k n a b c d e f = omega arith

-- the place behind them
behind-all : (from to k n r : ℕ) → to ≡ capped (from + k) → r ≡ capped (to + 2) → n ≡ k + 1 → r ≡ capped (from + suc n)
behind-all from to k n r a b c = omega arith

-- ---- parentheses
pub wrapped_none : (from to : ℕ) (s : List ℕ) → Wrapped false from to s s to
unfolding wrap
wrapped_none from to s bs s₀ e q = (e, q)

pub wrapped : (to : ℕ) {s d f : List ℕ} {from end i c r : ℕ} → Shifting 40 s d from end i c → end ≤ i → end ≡ min to (length s) → length s < 18446744073709551616
    → Put to (c ∷ 41 ∷ []) d f r → Wrapped true from to s f r
unfolding wrap
wrapped to {s} {d} {f} {from} {end} {i} {c} {r} h m n k w bs s₀ x y =
    let l : length s ≡ length s₀ = ap length x ∙ overlay-length from bs s₀ in
    let q = shift_count from to end i (length bs) (length s₀) h.low h.high m (n ∙ ap (min to) l) (omega arith) y in (
      w.0 ∙ ap (λ (n : ℕ). overlay n (c ∷ 41 ∷ []) d) y ∙ overlay-capped (from + length bs) (c ∷ 41 ∷ []) d (omega (arith, shifting_long h))
          ∙ rw (h.now, h.carried, x) (shift_over from 40 (i - from) bs (41 ∷ []) s₀ q),
      behind-all from to (length bs) _ r y w.1 (length-append bs (41 ∷ [])),
    )
