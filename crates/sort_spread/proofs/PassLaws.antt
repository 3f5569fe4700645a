-- The passes over one slice, whose two parts change places as source and target.
--     placing-..                  the loop of `place_starts`
--     passing-..                  the loop of `spread_all`, two passes a turn
-- Assumes nothing.
use mathlib.Core.Path.{◌≡◌, refl, sym, ap, ◌∙◌}
use mathlib.Core.Logic.{◌⊎◌, ⊎_elim}
use mathlib.Core.List.{List}
use Prim.Native.Nat.{ℕ, ◌+◌, ◌≤◌, ◌<◌}
use native.Mathlib.Omega.{arith}
use lib.ListN.{length, take, drop, set, get_or, length-set}
use lib.Seq.{slice, drop-set-lt}
use Rattle.lists.proofs.SliceLaws.{drop_back}
use Rattle.lists.proofs.StoreLaws.{length_part, part-read, part_set, slice_set_past, slice_set_low}
use Rattle.sort_spread.specs.Spread.{keyed_below, Counters, Shuffled}
use Rattle.sort_spread.proofs.SpreadLaws.{Spreading, next_place, spreading_start, spreading_next, spreading_end}

-- ---- from one part to the other
abbrev Apart : ℕ → ℕ → ℕ → Type 0
Apart from to k = (from + k ≤ to) ⊎ (to + k ≤ from)

pub record Placing (key : ℕ → ℕ) (p₀ p c : List ℕ) (from to k i : ℕ) : Type 0 where
  pub fits : from + k ≤ length p₀
  pub room : to + k ≤ length p₀
  pub apart : Apart from to k
  pub within : i ≤ k
  pub long : length p ≡ length p₀
  pub source : slice from (from + k) p ≡ slice from (from + k) p₀
  pub rest : drop (to + k) p ≡ drop (to + k) p₀
  pub placed : Spreading key (slice from (from + k) p₀) (slice to (to + k) p) c i

module _ (key : ℕ → ℕ) (p c : List ℕ) (from to k : ℕ) where
  pub placing_start : from + k ≤ length p → to + k ≤ length p → Apart from to k → Counters (keyed_below key (slice from (from + k) p)) c → Placing key p p c from to k 0
  placing_start a b o h =
      record {
        fits = a;
        room = b;
        apart = o;
        within = omega arith;
        long = refl;
        source = refl;
        rest = refl;
        placed = spreading_start key (slice from (from + k) p) (slice to (to + k) p) c (length_part to k p b ∙ sym (length_part from k p a)) h;
      }

module _ {key : ℕ → ℕ} {p₀ p c : List ℕ} {from to k i : ℕ} (s : Placing key p₀ p c from to k i) where
  pub placing_read : i < k → get_or (slice from (from + k) p₀) i 0 ≡ get_or p (from + i) 0
  placing_read h = rw (← s.source) (part-read from k p i h)

  -- where the next one goes, a place of the part
  pub placing_place : i < k → (b : ℕ) → b < 256 → b ≡ key (get_or p (from + i) 0) → get_or c b 0 < k
  placing_place h b l e =
      let n = length_part from k p₀ s.fits in
      omega (arith, s.placed.counters.each b l, next_place key (slice from (from + k) p₀) i b (omega arith) (ap key (placing_read h) ∙ sym e))

  pub placing_next : i < k → (b w : ℕ) → b ≡ key (get_or p (from + i) 0) → b < 256 → w ≡ get_or c b 0 →
      Placing key p₀ (set p (to + w) (get_or p (from + i) 0)) (set c b (get_or c b 0 + 1)) from to k (i + 1)
  placing_next h b w e l g =
      let x : ℕ = get_or p (from + i) 0 in
      let m : w < k = omega (arith, placing_place h b l e) in
      let n = length_part from k p₀ s.fits in
      let r : x ≡ get_or (slice from (from + k) p₀) i 0 = sym (placing_read h) in
      let v : key (get_or (slice from (from + k) p₀) i 0) < 256 = rw (← r, ← e) l in
      record {
        fits = s.fits;
        room = s.room;
        apart = s.apart;
        within = omega arith;
        long = length-set p (to + w) x ∙ s.long;
        source = ⊎_elim (λ u. slice_set_past from (from + k) p (to + w) x (omega arith)) (λ u. slice_set_low from (from + k) p (to + w) x (omega arith)) s.apart ∙ s.source;
        rest = drop-set-lt (to + k) p (to + w) x (omega arith) ∙ s.rest;
        placed = rw (part_set to k p w x m, ← g) (spreading_next s.placed (omega arith) v b x w r e g);
      }

  pub placing_end : k ≤ i → ((x : ℕ) → key x < 256) → Shuffled (slice to (to + k) p) (slice from (from + k) p₀) × (drop (to + k) p ≡ drop (to + k) p₀)
  placing_end h most = (spreading_end s.placed (omega (arith, length_part from k p₀ s.fits)) most, s.rest)

-- ---- there and back
pub record SpreadPass (p₀ p : List ℕ) (k : ℕ) : Type 0 where
  pub long : length p ≡ length p₀
  pub same : Shuffled (take k p) (take k p₀)
  pub rest : drop (k + k) p ≡ drop (k + k) p₀

pub passing_start : (p : List ℕ) (k : ℕ) → SpreadPass p p k
passing_start p k = record { long = refl; same = λ q. refl; rest = refl }

pub passing_next : {p₀ p : List ℕ} {k : ℕ} → SpreadPass p₀ p k → (p₁ p₂ : List ℕ) → length p₁ ≡ length p → length p₂ ≡ length p₁ →
    Shuffled (slice k (k + k) p₁) (slice 0 (0 + k) p) × (drop (k + k) p₁ ≡ drop (k + k) p) →
    Shuffled (slice 0 (0 + k) p₂) (slice k (k + k) p₁) × (drop (0 + k) p₂ ≡ drop (0 + k) p₁) → SpreadPass p₀ p₂ k
passing_next {p₀} {p} {k} s p₁ p₂ n m there back =
    let z : 0 + k ≡ k = omega arith in
    let a : Shuffled (slice k (k + k) p₁) (take k p) = rw z at there.0 in
    let b : Shuffled (take k p₂) (slice k (k + k) p₁) = rw z at back.0 in
    let r : drop k p₂ ≡ drop k p₁ = rw z at back.1 in
    record {
      long = m ∙ n ∙ s.long;
      same = λ q. b q ∙ a q ∙ s.same q;
      rest = drop_back k p₂ p₁ r (k + k) (omega arith) ∙ there.1 ∙ s.rest;
    }
