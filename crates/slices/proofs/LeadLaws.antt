-- How many bytes of one kind lead: a walk from `at` on, up to the first that is of another kind, or over all of them.
-- Assumes nothing.
use mathlib.Core.Path.{◌≡◌}
use mathlib.Core.Bool.{Bool, true, false}
use mathlib.Core.List.{List}
use Prim.Native.Nat.{ℕ, suc, ◌+◌, ◌-◌, ◌≤◌, ◌<◌}
use native.Mathlib.Omega.{arith}
use lib.ListN.{length, drop, get_or, length-drop}
use Rattle.lists.proofs.SliceLaws.{drop-next, drop-done}
use Rattle.rules.specs.Bytes.{lead}
use Rattle.rules.proofs.HitLaws.{lead-length}

-- all bytes from `at` up to i are of the kind; none counted, one more, the byte at i is not of the kind, none is left
pub record Led (p : ℕ → Bool) (s : List ℕ) (at i : ℕ) : Type 0 where
  pub from : at ≤ i
  pub count : i - at + lead p (drop i s) ≡ lead p (drop at s)

pub led_start : (p : ℕ → Bool) (s : List ℕ) (at : ℕ) → Led p s at at
led_start p s at = record { from = omega arith; count = omega arith }

-- what is counted from i on, by the byte at i
module _ (p : ℕ → Bool) (s : List ℕ) (i : ℕ) where
  pub lead-more : i < length s → p (get_or s i 0) ≡ true → lead p (drop i s) ≡ suc (lead p (drop (i + 1) s))
  unfolding lead
  lead-more h e = rw (drop-next s i h, e)

  pub lead-none : i < length s → p (get_or s i 0) ≡ false → lead p (drop i s) ≡ 0
  unfolding lead
  lead-none h e = rw (drop-next s i h, e)

  pub lead-end : length s ≤ i → lead p (drop i s) ≡ 0
  unfolding lead
  lead-end h = rw (drop-done s i h)

module _ {p : ℕ → Bool} {s : List ℕ} {at i : ℕ} where
  pub led_more : i < length s → p (get_or s i 0) ≡ true → Led p s at i → Led p s at (i + 1)
  led_more h e l = record { from = omega arith; count = omega (arith, lead-more p s i h e) }

  pub led_stop : i < length s → p (get_or s i 0) ≡ false → Led p s at i → i - at ≡ lead p (drop at s)
  led_stop h e l = omega (arith, lead-none p s i h e)

  pub led_end : length s ≤ i → Led p s at i → i - at ≡ lead p (drop at s)
  led_end h l = omega (arith, lead-end p s i h)

  -- all that lies from `at` on
  pub led_all : length s ≤ i → Led p s at i → length s - at ≡ lead p (drop at s)
  led_all h l = omega (arith, led_end h l, lead-length p (drop at s), length-drop at s)
