-- What the leaves of `slices` count with the table of the classes is what the rules count with their tests; and where a word stands,
-- there is room for it.
-- Assumes nothing.
use mathlib.Core.Path.{◌≡◌, refl, sym, ap, ◌∙◌}
use mathlib.Core.Bool.{Bool, true, false, not, ◌&&◌, ◌||◌}
use mathlib.Core.List.{List, [], ◌∷◌, map}
use Prim.Native.Nat.{ℕ, ◌+◌, ◌≤◌, ◌<◌}
use native.Mathlib.Omega.{arith}
use lib.Dec.{leb, eqb}
use lib.ListN.{length, drop, length-drop}
use borrow.Author.Tests.{leb-true}
use Rattle.rules.specs.Bytes.{within, space, upper, lead, starts}
use Rattle.rules.proofs.HitLaws.{lead-length, starts-length}
use Rattle.slices.specs.Classes.{Classes, space_in, upper_in}
use Rattle.rules.specs.Passes.{lowered}
use Rattle.rules.proofs.BoolLaws.{and_left, and_right}
use Rattle.slices.proofs.KindLaws.{by_table, space-table, upper-table}

-- a byte that is no space
abbrev pub dark : ℕ → Bool
dark x = not (space x)

module _ (t l : List ℕ) (e : Classes t) where
  space-of : space_in t ≡ space
  space-of = by_table space_in e space-table

  pub spaces_of : lead (space_in t) l ≡ lead space l
  spaces_of = ap (λ (f : ℕ → Bool). lead f l) space-of

  pub others-of : lead (λ x. not (space_in t x)) l ≡ lead dark l
  others-of = ap (λ (f : ℕ → Bool). lead (λ x. not (f x)) l) space-of

-- ---- a byte in lower case
module _ (t : List ℕ) (b : ℕ) (e : Classes t) where
  upper_of : upper_in t b ≡ upper b
  upper_of = ap (λ (f : ℕ → Bool). f b) (by_table upper_in e upper-table)

  pub lower-yes : upper_in t b ≡ true → b + 32 ≡ lowered b
  unfolding lowered
  lower-yes h = rw (sym upper_of ∙ h)

  pub lower-no : upper_in t b ≡ false → b ≡ lowered b
  unfolding lowered
  lower-no h = rw (sym upper_of ∙ h)

  pub upper-most : upper_in t b ≡ true → b ≤ 222
  unfolding upper within
  upper-most h = at (leb 65 b && leb b 90) refl (sym upper_of ∙ h)
    where
      at : (t : Bool) → leb 65 b && leb b 90 ≡ t → t || (leb 192 b && leb b 222 && not (eqb b 215)) ≡ true → b ≤ 222
      at true q k = omega (arith, leb-true b 90 (and_right (leb 65 b) (leb b 90) q))
      at false q k = leb-true b 222 (and_right (leb 192 b) (leb b 222) (and_left (leb 192 b && leb b 222) (not (eqb b 215)) k))

pub lowered-next : (b : ℕ) {l l' : List ℕ} → l ≡ b ∷ l' → map lowered l ≡ lowered b ∷ map lowered l'
lowered-next b h = rw h

pub lowered-done : {l : List ℕ} → l ≡ [] → map lowered l ≡ []
lowered-done h = rw h

-- ---- a word that stands at a place ends within, and so does a run
pub word-within : (w s : List ℕ) (at : ℕ) → starts w (drop at s) ≡ true → 0 < length w → at + length w ≤ length s
word-within w s at h p = omega (arith, starts-length w (drop at s) h, length-drop at s)

pub run-within : (p : ℕ → Bool) (s : List ℕ) (at : ℕ) → at ≤ length s → at + lead p (drop at s) ≤ length s
run-within p s at h = omega (arith, lead-length p (drop at s), length-drop at s)
