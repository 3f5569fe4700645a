-- Hex read and written step by step.
-- Assumes nothing.
use mathlib.Core.Path.{◌≡◌, refl, sym, ap, ap₂, ◌∙◌}
use mathlib.Core.Bool.{Bool, true, false}
use mathlib.Core.List.{List, [], ◌∷◌}
use Prim.Native.Nat.{ℕ, suc, ◌+◌, ◌-◌, ◌*◌, ◌/◌, ◌%◌, ◌≤◌, ◌<◌}
use native.Mathlib.Omega.{arith}
use lib.Dec.{leb, ltb}
use lib.ListN.{length, take, drop, get_or, length-take, length-drop}
use borrow.Author.Tests.{leb-true, leb-false, ltb-true}
use Rattle.lists.proofs.SliceLaws.{drop-next, drop-done}
use Rattle.lists.specs.Tables.{tab}
use Rattle.lists.proofs.TableLaws.{tab-at}
use Rattle.rules.specs.Bytes.{every}
use Rattle.rules.proofs.BoolLaws.{and_left, and_right}
use Rattle.questions.specs.Hex.{hex_value, hex_byte, unhexed, hex_glyph, hex_pairs, hexed}

module _ (s : List ℕ) (i : ℕ) where
  pub unhex_next : (b : ℕ) → b ≡ hex_byte (get_or s (2 * i) 0) (get_or s (2 * i + 1) 0) → 2 * i + 1 < length s → unhexed (drop (2 * i) s) ≡ b ∷ unhexed (drop (2 * (i + 1)) s)
  unfolding unhexed
  unhex_next b e h =
      let k : 2 * i < length s = omega arith in
      let next : 2 * i + 1 + 1 ≡ 2 * (i + 1) = omega arith in
      rw (drop-next s (2 * i) k, drop-next s (2 * i + 1) h, e, next)

  pub unhex_done : i ≡ length s / 2 → unhexed (drop (2 * i) s) ≡ []
  unfolding unhexed
  unhex_done h = at (leb (length s) (2 * i)) refl
    where
      at : (b : Bool) → leb (length s) (2 * i) ≡ b → unhexed (drop (2 * i) s) ≡ []
      at true e = rw (drop-done s (2 * i) (leb-true (length s) (2 * i) e))
      at false e = rw (drop-next s (2 * i) (leb-false (length s) (2 * i) e), drop-done s (2 * i + 1) (omega arith))

  pub pairs_next : (a b : ℕ) → i < length s → a ≡ hex_glyph (get_or s i 0 / 16) → b ≡ hex_glyph (get_or s i 0 % 16) → hex_pairs (drop i s) ≡ a ∷ b ∷ hex_pairs (drop (i + 1) s)
  unfolding hex_pairs
  pairs_next a b h p q = rw (drop-next s i h, p, q)

  pub pairs-done : length s ≤ i → hex_pairs (drop i s) ≡ []
  unfolding hex_pairs
  pairs-done h = rw (drop-done s i h)

pub unhex_length : (s : List ℕ) → 2 * length (unhexed s) ≤ length s
unfolding unhexed
unhex_length [] = omega arith
unhex_length (x ∷ []) = omega arith
unhex_length (x ∷ y ∷ s) = omega (arith, unhex_length s)

pub pairs-length : (s : List ℕ) → length (hex_pairs s) ≡ 2 * length s
unfolding hex_pairs
pairs-length [] = refl
pairs-length (x ∷ s) = omega (arith, pairs-length s)

pub hexed-none : (s : List ℕ) → length s ≡ 0 → hexed s ≡ 45 ∷ []
unfolding hexed
hexed-none [] h = refl
hexed-none (x ∷ s) h = absurd (none h)
  where
    none : suc (length s) ≡ 0 → ⊥
    none h = omega arith

pub hexed-some : (s : List ℕ) → (length s ≡ 0 → ⊥) → hexed s ≡ hex_pairs s
unfolding hexed
hexed-some [] h = absurd (h refl)
hexed-some (x ∷ s) h = refl

-- a text and the mark behind it take two bytes for each of the text's, and two
pub hexed-length : (s : List ℕ) → length (hexed s) ≤ 2 * length s + 1
unfolding hexed
hexed-length [] = omega arith
hexed-length (x ∷ s) = omega (arith, pairs-length (x ∷ s))

-- a part of a list in hex
pub hexed-part : (a e : ℕ) (l : List ℕ) → length (hexed (take (e - a) (drop a l))) ≤ 2 * length l + 1
hexed-part a e l =
    omega (arith, hexed-length (take (e - a) (drop a l)), length-take (e - a) (drop a l), length-drop a l)

-- ---- what was written reads as what it was
glyphs : tab 16 (λ n. hex_value (hex_glyph n)) ≡ tab 16 (λ n. n)
unfolding hex_value hex_glyph
glyphs = refl

glyph_value : (n : ℕ) → n < 16 → hex_value (hex_glyph n) ≡ n
glyph_value n h = sym (tab-at 16 (λ k. hex_value (hex_glyph k)) n h) ∙ ap (λ (l : List ℕ). get_or l n 0) glyphs ∙ tab-at 16 (λ k. k) n h

pairs_back : (s : List ℕ) → every (λ x. ltb x 256) s ≡ true → unhexed (hex_pairs s) ≡ s
unfolding unhexed hex_pairs every
pairs_back [] e = refl
pairs_back (x ∷ s) e =
    let h : x < 256 = ltb-true x 256 (and_left (ltb x 256) (every (λ y. ltb y 256) s) e) in
    let b : hex_byte (hex_glyph (x / 16)) (hex_glyph (x % 16)) ≡ x =
    rw (glyph_value (x / 16) (omega arith), glyph_value (x % 16) (omega arith)) (omega arith) in
    ap₂ (λ (y : ℕ) (l : List ℕ). y ∷ l) b (pairs_back s (and_right (ltb x 256) (every (λ y. ltb y 256) s) e))

pub hexed_back : (s : List ℕ) → every (λ x. ltb x 256) s ≡ true → unhexed (hexed s) ≡ s
unfolding hexed unhexed
hexed_back [] e = refl
hexed_back (x ∷ s) e = pairs_back (x ∷ s) e
