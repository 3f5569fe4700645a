-- Word after word.
-- Assumes nothing.
use mathlib.Core.Path.{◌≡◌, refl, sym, ap, ◌∙◌}
use mathlib.Core.Bool.{Bool, true, false}
use mathlib.Core.List.{List, []}
use Prim.Native.Nat.{ℕ, zero, suc, ◌+◌, ◌-◌, ◌≤◌, ◌<◌, min}
use native.Mathlib.Omega.{arith}
use lib.Dec.{leb}
use lib.ListN.{length, take, drop, length-take}
use lib.Seq.{slice, drop-drop, take_all, take-take}
use borrow.Author.Tests.{leb-true, leb-false}
use Rattle.lists.proofs.SliceLaws.{part_at, part_slice, drop-done}
use Rattle.rules.specs.Bytes.{lead}
use Rattle.slices.specs.declared.ends.ByteSpan.{ByteSpan}
use Rattle.questions.specs.Words.{up_to, word_of, Marked, WordAt}

pub word_none : (k : ℕ) → word_of k [] ≡ []
unfolding word_of up_to lead
word_none zero = refl
word_none (suc k) = word_none k

-- the word up to the mark, and the words behind it
module _ {s : List ℕ} {at r : ℕ} (m : Marked 32 s at r) where
  pub word-here : (k : ℕ) → k ≡ 0 → slice at r s ≡ word_of k (drop at s)
  unfolding word_of
  word-here k e = rw e (sym (part_at at (up_to 32 (drop at s)) s ∙ ap (λ (j : ℕ). slice at j s) (sym m.place)))

  pub word-behind : (j k : ℕ) → k ≡ suc j → word_of k (drop at s) ≡ word_of j (drop (r + 1) s)
  unfolding word_of
  word-behind j k h =
      let e : at + (up_to 32 (drop at s) + 1) ≡ r + 1 = omega (arith, m.place) in
      ap (λ (i : ℕ). word_of i (drop at s)) h
      ∙ ap (word_of j) (drop-drop (up_to 32 (drop at s) + 1) at s ∙ ap (λ (i : ℕ). drop i s) e)

  pub word-last : (j k : ℕ) → k ≡ suc j → length s ≤ r → word_of k (drop at s) ≡ []
  word-last j k h l = word-behind j k h ∙ rw (drop-done s (r + 1) (omega arith)) (word_none j)

-- a word as a part of its line
module _ {k : ℕ} {s : List ℕ} {r : ByteSpan} (w : WordAt k s r) where
  pub word-part : take (r.end - r.start) (drop r.start s) ≡ word_of k s
  word-part = part_slice r.start r.end s ∙ w.bytes

  -- the first bytes of a word
  pub word-front : (most e : ℕ) → e ≡ r.start + min (r.end - r.start) most → take (e - r.start) (drop r.start s) ≡ take most (word_of k s)
  word-front most e p =
      let n : ℕ = r.end - r.start in
      let q : e - r.start ≡ min n most = omega arith in
      rw (q, ← word-part) (at (leb n most) refl)
    where
      at : (b : Bool) → leb (r.end - r.start) most ≡ b →
          take (min (r.end - r.start) most) (drop r.start s) ≡ take most (take (r.end - r.start) (drop r.start s))
      at true h =
          let l : r.end - r.start ≤ most = leb-true _ _ h in
          let m : min (r.end - r.start) most ≡ r.end - r.start = omega arith in
          rw m (sym (take_all most (take (r.end - r.start) (drop r.start s)) (rw length-take (omega arith))))
      at false h =
          let l : most < r.end - r.start = leb-false _ _ h in
          let m : min (r.end - r.start) most ≡ most = omega arith in
          rw m (sym (take-take most (r.end - r.start) (drop r.start s) (omega arith)))
