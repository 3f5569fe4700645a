-- Where the bigrams of a text start (`starts_of_words`), and that the parts that start there are its bigrams (`starts-parts`).
--     marking_start, marking_space, marking_word, marking_end     the loop that writes the starts: `Marking`
--     bigrams-short    none is longer than the text
-- Assumes nothing.
use mathlib.Core.Path.{◌≡◌, refl, sym, ap, ◌∙◌}
use mathlib.Core.Bool.{Bool, true, false, cond}
use mathlib.Core.List.{List, [], ◌∷◌, ◌++◌, append-nil}
use Prim.Native.Nat.{ℕ, suc, ◌+◌, ◌≤◌, ◌<◌}
use native.Mathlib.Omega.{arith}
use lib.Dec.{eqb}
use lib.ListN.{length, take, drop, set, get_or, length-append}
use lib.Seq.{drop-drop, drop-append-add, append_snoc, take_at}
use borrow.Author.Tests.{eqb-true}
use Rattle.lists.proofs.SliceLaws.{drop-next, drop-done}
use Rattle.lists.proofs.WriteLaws.{Part, part-start, part-put, part_room, part_skip, part_end}
use Rattle.rules.specs.Bytes.{split, on_first}
use Rattle.rules.specs.Table.{pairs, bigrams, tallied, table_of}
use Rattle.rules.proofs.DownLaws.{Each}
use Rattle.sort_spread.specs.Sort.{part_of, ends_part, marks_left}
use Rattle.sort_tally.specs.Group.{parts_at, entries_at}
use Rattle.ngram_table.specs.Tables.{table_at}

-- the starts of the words that a space ends, where the word at hand starts at w, and xs stands at i
unfoldable pub starts_of_words : ℕ → ℕ → List ℕ → List ℕ
starts_of_words w i [] = []
starts_of_words w i (x ∷ xs) =
    let next = w ∷ starts_of_words (i + 1) (i + 1) xs in
    let same = starts_of_words w (i + 1) xs in
    cond (eqb x 32) next same

module _ (w i x : ℕ) (l xs : List ℕ) (e : l ≡ x ∷ xs) where
  pub starts-space : eqb x 32 ≡ true → starts_of_words w i l ≡ w ∷ starts_of_words (i + 1) (i + 1) xs
  unfolding starts_of_words
  starts-space t = rw (e, t)

  pub starts-word : eqb x 32 ≡ false → starts_of_words w i l ≡ starts_of_words w (i + 1) xs
  unfolding starts_of_words
  starts-word t = rw (e, t)

pub starts-end : (w i : ℕ) (l : List ℕ) → l ≡ [] → starts_of_words w i l ≡ []
unfolding starts_of_words
starts-end w i l e = rw e

-- ---- a word: no space in it
abbrev pub Free : List ℕ → Type 0
Free [] = Unit {0}
Free (x ∷ u) = (eqb x 32 ≡ false) × Free u

free_more : (u : List ℕ) (x : ℕ) → Free u → eqb x 32 ≡ false → Free (u ++ x ∷ [])
free_more [] x f e = (e, tt)
free_more (y ∷ u) x f e = (f.0, free_more u x f.1 e)

pub split-word : (u xs b : List ℕ) (ws : List (List ℕ)) → Free u → split 32 xs ≡ b ∷ ws → split 32 (u ++ xs) ≡ (u ++ b) ∷ ws
unfolding split on_first
split-word [] xs b ws f e = e
split-word (x ∷ u) xs b ws f e = rw (f.0, split-word u xs b ws f.1 e)

-- the first piece of a split is the part up to the first space
split-first : (xs : List ℕ) → split 32 xs ≡ part_of 32 1 xs ∷ drop 1 (split 32 xs)
unfolding split part_of
split-first [] = refl
split-first (x ∷ xs) = go (eqb x 32) refl (split-first xs)
  where
    go : (t : Bool) → eqb x 32 ≡ t → split 32 xs ≡ part_of 32 1 xs ∷ drop 1 (split 32 xs) →
        cond t ([] ∷ split 32 xs) (on_first x (split 32 xs)) ≡
        cond (ends_part 32 1 x) [] (x ∷ part_of 32 (marks_left 32 1 x) xs) ∷ drop 1 (cond t ([] ∷ split 32 xs) (on_first x (split 32 xs)))
    go true e more = unfold ends_part in rw e
    go false e more = unfold ends_part marks_left on_first in rw (e, more)

part_two : (u xs : List ℕ) → Free u → part_of 32 2 (u ++ 32 ∷ xs) ≡ u ++ 32 ∷ part_of 32 1 xs
unfolding part_of ends_part marks_left
part_two [] xs f = refl
part_two (x ∷ u) xs f = rw (f.0, part_two u xs f.1)

pairs-on : (a b : List ℕ) (ls ws : List (List ℕ)) → ls ≡ b ∷ ws → pairs (a ∷ ls) ≡ (a ++ 32 ∷ b) ∷ pairs ls
unfolding pairs
pairs-on a b ls ws e = rw e

-- u is read of the word at w
parts_from : (s u xs : List ℕ) (w i : ℕ) → drop w s ≡ u ++ xs → i ≡ w + length u → Free u → parts_at 32 2 s (starts_of_words w i xs) ≡ pairs (split 32 (u ++ xs))
unfolding starts_of_words
parts_from s u [] w i d e f = sym (ap pairs (split-word u [] [] [] f (unfold split in refl)) ∙ unfold pairs in refl)
parts_from s u (x ∷ xs) w i d e f =
    go (eqb x 32) refl (parts_from s [] xs (i + 1) (i + 1)) (parts_from s (u ++ x ∷ []) xs w (i + 1))
  where
    go : (t : Bool) → eqb x 32 ≡ t →
        (drop (i + 1) s ≡ xs → i + 1 ≡ i + 1 + 0 → Unit {0} → parts_at 32 2 s (starts_of_words (i + 1) (i + 1) xs) ≡ pairs (split 32 xs)) →
        (drop w s ≡ (u ++ x ∷ []) ++ xs → i + 1 ≡ w + length (u ++ x ∷ []) → Free (u ++ x ∷ []) →
        parts_at 32 2 s (starts_of_words w (i + 1) xs) ≡ pairs (split 32 ((u ++ x ∷ []) ++ xs))) →
        parts_at 32 2 s (cond t (w ∷ starts_of_words (i + 1) (i + 1) xs) (starts_of_words w (i + 1) xs)) ≡ pairs (split 32 (u ++ x ∷ xs))
    go true t next same =
        let sp : x ≡ 32 = eqb-true x 32 t in
        let d' : drop w s ≡ u ++ 32 ∷ xs = rw sp at d in
        let n : i + 1 ≡ w + (length u + 1) = omega arith in
        let r : drop (i + 1) s ≡ xs = rw (n, ← drop-drop (length u + 1) w s, d) (drop-append-add u (x ∷ xs) 1) in
        let b : split 32 (32 ∷ xs) ≡ [] ∷ split 32 xs = unfold split in refl in
        rw (d', part_two u xs f, next r (omega arith) tt, sp, split-word u (32 ∷ xs) [] (split 32 xs) f b, append-nil)
        (sym (pairs-on u (part_of 32 1 xs) (split 32 xs) (drop 1 (split 32 xs)) (split-first xs)))
    go false t next same =
        let a : (u ++ x ∷ []) ++ xs ≡ u ++ x ∷ xs = append_snoc u x xs in
        same (d ∙ sym a) (omega (arith, length-append u (x ∷ []))) (free_more u x f t) ∙ rw a

pub starts-parts : (s : List ℕ) → parts_at 32 2 s (starts_of_words 0 0 s) ≡ bigrams s
unfolding bigrams
starts-parts s = parts_from s [] s 0 0 refl refl tt

length-parts : (s xs : List ℕ) → length (parts_at 32 2 s xs) ≡ length xs
length-parts s [] = refl
length-parts s (x ∷ xs) = ap suc (length-parts s xs)

pub starts-many : (s : List ℕ) → length (starts_of_words 0 0 s) ≡ length (bigrams s)
starts-many s = sym (length-parts s (starts_of_words 0 0 s)) ∙ ap length (starts-parts s)

-- ---- the loop: k starts are written, and i bytes are read
pub record Marking (s p₀ p : List ℕ) (k word i : ℕ) : Type 0 where
  pub within : i ≤ length s
  pub part : Part (starts_of_words 0 0 s) (starts_of_words word i (drop i s)) p₀ p k

pub marking_start : (s p : List ℕ) → length (bigrams s) ≤ length p → Marking s p p 0 0 0
marking_start s p h = record { within = omega arith; part = part-start (starts_of_words 0 0 s) p (omega (arith, starts-many s)) }

module _ {s p₀ p : List ℕ} {k word i : ℕ} (m : Marking s p₀ p k word i) where
  module _ (h : i < length s) where
    module _ (t : eqb (get_or s i 0) 32 ≡ true) where
      to_come : starts_of_words word i (drop i s) ≡ word ∷ starts_of_words (i + 1) (i + 1) (drop (i + 1) s)
      to_come = starts-space word i (get_or s i 0) (drop i s) (drop (i + 1) s) (drop-next s i h) t

      pub marking_room : k < length p
      marking_room = part_room to_come m.part

      pub marking_space : Marking s p₀ (set p k word) (k + 1) (i + 1) (i + 1)
      marking_space = record { within = omega arith; part = part-put to_come m.part }

    pub marking_word : eqb (get_or s i 0) 32 ≡ false → Marking s p₀ p k word (i + 1)
    marking_word t =
        record { within = omega arith; part = part_skip (starts-word word i (get_or s i 0) (drop i s) (drop (i + 1) s) (drop-next s i h) t) m.part }

  pub marking_end : length s ≤ i →
      (k ≡ length (bigrams s)) × (parts_at 32 2 s (take k p) ≡ bigrams s) × (drop k p ≡ drop k p₀)
  marking_end h =
      let w = part_end (starts-end word i (drop i s) (drop-done s i h)) m.part in
      (w.count ∙ starts-many s, rw (w.bytes, take_at (starts_of_words 0 0 s) (drop k p₀) k (sym w.count)) (starts-parts s), m.part.back)

-- the table that stands there
pub table_is : (s p : List ℕ) (k d : ℕ) (xs : List ℕ) → k ≡ length (bigrams s) → entries_at 32 2 s p k d ≡ tallied (parts_at 32 2 s xs) →
    parts_at 32 2 s xs ≡ bigrams s → table_at s p k d ≡ table_of (bigrams s)
unfolding table_at table_of
table_is s p k d xs n e q =
    let es = e ∙ ap tallied q in
    λ i. record { total = n i; entries = es i }

-- the bytes of the words, and one for each
sizes : List (List ℕ) → ℕ
sizes [] = 0
sizes (w ∷ ws) = length w + 1 + sizes ws

on-first_sizes : (x : ℕ) (ws : List (List ℕ)) (b : List ℕ) (vs : List (List ℕ)) → ws ≡ b ∷ vs → sizes (on_first x ws) ≡ 1 + sizes ws
unfolding sizes on_first
on-first_sizes x ws b vs e = rw e (omega arith)

split_sizes : (s : List ℕ) → sizes (split 32 s) ≡ length s + 1
unfolding split sizes
split_sizes [] = refl
split_sizes (x ∷ s) = go (eqb x 32) (split_sizes s)
  where
    go : (t : Bool) → sizes (split 32 s) ≡ length s + 1 → sizes (cond t ([] ∷ split 32 s) (on_first x (split 32 s))) ≡ length (x ∷ s) + 1
    go true e = omega arith
    go false e = omega (arith, on-first_sizes x (split 32 s) (part_of 32 1 s) (drop 1 (split 32 s)) (split-first s))

-- no bigram is longer than the text
pairs-short : (ws : List (List ℕ)) (n : ℕ) → sizes ws ≤ n → Each (λ (g : List ℕ). length g < n) (pairs ws)
unfolding pairs sizes
pairs-short [] n h = tt
pairs-short (a ∷ []) n h = tt
pairs-short (a ∷ b ∷ ws) n h = (omega (arith, length-append a (32 ∷ b)), pairs-short (b ∷ ws) n (omega arith))

pub bigrams-short : (s : List ℕ) (n : ℕ) → length s < n → Each (λ (g : List ℕ). length g < n) (bigrams s)
unfolding bigrams
bigrams-short s n h = pairs-short (split 32 s) n (omega (arith, split_sizes s))
