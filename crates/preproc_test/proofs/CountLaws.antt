-- The lines from a place on, by the byte there; and what the test of a text says.
-- Assumes nothing.
use Rattle.std.proofs.Common.{Option, None, Some, option_copied, Bor, Result, Ok, Err}
use Rattle.std.specs.Prelude.{MatchOption}
use Rattle.std.proofs.lemmas.List.{nil_from_length}
use mathlib.Core.Path.{◌≡◌, refl, sym, ◌∙◌}
use mathlib.Core.Bool.{Bool, true, false, ◌&&◌, cond, false≢true}
use mathlib.Core.List.{List, [], ◌∷◌}
use Prim.Native.Nat.{ℕ, suc, ◌≤◌, ◌<◌}
use native.Mathlib.Omega.{arith}
use lib.Dec.{leb, ltb, eqb}
use lib.ListN.{length}
use borrow.Author.Tests.{eq-eqb, ne_eqb, lt-ltb, le-ltb, ltb-true, ltb-false, leb-true}
use Rattle.rules.specs.Bytes.{within, every, split, on_first}
use Rattle.rules.specs.Points.{opens, utf8, ascii, wide, taken}
use Rattle.rules.specs.Lines.{line_count}
use Rattle.rules.specs.Sizes.{text_most, lines_most}
use Rattle.rules.specs.declared.Refusal.{Refusal}
use Rattle.rules.specs.declared.Refusal.TheVariants as refused
use Rattle.rules.specs.Refusal.{refusal, of_text}
use Rattle.rules.specs.Told.{number_told}
use Rattle.rules.proofs.BoolLaws.{and_left, and_right}
use Rattle.rules.proofs.RefusalLaws.{text_too_long, text_not_taken, too_many-lines, text-passes}
use Rattle.rules.proofs.PointLaws.{low-opens, taken-utf8}
use Rattle.preproc_test.specs.Counts.{ends, taken_lines, AsTested, Passed}

pub first-length : (x : ℕ) (ls : List (List ℕ)) → 1 ≤ length ls → length (on_first x ls) ≡ length ls
unfolding on_first
first-length x [] h = absurd (none h)
  where
    none : 1 ≤ 0 → ⊥
    none h = omega arith
first-length x (l ∷ ls) h = refl

pub split-some : (s : List ℕ) → 1 ≤ length (split 10 s)
unfolding split on_first
split-some [] = omega arith
split-some (x ∷ s) = at (eqb x 10) (split-some s)
  where
    at : (b : Bool) → 1 ≤ length (split 10 s) → 1 ≤ length (cond b ([] ∷ split 10 s) (on_first x (split 10 s)))
    at true h = omega arith
    at false h = rw (first-length x (split 10 s) h) h

module _ (x : ℕ) (xs : List ℕ) where
  pub lines-newline : x ≡ 10 → length (split 10 (x ∷ xs)) ≡ suc (length (split 10 xs))
  unfolding split
  lines-newline e = rw (eq-eqb x 10 e)

  pub lines_other : (x ≡ 10 → ⊥) → length (split 10 (x ∷ xs)) ≡ length (split 10 xs)
  unfolding split
  lines_other e = rw (ne_eqb x 10 e) (first-length x (split 10 xs) (split-some xs))

  -- ---- what is taken, by the byte at the front
  pub taken-low : (w : Bool) → x < 128 → taken w (x ∷ xs) ≡ taken w xs
  unfolding taken utf8 ascii every
  taken-low true l = let q = lt-ltb x 128 l in rw (q, low-opens x q)
  taken-low false l = rw (lt-ltb x 128 l)

  module _ (l : 128 ≤ x) where
    pub ascii_not : (w : Bool) → w ≡ false → taken w (x ∷ xs) ≡ false
    unfolding taken ascii every
    ascii_not w e = rw (e, le-ltb x 128 l)

    pair : taken true (x ∷ xs) ≡ (opens x && utf8 (opens x) xs)
    unfolding taken utf8
    pair = rw (le-ltb x 128 l)

    -- what opens nothing, or opens a character that ends behind it or not
    pub pair_none : ◌≡◌ {A = List ℕ} xs [] → taken true (x ∷ xs) ≡ false
    unfolding utf8
    pair_none e = pair ∙ rw e (at (opens x))
      where
        at : (p : Bool) → (p && utf8 p []) ≡ false
        at true = refl
        at false = refl

    pub pair_not : (y : ℕ) (ys : List ℕ) → xs ≡ y ∷ ys → (opens x && within 128 191 y) ≡ false → taken true (x ∷ xs) ≡ false
    unfolding utf8
    pair_not y ys e k = pair ∙ rw e (at (opens x) k)
      where
        at : (p : Bool) → (p && within 128 191 y) ≡ false → (p && utf8 p (y ∷ ys)) ≡ false
        at true k = rw k
        at false k = refl

-- a pair: its second byte is no newline, and what is behind it is taken or not
module _ (x y : ℕ) (ys : List ℕ) (l : 128 ≤ x) (k : (opens x && within 128 191 y) ≡ true) where
  pub pair-high : 128 ≤ y
  unfolding within
  pair-high = leb-true 128 y (and_left (leb 128 y) (leb y 191) (and_right (opens x) (within 128 191 y) k))

  pub pair-next : taken true (x ∷ y ∷ ys) ≡ taken true ys
  unfolding taken utf8
  pair-next = pair x (y ∷ ys) l ∙ rw (and_left (opens x) (within 128 191 y) k, and_right (opens x) (within 128 191 y) k)

  pub pair-lines : length (split 10 (x ∷ y ∷ ys)) ≡ length (split 10 ys)
  pair-lines = lines_other x (y ∷ ys) (λ e. omega (arith, e, l)) ∙ lines_other y ys (λ e. omega (arith, e, pair-high))

-- the byte behind x, where there is one, as an iterator gives it: s is what stands behind x, and t what it leaves of that
module _ (x : ℕ) (l : 128 ≤ x) (s t : List ℕ) where
  pub pair_refused : (P : Type 0) (o : Option (Bor ℕ)) → MatchOption o ((length s ≡ 0) × P) (λ y. s ≡ y.now ∷ t) → (opens x && ends (option_copied o)) ≡ false → taken true (x ∷ s) ≡ false
  pair_refused P None h k = pair_none x s l (nil_from_length s h.0)
  pair_refused P (Some y) h k = pair_not x s l y.now t h k

  pub pair-over : (P : Type 0) (o : Option (Bor ℕ)) → MatchOption o ((length s ≡ 0) × P) (λ y. s ≡ y.now ∷ t) → (opens x && ends (option_copied o)) ≡ true →
      (taken true (x ∷ s) ≡ taken true t) × (length (split 10 (x ∷ s)) ≡ length (split 10 t)) × (length s ≡ suc (length t))
  pair-over P None h k = absurd (false≢true (and_right (opens x) false k))
  pair-over P (Some y) h k = rw h (pair-next x y.now t l k, pair-lines x y.now t l k, refl)

pub taken-end : (w : Bool) → taken w [] ≡ true
unfolding taken utf8 ascii every
taken-end true = refl
taken-end false = refl

-- ---- what the count says of a text, and what the test answers
module _ (w : Bool) (t : List ℕ) where
  pub not_taken : taken w t ≡ false → None ≡ taken_lines w t
  unfolding taken_lines
  not_taken e = rw e

  pub all_taken : (n : ℕ) → taken w t ≡ true → n ≡ line_count t → Some n ≡ taken_lines w t
  unfolding taken_lines
  all_taken n e l = rw (e, l)

  pub count-none : taken_lines w t ≡ None → taken w t ≡ false
  unfolding taken_lines
  count-none q = at (taken w t) q
    where
      at : (b : Bool) → cond b (Some (line_count t)) None ≡ None → b ≡ false
      at true q = grind arith
      at false q = refl

  pub count-some : (n : ℕ) → taken_lines w t ≡ Some n → (taken w t ≡ true) × (n ≡ line_count t)
  unfolding taken_lines
  count-some n q = at (taken w t) q
    where
      at : (b : Bool) → cond b (Some (line_count t)) None ≡ Some n → (b ≡ true) × (n ≡ line_count t)
      at true q = (refl, grind arith)
      at false q = grind arith

module _ (e : ℕ) (t : List ℕ) where
  pub refused-long : text_most < length t → refusal (of_text e t) ≡ 1
  unfolding of_text
  refused-long h = text_too_long e t [] h

  pub refused-bytes : length t ≤ text_most → taken (wide e) t ≡ false → refusal (of_text e t) ≡ 2
  unfolding of_text
  refused-bytes h q = text_not_taken e t [] h q

  pub refused-lines : length t ≤ text_most → taken (wide e) t ≡ true → lines_most < line_count t → refusal (of_text e t) ≡ 3
  unfolding of_text
  refused-lines h q k = too_many-lines e t [] h q k

  pub passed : length t ≤ text_most → taken (wide e) t ≡ true → line_count t ≤ lines_most → refusal (of_text e t) ≡ 0
  unfolding of_text refusal
  passed h q k = text-passes e t [] h q k

  -- the answers of the test
  pub tested-long : text_most < length t → AsTested e t (Err refused.TextLong)
  unfolding number_told
  tested-long h = record { number = sym (refused-long h); lines = tt }

  module _ (h : length t ≤ text_most) (m : Bool) (w : m ≡ wide e) where
    pub tested-bytes : taken_lines m t ≡ None → (r : Result ℕ Refusal) → r ≡ Err refused.TextBytes → AsTested e t r
    unfolding number_told
    tested-bytes q r k = rw k (record { number = sym (refused-bytes h (count-none (wide e) t (rw w at q))); lines = tt })

    module _ (n : ℕ) (q : taken_lines m t ≡ Some n) where
      counted : (taken (wide e) t ≡ true) × (n ≡ line_count t)
      counted = count-some (wide e) t n (rw w at q)

      pub tested-lines : lines_most < n → AsTested e t (Err refused.LinesMany)
      unfolding number_told
      tested-lines k = record { number = sym (refused-lines h counted.0 (omega (arith, counted.1))); lines = tt }

      pub tested-passed : n ≤ lines_most → AsTested e t (Ok n)
      unfolding number_told
      tested-passed k = record { number = sym (passed h counted.0 (omega (arith, counted.1))); lines = counted.1 }

  -- a text that is not refused is short enough, and taken
  pub passed_length : refusal (of_text e t) ≡ 0 → length t ≤ text_most
  passed_length z = at (ltb text_most (length t)) refl
    where
      at : (b : Bool) → ltb text_most (length t) ≡ b → length t ≤ text_most
      at true q = absurd (none (ltb-true text_most (length t) q))
        where
          none : text_most < length t → ⊥
          none h = omega (arith, z, refused-long h)
      at false q = ltb-false text_most (length t) q

  pub passed_taken : refusal (of_text e t) ≡ 0 → taken (wide e) t ≡ true
  passed_taken z = at (taken (wide e) t) refl
    where
      at : (b : Bool) → taken (wide e) t ≡ b → b ≡ true
      at true q = refl
      at false q = absurd (none (refused-bytes (passed_length z) q))
        where
          none : refusal (of_text e t) ≡ 2 → ⊥
          none r = omega (arith, z)

  pub passed_text : refusal (of_text e t) ≡ 0 → Passed t
  passed_text z = record { short = passed_length z; bytes = taken-utf8 (wide e) t (passed_taken z) }
