-- The answer line by line, and its length.
-- Assumes nothing.
use mathlib.Core.Path.{◌≡◌, refl, ◌∙◌}
use mathlib.Core.Bool.{Bool, true, false, cond}
use mathlib.Core.List.{List, [], ◌∷◌, ◌++◌}
use Prim.Native.Nat.{ℕ, zero, suc, ◌+◌, ◌-◌, ◌*◌, ◌≤◌, ◌<◌}
use native.Mathlib.Nat.{sub-zero}
use native.Mathlib.Numerals.{add-one}
use native.Mathlib.Omega.{arith}
use lib.Dec.{ltb}
use lib.ListN.{length, take, drop, length-append, length-take, length-drop}
use lib.Seq.{slice, take_at}
use borrow.Author.Tests.{ltb-true, ltb-false, eq-eqb, ne_eqb}
use Rattle.lists.proofs.SliceLaws.{part_slice}
use Rattle.rules.specs.Bytes.{text, starts}
use Rattle.rules.specs.Points.{encoded}
use Rattle.rules.specs.Lines.{lines}
use Rattle.rules.specs.Refusal.{refusal, of_text}
use Rattle.questions.specs.Hex.{hexed}
use Rattle.questions.specs.Fields.{text_of}
use Rattle.questions.proofs.HexLaws.{hexed-length}
use Rattle.points.proofs.EncodeLaws.{encoded_twice}
use Rattle.preproc_table.specs.Entries.{start_at, end_at, line_at, lines_from, lines_at, Apart}
use Rattle.replay_lines.specs.Told.{mark_of, told, answer_to, answer_of}

-- a line of the table, as a part of the area
pub line-part : (area table : List ℕ) (i a e : ℕ) → a ≡ start_at table i → e ≡ end_at table i → take (e - a) (drop a area) ≡ line_at area table i
unfolding line_at
line-part area table i a e p q = part_slice a e area ∙ rw (p, q)

line-length : (area table : List ℕ) (i : ℕ) → length (line_at area table i) ≤ end_at table i - start_at table i
unfolding line_at
line-length area table i =
    rw (← part_slice (start_at table i) (end_at table i) area, length-take) (omega arith)

pub length_part : (a e : ℕ) (area : List ℕ) → length (take (e - a) (drop a area)) ≤ length area
length_part a e area = rw (length-take, length-drop) (omega arith)

-- what stands behind a line, by how many are left
module _ (area table : List ℕ) where
  mark_last : (j n : ℕ) → n ≡ 0 → mark_of (lines_from area table j n) ≡ 10
  unfolding mark_of lines_from
  mark_last j n e = rw e

  mark_more : (j n : ℕ) → 0 < n → mark_of (lines_from area table j n) ≡ 32
  unfolding mark_of lines_from
  mark_more j zero h = absurd (none h)
    where
      none : 0 < 0 → ⊥
      none h = omega arith
  mark_more j (suc n) h = refl

  mark_is : (i count : ℕ) → mark_of (lines_from area table (i + 1) (count - (i + 1))) ≡ cond (ltb (i + 1) count) 32 10
  mark_is i count = at (ltb (i + 1) count) refl
    where
      at : (b : Bool) → ltb (i + 1) count ≡ b → mark_of (lines_from area table (i + 1) (count - (i + 1))) ≡ cond b 32 10
      at true e = mark_more (i + 1) (count - (i + 1)) (omega (arith, ltb-true (i + 1) count e))
      at false e = mark_last (i + 1) (count - (i + 1)) (omega (arith, ltb-false (i + 1) count e))

  told_line : (i n : ℕ) → told (lines_from area table i (suc n)) ≡ hexed (encoded (line_at area table i)) ++ mark_of (lines_from area table (i + 1) n) ∷ told (lines_from area table (i + 1) n)
  unfolding told lines_from
  told_line i n = rw (add-one i)

  -- one line more
  pub told-step : (i count mark : ℕ) → i < count → mark ≡ cond (ltb (i + 1) count) 32 10 →
      told (lines_from area table i (count - i)) ≡ hexed (encoded (line_at area table i)) ++ mark ∷ told (lines_from area table (i + 1) (count - (i + 1)))
  told-step i count mark h m =
      let e : count - i ≡ suc (count - (i + 1)) = omega arith in
      rw (e, told_line i (count - (i + 1)), mark_is i count, m)

  pub told-start : (count : ℕ) → told (lines_at area table count) ≡ told (lines_from area table 0 (count - 0))
  unfolding lines_at
  told-start count = rw (sub-zero count)

  pub told-end : (i count : ℕ) → count ≤ i → told (lines_from area table i (count - i)) ≡ []
  unfolding told lines_from
  told-end i count h =
      let e : count - i ≡ 0 = omega arith in
      rw e

  -- lines that lie from b up to `last` one byte or more apart take four bytes for each of them
  told-from : (last i n b : ℕ) → b ≤ last + 1 → ((j : ℕ) → i ≤ j → j < i + n → b ≤ start_at table j) → {first k : ℕ} → i + n ≤ k → Apart first last table k →
      length (told (lines_from area table i n)) + 4 * b ≤ 4 * (last + 1)
  unfolding told lines_from
  told-from last i zero b h f g p = omega arith
  told-from last i (suc n) b h f g p =
      let s : b ≤ start_at table i = f i (omega arith) (omega arith) in
      let o : start_at table i ≤ end_at table i = p.order i (omega arith) in
      let t : end_at table i ≤ last = p.high i (omega arith) in
      let r = told-from last (suc i) n (end_at table i + 1) (omega arith) (λ j u v. p.apart i j (omega arith) (omega arith)) (omega arith) p in
      let l = length-append (hexed (encoded (line_at area table i))) (mark_of (lines_from area table (suc i) n) ∷ told (lines_from area table (suc i) n)) in
      omega (arith, r, l, hexed-length (encoded (line_at area table i)), encoded_twice (line_at area table i), line-length area table i)

  pub told-length : {first last count : ℕ} → Apart first last table count → length (told (lines_at area table count)) ≤ 4 * (last + 1)
  unfolding lines_at
  told-length {first} {last} {count} p = omega (arith, told-from last 0 count 0 (omega arith) (λ j u v. omega arith) (omega arith) p)

-- a line copied to the front of a scratch
pub copied : (src d₀ d : List ℕ) (n : ℕ) → n ≡ 0 + length src → d ≡ take 0 d₀ ++ src ++ drop n d₀ → slice 0 n d ≡ src
copied src d₀ d n p q = rw q (take_at src (drop n d₀) n (omega (arith, p)))

-- lines one byte or more apart are few
apart-start : {first last count : ℕ} {table : List ℕ} → Apart first last table count → (i : ℕ) → i < count → i ≤ start_at table i
apart-start p zero h = omega arith
apart-start p (suc i) h =
    let k : i < suc i = omega arith in
    omega (arith, apart-start p i (omega arith), p.order i (omega arith), p.apart i (suc i) k h)

pub few-lines : {first last : ℕ} {table : List ℕ} (count : ℕ) → Apart first last table count → count ≤ last + 1
few-lines zero p = omega arith
few-lines (suc i) p = omega (arith, apart-start p i (omega arith), p.order i (omega arith), p.high i (omega arith))

-- what lies within some bounds lies within wider ones
pub apart_wider : {first last count : ℕ} {table : List ℕ} (high : ℕ) → last ≤ high → Apart first last table count → Apart 0 high table count
apart_wider high h p =
    record { low = λ i k. omega arith; order = p.order; high = λ i k. omega (arith, p.high i k); apart = p.apart }

-- ---- which answer it is
module _ (e : ℕ) (t : List ℕ) where
  pub answer-none : (refusal (of_text e t) ≡ 0 → ⊥) → answer_to e t ≡ []
  unfolding answer_to
  answer-none h = rw (ne_eqb (refusal (of_text e t)) 0 h)

  pub answer-some : refusal (of_text e t) ≡ 0 → answer_to e t ≡ told (lines e t)
  unfolding answer_to
  answer-some h = rw (eq-eqb (refusal (of_text e t)) 0 h)

module _ (e : ℕ) (q : List ℕ) where
  pub other_question : starts (text "lines ") q ≡ false → answer_of e q ≡ []
  unfolding answer_of
  other_question n = rw n

  pub right_question : starts (text "lines ") q ≡ true → answer_of e q ≡ answer_to e (text_of 2048 1 q)
  unfolding answer_of
  right_question n = rw n
