-- The walk from line to line: what is still to come from a place on, with so many lines left, is the whole way.
--     walk_first, walk-on      before the first byte, and past one
--     walk-there, walk_end     no line is left, or no byte
--     mark_first, on-from      the first line, and from a line whose place is known to another
--     range_empty, range-ends  where an empty range ends, and any other
--     gap_empty, gap-behind    the line behind the gap, from the end of an empty range, and of any other
-- Assumes nothing.
use mathlib.Core.Path.{◌≡◌, refl, sym, ap, ◌∙◌}
use mathlib.Core.Bool.{Bool, true, false, cond}
use mathlib.Core.List.{List}
use Prim.Native.Nat.{ℕ, zero, suc, ◌+◌, ◌-◌, ◌≤◌, ◌<◌}
use native.Mathlib.Nat.{not-suc-le-zero}
use native.Mathlib.Omega.{arith}
use lib.ListN.{length, drop, get_or}
use lib.Seq.{drop-drop}
use borrow.Author.Tests.{eq-eqb, ne_eqb}
use Rattle.lists.proofs.SliceLaws.{drop-next, drop-done}
use Rattle.rules.specs.Bytes.{newline, line_len}
use Rattle.rules.specs.Lines.{line_start, line_end, range_end}
use Rattle.rules.proofs.PlaceLaws.{start_none, start_empty, start-newline, start-other, start-on, start-past}

pub record Walk (text : List ℕ) (at k place left : ℕ) : Type 0 where
  pub within : place ≤ length text
  pub way : place + line_start left (drop place text) ≡ at + line_start k (drop at text)

pub walk_first : (text : List ℕ) (at k : ℕ) → at ≤ length text → Walk text at k at k
walk_first text at k h = record { within = h; way = refl }

-- a newline takes one line, any other byte none
pub one-most : (q : Bool) (left n : ℕ) → (left ≡ 0 → ⊥) → n ≡ cond q 1 0 → n ≤ left
one-most true left n some e = omega (arith, some, e)
one-most false left n some e = omega (arith, e)

module _ {text : List ℕ} {at k place : ℕ} where
  pub walk-on : (left n : ℕ) → place < length text → 0 < left → n ≡ cond (newline (get_or text place 0)) 1 0 → Walk text at k place left →
      Walk text at k (place + 1) (left - n)
  walk-on zero n h some e w = absurd (not-suc-le-zero some)
  walk-on (suc left) n h some e w = record { within = omega arith; way = past (newline x) refl ∙ w.way }
    where
      x : ℕ
      x = get_or text place 0

      rest : List ℕ
      rest = drop (place + 1) text

      past : (q : Bool) → newline x ≡ q → place + 1 + line_start (suc left - n) rest ≡ place + line_start (suc left) (drop place text)
      past true q =
          let one : n ≡ 1 = e ∙ ap (λ (b : Bool). cond b 1 0) q in
          let less : suc left - n ≡ left = omega arith in
          rw (less, drop-next text place h, start-newline left x rest q) (omega arith)
      past false q =
          let none : n ≡ 0 = e ∙ ap (λ (b : Bool). cond b 1 0) q in
          let same : suc left - n ≡ suc left = omega arith in
          rw (same, drop-next text place h, start-other left x rest q) (omega arith)

  pub walk-there : (left : ℕ) → left ≡ 0 → Walk text at k place left → place ≡ at + line_start k (drop at text)
  walk-there left z w = omega (arith, w.way, ap (λ (n : ℕ). line_start n (drop place text)) z, start_none (drop place text))

  pub walk_end : (left : ℕ) → length text ≤ place → Walk text at k place left → place ≡ at + line_start k (drop at text)
  walk_end left h w = omega (arith, w.way, ap (line_start left) (drop-done text place h), start_empty left)

-- ---- from a line whose place is known
-- the first
pub mark_first : (text : List ℕ) {line at : ℕ} → (line ≡ 0) × (at ≡ 0) → at ≡ line_start line text
mark_first text e = e.1 ∙ sym (ap (λ (n : ℕ). line_start n text) e.0 ∙ start_none text)

pub on-from : (text : List ℕ) (line to at place : ℕ) → at ≡ line_start line text → line ≤ to → place ≡ at + line_start (to - line) (drop at text) →
    place ≡ line_start to text
on-from text line to at place known order e =
    let way = e ∙ ap (λ (a : ℕ). a + line_start (to - line) (drop a text)) known in
    let whole : line + (to - line) ≡ to = omega arith in
    way ∙ sym (start-on line (to - line) text) ∙ ap (λ (n : ℕ). line_start n text) whole

-- ---- a range
module _ (text : List ℕ) (first after : ℕ) where
  pub range_empty : first ≡ after → {start : ℕ} → start ≡ line_start first text → start ≡ range_end first after text
  unfolding range_end
  range_empty e s = rw (eq-eqb first after e) s

  -- where its last line ends
  range_last : (first ≡ after → ⊥) → range_end first after text ≡ line_start (after - 1) text + line_len (drop (line_start (after - 1) text) text)
  unfolding range_end line_end
  range_last e = rw (ne_eqb first after e)

  pub range-ends : (first ≡ after → ⊥) → first ≤ after → {start last len : ℕ} → start ≡ line_start first text →
      last ≡ start + line_start (after - 1 - first) (drop start text) → len ≡ line_len (drop last text) → last + len ≡ range_end first after text
  range-ends e order {start} {last} {len} s l n =
      let at = on-from text first (after - 1) start last s (omega (arith, e)) l in
      let long = n ∙ ap (λ (a : ℕ). line_len (drop a text)) at in
      omega (arith, at, long, range_last e)

  -- ---- the line behind the gap
  module _ {end past : ℕ} (known : end ≡ range_end first after text) where
    pub gap_empty : first ≡ after → past ≡ end + line_start 1 (drop end text) → past ≡ line_start (after + 1) text
    gap_empty e p =
        let start : end ≡ line_start first text = known ∙ sym (range_empty e refl) in
        let one : after + 1 - first ≡ 1 = omega (arith, e) in
        on-from text first (after + 1) end past start (omega (arith, e)) (p ∙ ap (λ (n : ℕ). end + line_start n (drop end text)) (sym one))

    pub gap-behind : (first ≡ after → ⊥) → first ≤ after → past ≡ end + line_start 2 (drop end text) → past ≡ line_start (after + 1) text
    gap-behind e order p =
        let start = line_start (after - 1) text in
        let line = drop start text in
        let behind : end ≡ start + line_len line = known ∙ range_last e in
        let rest = ap (line_start 2) (ap (λ (n : ℕ). drop n text) behind ∙ sym (drop-drop (line_len line) start text)) in
        let two : after - 1 + 2 ≡ after + 1 = omega (arith, e, order) in
        omega (arith, p, behind, rest, start-past 1 line, start-on (after - 1) 2 text, ap (λ (n : ℕ). line_start n text) two)
