-- `exception`: the letters of WITH, its blanks, and an idstring that is no word.
-- Assumes nothing.
use mathlib.Core.Path.{◌≡◌, sym, ap, ◌∙◌}
use mathlib.Core.Bool.{Bool, true}
use mathlib.Core.List.{List, [], ◌∷◌}
use Prim.Native.Nat.{ℕ, ◌+◌, ◌≤◌, ◌<◌}
use native.Mathlib.Omega.{arith}
use lib.ListN.{length, drop, take}
use Rattle.expression.specs.Reading.{is_word, part, leaf, Level, Ctl, run}
use Rattle.expression_bytes.specs.Front.{head_is, ending}
use Rattle.expression_bytes.proofs.FrontLaws.{head-within, letters_in, ids_in, ids_stop, ids_none, blanks-high, blanks-stop}
use Rattle.expression_bytes.proofs.StateLaws as state
use Rattle.expression_parts.specs.Parts.{part_of, stuck}
use Rattle.expression_parts.proofs.AnswerLaws as laws
use borrow.Author.Rules.{rules}
use Rattle.std.proofs.lemmas.Result.{err_from_is_err_and}
use Rattle.expression_parts.proofs.parts.exception.Goals as goal
use Rattle.expression_parts.proofs.parts.exception.Goals.{Else-is_word, After-ids-len, After-letters-k, Else-k-lt3, Else-not-stands, Else-len-eq0}

-- the letters that stand there
module _ (f : After-letters-k) where
  abbrev text : List ℕ
  text = f.args.text.now

  abbrev from : ℕ
  from = f.args.from

  abbrev name : List ℕ
  name = take f.args.name.len (drop f.args.name.at text)

  abbrev plus : Bool
  plus = f.args.plus

  abbrev k : ℕ
  k = f.letters-k.result

  within : from + k ≤ length text
  within = letters_in text from k (73 ∷ 84 ∷ 72 ∷ []) f.requires.1 f.letters-k.ensures

pub returns-then-k-lt3 : goal.returns-then-k-lt3
returns-then-k-lt3 c = let letters = (goal.at.returns-then-k-lt3 c).After-letters-k in
    stuck (λ l fs. sym (laws.ith_bad (text letters) (name letters) (plus letters) (from letters) l fs (k letters) c.letters-k.ensures c.if-k-lt3.true))

-- all of them: a blank is due
module _ (e : Else-k-lt3) where
  abbrev letters_of_e : After-letters-k
  letters_of_e = (goal.at.Else-k-lt3 e).After-letters-k

  ith : (l : Level) (fs : List Level) → run (drop (from letters_of_e) (text letters_of_e)) (Ctl.withs (name letters_of_e) (plus letters_of_e) (73 ∷ 84 ∷ 72 ∷ [])) l fs (from letters_of_e) ≡ run (drop ((from letters_of_e) + 3) (text letters_of_e)) (Ctl.withs (name letters_of_e) (plus letters_of_e) []) l fs ((from letters_of_e) + 3)
  ith l fs = laws.ith (text letters_of_e) (name letters_of_e) (plus letters_of_e) (from letters_of_e) l fs (k letters_of_e) e.letters-k.ensures e.if-k-lt3.false

pub returns-then-not-stands : goal.returns-then-not-stands
returns-then-not-stands c = let letters = (goal.at.returns-then-not-stands c).After-letters-k in
    stuck (λ l fs. sym (ith (goal.at.returns-then-not-stands c).Else-k-lt3 l fs ∙ state.with-stuck (drop (from letters + 3) (text letters)) (name letters) (plus letters) l fs (from letters + 3) (sym c.stands.ensures ∙ c.if-not-stands.true)))

-- the blank stands
module _ (e : Else-not-stands) where
  abbrev letters_of_e' : After-letters-k
  letters_of_e' = (goal.at.Else-not-stands e).After-letters-k

  blank : head_is 32 (drop ((from letters_of_e') + 3) (text letters_of_e')) ≡ true
  blank = sym e.stands.ensures ∙ e.if-not-stands.false

  past : (from letters_of_e') + 3 < length (text letters_of_e')
  past = head-within (text letters_of_e') ((from letters_of_e') + 3) 32 blank

pub blanks-at-requires : goal.blanks-at-requires
blanks-at-requires c = let h = past (goal.at.blanks-at-requires c).Else-not-stands in omega arith

-- and the exception is counted
module _ (d : After-ids-len) where
  abbrev letters_of_d : After-letters-k
  letters_of_d = (goal.at.After-ids-len d).After-letters-k

  abbrev else_not_stands_of_d : Else-not-stands
  else_not_stands_of_d = (goal.at.After-ids-len d).Else-not-stands

  abbrev else_k_lt3_of_d : Else-k-lt3
  else_k_lt3_of_d = (goal.at.After-ids-len d).Else-k-lt3

  abbrev x : ℕ
  x = d.blanks-at.result

  abbrev xn : ℕ
  xn = d.ids-len.result

  x-high : x ≤ length (text letters_of_d)
  x-high = let h = (past else_not_stands_of_d) in blanks-high (text letters_of_d) ((from letters_of_d) + 3 + 1) x (omega arith) d.blanks-at.ensures

  inside : x + xn ≤ length (text letters_of_d)
  inside = ids_in (text letters_of_d) x xn x-high d.ids-len.ensures

  -- past the exception's bytes, of which there are some
  excepted : 0 < xn → (l : Level) (fs : List Level) → run (drop (from letters_of_d) (text letters_of_d)) (Ctl.withs (name letters_of_d) (plus letters_of_d) (73 ∷ 84 ∷ 72 ∷ [])) l fs (from letters_of_d) ≡ run (drop (x + xn) (text letters_of_d)) (Ctl.exc (name letters_of_d) (plus letters_of_d) (take xn (drop x (text letters_of_d)))) l fs (x + xn)
  excepted h l fs = (ith else_k_lt3_of_d) l fs ∙ laws.exc-on (text letters_of_d) (name letters_of_d) (plus letters_of_d) ((from letters_of_d) + 3) l fs x xn (blank else_not_stands_of_d) d.blanks-at.ensures d.ids-len.ensures h

pub returns-then-len-eq0 : goal.returns-then-len-eq0
returns-then-len-eq0 c = let letters = (goal.at.returns-then-len-eq0 c).After-letters-k in
    let ids = (goal.at.returns-then-len-eq0 c).After-ids-len in
    stuck (λ l fs. sym (ith (goal.at.returns-then-len-eq0 c).Else-k-lt3 l fs ∙ laws.with-on (text letters) (name letters) (plus letters) (from letters + 3) l fs (x ids) (blank (goal.at.returns-then-len-eq0 c).Else-not-stands) c.blanks-at.ensures ∙ state.due-stuck (drop (x ids) (text letters)) (name letters) (plus letters) l fs (x ids) (blanks-stop (text letters) (from letters + 3 + 1) (x ids) c.blanks-at.ensures) (ids_none (text letters) (x ids) (xn ids) c.ids-len.ensures c.if-len-eq0.true)))

pub of-requires : goal.of-requires
of-requires c = inside (goal.at.of-requires c).After-ids-len

-- some bytes
module _ (e : Else-len-eq0) where
  abbrev ids_of_e : After-ids-len
  ids_of_e = (goal.at.Else-len-eq0 e).After-ids-len

  some : 0 < (xn ids_of_e)
  some = let h = e.if-len-eq0.false in omega arith

pub returns-then-is_word : goal.returns-then-is_word
returns-then-is_word c = let ids = (goal.at.returns-then-is_word c).After-ids-len in
    let letters = (goal.at.returns-then-is_word c).After-letters-k in
    stuck (λ l fs. sym (excepted ids (some (goal.at.returns-then-is_word c).Else-len-eq0) l fs ∙ state.exc-word (drop (x ids + xn ids) (text letters)) (name letters) (take (xn ids) (drop (x ids) (text letters))) (plus letters) l fs (x ids + xn ids) (ids_stop (text letters) (x ids) (xn ids) c.ids-len.ensures) (ap is_word (sym c.of.ensures) ∙ sym c.is_word.ensures ∙ c.if-is_word.true)))

pub overflow_add-result-then-is_word : goal.overflow_add-result-then-is_word
overflow_add-result-then-is_word c = let h = inside (goal.at.overflow_add-result-then-is_word c).After-ids-len in search rules

pub overflow_add-at : goal.overflow_add-at
overflow_add-at c = let h = inside (goal.at.overflow_add-at c).After-ids-len in search rules

pub after_part-requires : goal.after_part-requires
after_part-requires c = inside (goal.at.after_part-requires c).After-ids-len

-- no word: what stands behind it
module _ (g : Else-is_word) where
  abbrev letters_of_g : After-letters-k
  letters_of_g = (goal.at.Else-is_word g).After-letters-k

  abbrev ids_of_g : After-ids-len
  ids_of_g = (goal.at.Else-is_word g).After-ids-len

  abbrev else_xn_eq0_of_g : Else-len-eq0
  else_xn_eq0_of_g = (goal.at.Else-is_word g).Else-len-eq0

  ends : (l : Level) (fs : List Level) → ending (leaf (part (name letters_of_g) (plus letters_of_g) (take (xn ids_of_g) (drop (x ids_of_g) (text letters_of_g))))) (drop ((x ids_of_g) + (xn ids_of_g)) (text letters_of_g)) l fs ((x ids_of_g) + (xn ids_of_g)) ≡ run (drop (from letters_of_g) (text letters_of_g)) (Ctl.withs (name letters_of_g) (plus letters_of_g) (73 ∷ 84 ∷ 72 ∷ [])) l fs (from letters_of_g)
  ends l fs =
      sym ((excepted ids_of_g) (some else_xn_eq0_of_g) l fs ∙ state.exc-ends (drop ((x ids_of_g) + (xn ids_of_g)) (text letters_of_g)) (name letters_of_g) (take (xn ids_of_g) (drop (x ids_of_g) (text letters_of_g))) (plus letters_of_g) l fs ((x ids_of_g) + (xn ids_of_g)) (ids_stop (text letters_of_g) (x ids_of_g) (xn ids_of_g) g.ids-len.ensures) (ap is_word (sym g.of.ensures) ∙ sym g.is_word.ensures ∙ g.if-is_word.false))

pub returns-in_err-next : goal.returns-in_err-next
returns-in_err-next c = let ids = (goal.at.returns-in_err-next c).After-ids-len in
    let p = err_from_is_err_and c.from_residual.result c.from_residual.ensures.1 in
    rw (p.1, p.2) (stuck (λ l fs. laws.halted (text (goal.at.returns-in_err-next c).After-letters-k) (x ids + xn ids) c.in_err-next.was c.after_part.ensures _ l fs ∙ ends (goal.at.returns-in_err-next c).Else-is_word l fs))

pub returns : goal.returns
unfolding part_of
returns c = let letters = (goal.at.returns c).After-letters-k in
    let ids = (goal.at.returns c).After-ids-len in
    laws.part-goes (text letters) _ _ (x ids + xn ids) (from letters) (omega (arith, past (goal.at.returns c).Else-not-stands, c.blanks-at.ensures)) c.requires.0 (inside ids) (ends (goal.at.returns c).Else-is_word) (laws.went (text letters) (x ids + xn ids) c.in_ok-next.was c.after_part.ensures)
