-- `after_simple`: a blank and WITH, a blank alone, or what ends a part.
-- Assumes nothing.
use mathlib.Core.Path.{◌≡◌, sym, ◌∙◌}
use mathlib.Core.Bool.{Bool, true, false}
use mathlib.Core.List.{List, [], ◌∷◌}
use Prim.Native.Nat.{ℕ, ◌+◌, ◌≤◌, ◌<◌}
use native.Mathlib.Omega.{arith}
use lib.ListN.{length, drop, take}
use Rattle.expression.specs.Reading.{part, leaf, Level, Ctl, run}
use Rattle.expression_bytes.specs.Front.{head_is, ending}
use Rattle.expression_bytes.proofs.FrontLaws.{head-within, blanks-high, blanks-stop}
use Rattle.expression_bytes.proofs.StateLaws as state
use Rattle.expression_parts.specs.Parts.{part_of, stuck}
use Rattle.expression_parts.proofs.AnswerLaws as laws
use borrow.Author.Rules.{rules}
use Rattle.std.proofs.lemmas.Result.{err_from_is_err_and}
use Rattle.expression_parts.proofs.parts.after_simple.Goals as goal
use Rattle.expression_parts.proofs.parts.after_simple.Goals.{After-blanks-behind, Else-stands, Then-stands, Then-stands-2}

-- a blank stands behind it
module _ (i : Then-stands) where
  abbrev text : List ℕ
  text = i.args.text.now

  abbrev from : ℕ
  from = i.args.from

  abbrev name : List ℕ
  name = take i.args.name.len (drop i.args.name.at text)

  abbrev plus : Bool
  plus = i.args.plus

  blank : head_is 32 (drop from text) ≡ true
  blank = sym i.stands.ensures ∙ i.if-stands.true

  past : from < length text
  past = head-within text from 32 blank

pub blanks-behind-requires : goal.blanks-behind-requires
blanks-behind-requires c = let h = past (goal.at.blanks-behind-requires c).Then-stands in omega arith

-- and the blanks behind that
module _ (d : After-blanks-behind) where
  abbrev then_stands_of_d : Then-stands
  then_stands_of_d = (goal.at.After-blanks-behind d).Then-stands

  abbrev behind : ℕ
  behind = d.blanks-behind.result

  high : behind ≤ length (text then_stands_of_d)
  high = let h = (past then_stands_of_d) in blanks-high (text then_stands_of_d) ((from then_stands_of_d) + 1) behind (omega arith) d.blanks-behind.ensures

  low : (from then_stands_of_d) ≤ behind
  low = omega (arith, d.blanks-behind.ensures)

  no-blank : head_is 32 (drop behind (text then_stands_of_d)) ≡ false
  no-blank = blanks-stop (text then_stands_of_d) ((from then_stands_of_d) + 1) behind d.blanks-behind.ensures

  spaced : (l : Level) (fs : List Level) → run (drop behind (text then_stands_of_d)) (Ctl.spaced (name then_stands_of_d) (plus then_stands_of_d)) l fs behind ≡ run (drop (from then_stands_of_d) (text then_stands_of_d)) (Ctl.simple (name then_stands_of_d) (plus then_stands_of_d)) l fs (from then_stands_of_d)
  spaced l fs =
      laws.spaced-over (text then_stands_of_d) (name then_stands_of_d) (plus then_stands_of_d) ((from then_stands_of_d) + 1) l fs behind d.blanks-behind.ensures
      ∙ sym (state.simple-blank (drop (from then_stands_of_d) (text then_stands_of_d)) (name then_stands_of_d) (plus then_stands_of_d) l fs (from then_stands_of_d) (blank then_stands_of_d) ∙ laws.one_on (text then_stands_of_d) (from then_stands_of_d) (Ctl.spaced (name then_stands_of_d) (plus then_stands_of_d)) l fs)

-- WITH begins there
module _ (i : Then-stands-2) where
  abbrev blanks_of_i : After-blanks-behind
  blanks_of_i = (goal.at.Then-stands-2 i).After-blanks-behind

  abbrev then_stands_of_i : Then-stands
  then_stands_of_i = (goal.at.Then-stands-2 i).Then-stands

  letter : head_is 87 (drop (behind blanks_of_i) (text then_stands_of_i)) ≡ true
  letter = sym i.stands-then-stands.ensures ∙ i.if-stands-2.true

  letter-in : (behind blanks_of_i) < length (text then_stands_of_i)
  letter-in = head-within (text then_stands_of_i) (behind blanks_of_i) 87 letter

pub overflow_add-behind : goal.overflow_add-behind
overflow_add-behind c = let h = letter-in (goal.at.overflow_add-behind c).Then-stands-2 in search rules

pub exception-requires : goal.exception-requires
exception-requires c = let h = letter-in (goal.at.exception-requires c).Then-stands-2 in
    (c.requires.0, omega arith)

pub returns-then-stands-2 : goal.returns-then-stands-2
returns-then-stands-2 c = let blanks = (goal.at.returns-then-stands-2 c).After-blanks-behind in
    let then_stands = (goal.at.returns-then-stands-2 c).Then-stands in
    laws.read_back (omega (arith, low blanks)) (λ l fs. sym (state.spaced-with (drop (behind blanks) (text then_stands)) (name then_stands) (plus then_stands) l fs (behind blanks) (no-blank blanks) (letter (goal.at.returns-then-stands-2 c).Then-stands-2) ∙ laws.one_on (text then_stands) (behind blanks) (Ctl.withs (name then_stands) (plus then_stands) (73 ∷ 84 ∷ 72 ∷ [])) l fs) ∙ spaced blanks l fs) c.exception.ensures

pub returns-then-stands : goal.returns-then-stands
unfolding part_of
returns-then-stands c = let then_stands = (goal.at.returns-then-stands c).Then-stands in
    let blanks = (goal.at.returns-then-stands c).After-blanks-behind in
    laws.part-reads (text then_stands) _ _ (from then_stands) (λ l fs. sym (state.spaced-done (drop (behind blanks) (text then_stands)) (name then_stands) (plus then_stands) l fs (behind blanks) (no-blank blanks) (sym c.stands-then-stands.ensures ∙ c.if-stands-2.false)) ∙ spaced blanks l fs)
    record { name = c.requires.0; exc = (let h = c.requires.0 in omega arith); low = low blanks; high = high blanks; stop = no-blank blanks }

-- no blank: what ends a part
module _ (e : Else-stands) where
  ends : (l : Level) (fs : List Level) → ending (leaf (part (take e.args.name.len (drop e.args.name.at e.args.text.now)) e.args.plus [])) (drop e.args.from e.args.text.now) l fs e.args.from ≡ run (drop e.args.from e.args.text.now) (Ctl.simple (take e.args.name.len (drop e.args.name.at e.args.text.now)) e.args.plus) l fs e.args.from
  ends l fs = sym (state.simple-ends _ _ _ l fs _ (sym e.stands.ensures ∙ e.if-stands.false))

pub returns-in_err-next : goal.returns-in_err-next
returns-in_err-next c =
    let p = err_from_is_err_and c.from_residual.result c.from_residual.ensures.1 in
    rw (p.1, p.2) (stuck (λ l fs. laws.halted c.args.text.now c.args.from c.in_err-next.was c.after_part.ensures _ l fs ∙ ends (goal.at.returns-in_err-next c).Else-stands l fs))

pub returns : goal.returns
unfolding part_of
returns c = laws.part-goes c.args.text.now _ _ c.args.from c.args.from (omega arith) c.requires.0 (let h = c.requires.0 in omega arith) (ends (goal.at.returns c).Else-stands) (laws.went c.args.text.now c.args.from c.in_ok-next.was c.after_part.ensures)
