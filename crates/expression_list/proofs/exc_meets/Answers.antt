-- `exc_meets`: identifier bytes that are no word, as many as the exception has, the end, and the same bytes.
-- Assumes nothing.
use mathlib.Core.Path.{◌≡◌, sym, ap, ◌∙◌}
use mathlib.Core.Bool.{not, ◌&&◌, and-false}
use mathlib.Core.List.{List}
use Prim.Native.Nat.{ℕ, ◌+◌, ◌≤◌}
use native.Mathlib.Omega.{arith}
use lib.Dec.{ltb}
use lib.ListN.{length, drop, take}
use lib.Seq.{drop-drop}
use borrow.Author.Tests.{lt-ltb, le-ltb}
use Rattle.expression.specs.Reading.{is_word}
use Rattle.expression.specs.Writing.{alike}
use Rattle.expression_bytes.proofs.FrontLaws.{ids_in}
use Rattle.expression_place.specs.Line.{ends}
use Rattle.expression_list.specs.Rest.{exc_met}
use Rattle.expression_list.proofs.MeetLaws.{exc_by}
use borrow.Author.Rules.{rules}
use Rattle.expression_list.proofs.exc_meets.Goals as goal
use Rattle.expression_list.proofs.exc_meets.Goals.{After-ids-len, then-len-eq0-via-then-len-eq0, then-len-eq0-via-else-len-eq0+then-not-line_ends}

-- the identifier bytes are counted
module _ (d : After-ids-len) where
  abbrev list : List ℕ
  list = d.args.list.now

  abbrev at : ℕ
  at = d.args.at

  abbrev k : ℕ
  k = d.ids-len.result

  abbrev exc : List ℕ
  exc = d.args.exception.now

  inside : at + k ≤ length list
  inside = ids_in list at k d.requires d.ids-len.ensures

  by : exc_met exc (drop at list) ≡ (ltb 0 k && not (is_word (take k (drop at list))) && ends (drop (at + k) list) && alike exc (take k (drop at list)))
  by = exc_by exc (drop at list) k d.ids-len.ensures ∙ rw (drop-drop k at list)

pub overflow_add-at : goal.overflow_add-at
overflow_add-at c = let h = inside (goal.at.overflow_add-at c).After-ids-len in search rules

pub returns-then-len-eq0 : goal.returns-then-len-eq0
returns-then-len-eq0 c = let ids = (goal.at.returns-then-len-eq0 c).After-ids-len in
    let word = is_word (take (k ids) (drop (at ids) (list ids))) in
    elim c.then-len-eq0.branch [
      | then-len-eq0-via-then-len-eq0 w ↦ sym (by ids ∙ rw (le-ltb 0 (k ids) (omega (arith, w.if-len-eq0.true))))
      | then-len-eq0-via-else-len-eq0+then-not-line_ends w ↦ sym (by ids ∙ rw (sym w.line_ends.ensures ∙ w.if-not-line_ends.true, and-false (ltb 0 (k ids) && not word)))
    ]

pub of-requires : goal.of-requires
of-requires c = inside (goal.at.of-requires c).After-ids-len

pub of-requires-then-not-is_word : goal.of-requires-then-not-is_word
of-requires-then-not-is_word c = inside (goal.at.of-requires-then-not-is_word c).After-ids-len

pub returns-then-not-is_word : goal.returns-then-not-is_word
returns-then-not-is_word c = let ids = (goal.at.returns-then-not-is_word c).After-ids-len in
    c.alike.ensures
    ∙ ap (alike (exc ids)) c.of-then-not-is_word.ensures
    ∙ sym (by ids
    ∙ rw (
      lt-ltb 0 (k ids) (omega (arith, c.if-len-eq0.false)),
      ap is_word (sym c.of.ensures) ∙ sym c.is_word.ensures ∙ c.if-not-is_word.true,
      sym c.line_ends.ensures ∙ c.if-not-line_ends.false,
    ))

pub returns-else-not-is_word : goal.returns-else-not-is_word
returns-else-not-is_word c = let ids = (goal.at.returns-else-not-is_word c).After-ids-len in
    ap not c.if-not-is_word.false
    ∙ sym (by ids ∙ rw (ap is_word (sym c.of.ensures) ∙ sym c.is_word.ensures ∙ c.if-not-is_word.false, and-false (ltb 0 (k ids))))
