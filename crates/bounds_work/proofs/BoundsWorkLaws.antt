-- A budget of `bounds_most` pays every search of a note that is let through, so that none runs out.
--     bounds-most                     no bounds take more scorings than that
--     body_read                       the table that a stored text's body gives
--     answer_fits, answer-is          what the search found fits the answer, and says what the definition says
-- Assumes nothing.
use mathlib.Core.Path.{◌≡◌, sym, ap, ◌∙◌}
use mathlib.Core.List.{List}
use Prim.Native.Nat.{ℕ, ◌-◌, ◌≤◌}
use native.Mathlib.Omega.{arith}
use lib.ListN.{length, get_or}
use borrow.Author.Tests.{le-leb}
use Rattle.std.proofs.Common.{Option, Some}
use Rattle.rules.specs.declared.View.{View}
use Rattle.rules.specs.declared.Bounded.{Bounded}
use Rattle.rules.specs.declared.Bounds.{Bounds}
use Rattle.rules.specs.Sizes.{lines_most}
use Rattle.rules.specs.Search.{Stored, no_text, bounds}
use Rattle.rules.specs.Count.{most_for}
use Rattle.rules.specs.Jobs.{bounded_as, bounds_found}
use Rattle.rules.proofs.CountLaws.{rounds_least, bounds-count}
use Rattle.rules.proofs.DownLaws.{bounds_in}
use Rattle.license_charge.specs.declared.Scorings.{Scorings}
use Rattle.license_charge.specs.declared.Charged.{Charged}
use Rattle.license_charge.specs.Pay.{pay, charged_of}
use Rattle.detection_shelf.specs.declared.Shelved.{Shelved}
use Rattle.detection_shelf.specs.Shelves.{Shelf, Stands, texts, body_in}
use Rattle.detection_shelf.specs.Bodies.{table_of_body}
use Rattle.detection_shelf.proofs.ShelfLaws.{stored-table}
use Rattle.bounds_answer.specs.Answers.{answer_for, FitsAnswer}

-- of a stored text, the table that its body gives
pub body_read : {s : Shelf} {t : Shelved} {k : ℕ} {body : List ℕ} → Stands s t → t.number ≡ k → body ≡ body_in s t → (get_or (texts s) k no_text).table ≡ table_of_body body
body_read {s} {t} {k} {body} stands n e = stored-table s _ _ stands n ∙ ap table_of_body (sym e)

-- the scorings that pay every search: the code's `BOUNDS_MOST`
abbrev pub bounds_most : ℕ
bounds_most = 104

-- 24 rounds of a search take 65,536 lines down to four
most-lines : most_for lines_most ≤ 52
unfolding most_for
most-lines = omega (arith, rounds_least lines_most 24 (omega arith))

module _ (ls : List (List ℕ)) (v : View) (s : Stored) (order : v.start ≤ v.end) (inside : v.end ≤ lines_most) where
  abbrev count : ℕ
  count = length (bounds ls v s).list

  pub bounds-most : count ≤ bounds_most
  bounds-most = omega (arith, bounds-count ls v s lines_most order inside, most-lines)

  abbrev answer : Bounded
  answer = bounded_as 0 (bounds ls v s).value count

  module _ (x : Option (Charged Bounds)) (left : Scorings) (made : left ≡ record { count = bounds_most }) (found : x ≡ charged_of (pay (bounds ls v s) left.count)) where
    is_found : x ≡ Some (record { value = (bounds ls v s).value; left = record { count = bounds_most - count } })
    unfolding pay charged_of
    is_found = found ∙ ap (λ (n : Scorings). charged_of (pay (bounds ls v s) n.count)) made ∙ rw (le-leb count bounds_most bounds-most)

    pub answer_fits : FitsAnswer x bounds_most
    unfolding FitsAnswer
    answer_fits = let i = bounds_in ls v s order in rw is_found (omega arith, omega arith, omega arith)

    pub answer-is : answer_for x bounds_most ≡ answer
    unfolding answer_for
    answer-is = ap (λ (y : Option (Charged Bounds)). answer_for y bounds_most) is_found ∙ ap (bounded_as 0 (bounds ls v s).value) (paid bounds-most)
      where
        paid : count ≤ bounds_most → bounds_most - (bounds_most - count) ≡ count
        paid h = omega arith

pub bounds-found : (ms : List (List ℕ)) (ss : List Stored) (ls : List (List ℕ)) (v : View) (k : ℕ) (x : Bounded) (order : v.start ≤ v.end) (inside : v.end ≤ lines_most) → ls ≡ ms →
    x ≡ answer ls v (get_or ss k no_text) order inside → x ≡ bounds_found ms ss v k
unfolding bounds_found
bounds-found ms ss ls v k x order inside l e = e ∙ rw l
