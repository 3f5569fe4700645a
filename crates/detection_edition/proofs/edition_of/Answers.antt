-- `detection_edition::edition_of` meets its contract: each case of the record at the front.
-- Assumes nothing.
use mathlib.Core.Path.{◌≡◌, sym, ap, ◌∙◌}
use Prim.Native.Nat.{ℕ, ◌+◌, ◌-◌, ◌≤◌}
use native.Mathlib.Omega.{arith}
use lib.ListN.{length, take, drop}
use Rattle.std.specs.Prelude.{Ok}
use Rattle.rules.specs.Book.{At, record_at, said_by, said_at, edition}
use Rattle.records.specs.Places.{at_of}
use Rattle.records.proofs.StepLaws.{record-here}
use borrow.Author.Rules.{rules}
use Rattle.detection_edition.proofs.edition_of.Goals as goal
use Rattle.detection_edition.proofs.edition_of.Goals.{In-Ok-Some}

-- a whole record stands at the front
module _ (x : In-Ok-Some) where
  abbrev body-start : ℕ
  body-start = x.in-Ok-Some.first.start

  abbrev body-len : ℕ
  body-len = x.in-Ok-Some.first.len

  found : record_at x.args.book.now 0 ≡ At.whole x.in-Ok-Some.first.kind body-start body-len
  found = sym x.read.ensures ∙ ap at_of (x.in-Ok-Some.is ∙ ap Ok x.in-Ok-Some.field-0-is)

  fits : body-start + body-len ≤ length x.args.book.now
  fits = (record-here x.args.book.now 0 _ _ _ found).fits

pub overflow_add-first : goal.overflow_add-first
overflow_add-first c = let l = fits (goal.at.overflow_add-first c).In-Ok-Some in search rules

pub slice_bounds-said_by-end : goal.slice_bounds-said_by-end
slice_bounds-said_by-end c = let l = fits (goal.at.slice_bounds-said_by-end c).In-Ok-Some in
    search rules

pub returns-in-Ok-Some : goal.returns-in-Ok-Some
unfolding edition said_at
returns-in-Ok-Some c = let x = (goal.at.returns-in-Ok-Some c).In-Ok-Some in
    let same : body-start x + body-len x - body-start x ≡ body-len x = omega arith in
    let book = c.args.book.now in
    c.said_by.ensures ∙ ap (λ (n : ℕ). said_by c.in-Ok-Some.first.kind (take n (drop (body-start x) book))) same ∙ sym (ap (said_at book) (found x))

pub returns-in-Ok-None : goal.returns-in-Ok-None
unfolding edition said_at
returns-in-Ok-None c = sym (ap (said_at c.args.book.now) (sym c.read.ensures ∙ ap at_of (c.in-Ok-None.is ∙ ap Ok c.in-Ok-None.field-0-is)))

pub returns-in-Err : goal.returns-in-Err
unfolding edition said_at
returns-in-Err c = sym (ap (said_at c.args.book.now) (sym c.read.ensures ∙ ap at_of c.in-Err.is))
