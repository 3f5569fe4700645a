-- `name_job::name_lent` meets its contract: the books' rows decide, then the number, and then the text found is the definition's.
-- Assumes nothing.
use Rattle.std.proofs.Common.{sym, ap, ◌∙◌, arith, length, option_copied}
use Rattle.std.proofs.lemmas.Result.{err_from_is_err_and}
use Rattle.rules.specs.Told.{number_told, kind_number}
use Rattle.refusals.specs.Lent.{books_lent}
use Rattle.refusals.proofs.LentLaws.{lent-read}
use Rattle.rules.specs.Jobs.{NameDone}
use Rattle.detection_shelf.specs.Shelves.{part_held}
use Rattle.name_job.proofs.JobLaws.{name-refused, name-past, name-inside, name_done}
use Rattle.name_job.proofs.FaceLaws.{named-most}
use Rattle.name_job.proofs.name_lent.Goals as goal
use Rattle.name_job.proofs.name_lent.Goals.{After-stored_on-held}

pub returns-in_err-counts : goal.returns-in_err-counts
unfolding number_told
returns-in_err-counts c = let p = err_from_is_err_and c.from_residual.result c.from_residual.ensures.1 in
    rw (p.1, p.2) (name-refused _ _ _ (ap number_told (sym c.in_err-counts.was) ∙ c.admit_books.ensures.number))

pub returns-then-counts-k : goal.returns-then-counts-k
unfolding number_told
returns-then-counts-k c = let h = c.in_ok-counts.ensures in
    name-past _ _ (sym h.number) (omega (arith, c.if-counts-k.true, h.texts.all, ap length (lent-read c.args.book.now (option_copied c.args.second)).texts))

pub stored_on-held-requires : goal.stored_on-held-requires
stored_on-held-requires c = record { counts_of = rw c.second_bytes.ensures c.in_ok-counts.ensures.texts; k_lt_all = c.if-counts-k.false }

-- the text that is found: what the job answers of it
module _ (p : After-stored_on-held) where
  named : NameDone (books_lent p.args.book.now (option_copied p.args.second)) p.args.k
      (record { refusal = 0; kind = kind_number p.stored_on-held.result.text.kind; part = part_held p.stored_on-held.result })
  unfolding number_told
  named =
      let h = p.in_ok-counts.ensures in
      let bs = books_lent p.args.book.now (option_copied p.args.second) in
      let read = lent-read p.args.book.now (option_copied p.args.second) in
      let e = rw p.second_bytes.ensures at p.stored_on-held.ensures in
      name_done _ _ h.texts _ e.0 bs read p.args.k e.1 (name-inside bs p.args.k (sym h.number) (omega (arith, p.if-counts-k.false, h.texts.all, ap length read.texts)))

pub invariant_of-result : goal.invariant_of-result
invariant_of-result c = record { short = named-most (named (goal.at.invariant_of-result c).After-stored_on-held) (lent-read c.args.book.now (option_copied c.args.second)) }

pub returns : goal.returns
returns c = named (goal.at.returns c).After-stored_on-held
