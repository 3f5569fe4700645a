-- `scan_answer::answer` meets its contract: the text that is named is the definition's.
-- Assumes nothing.
use mathlib.Core.Path.{refl}
use Rattle.detection_shelf.specs.Shelves.{shelf}
use Rattle.scan_answer.proofs.AnswerLaws.{held-fits, held_short, found-is}
use Rattle.scan_answer.proofs.answer.Goals as goal

pub name_of-name-requires : goal.name_of-name-requires
name_of-name-requires c = let a = c.args in
    rw c.named_text-named.ensures (held-fits (shelf a.book.now a.second.now) a.limits _ c.requires.name_fits)

pub licence_of-requires : goal.licence_of-requires
licence_of-requires c = let a = c.args in
    rw c.named_text-named.ensures (held_short (shelf a.book.now a.second.now) _ (held-fits (shelf a.book.now a.second.now) a.limits _ c.requires.name_fits))

pub returns : goal.returns
returns c = let a = c.args in
    found-is (shelf a.book.now a.second.now) a.limits a.budget a.outcome _ c.requires.name_fits
    (rw c.named_text-named.ensures at c.licence_of.ensures) (rw c.named_text-named.ensures at c.name_of-name.ensures) c.value_of.ensures
    (rw c.count_left.ensures refl) refl c.is_none.ensures
