-- `scan_answer::name_of` meets its contract: the part of its book that is the named text's name, or no bytes.
-- Assumes nothing.
use Rattle.detection_shelf.specs.Shelves.{shelf}
use Rattle.scan_answer.proofs.AnswerLaws.{name-none, name-some}
use Rattle.scan_answer.proofs.name_of.Goals as goal

pub returns-in-Some : goal.returns-in-Some
returns-in-Some c = name-some (shelf c.args.book.now c.args.second.now) c.in-Some.is _ _ c.book_held-from.ensures c.name_in-name.ensures.0

pub returns-in-None : goal.returns-in-None
returns-in-None c = name-none (shelf c.args.book.now c.args.second.now) c.in-None.is
