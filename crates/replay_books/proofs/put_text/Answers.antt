-- `put_text`: the table from the sixth byte on, then the head before it.
-- Assumes nothing.
use mathlib.Core.Path.{refl}
use native.Mathlib.Omega.{arith}
use Rattle.replay_books.specs.Shelf.{stays}
use Rattle.replay_books.proofs.ShelfLaws.{stays_at, stayed, grown, compiled-length, compiled-front}
use borrow.Author.Rules.{rules}
use Rattle.replay_books.proofs.put_text.Goals as goal

pub returns-then-book-at-lt6 : goal.returns-then-book-at-lt6
returns-then-book-at-lt6 c = record { within = (omega arith, omega arith); book = stays (stays_at _ _ c.requires.0) }

pub returns-in_default : goal.returns-in_default
returns-in_default c = record { within = (omega arith, search rules); book = stayed _ _ _ _ c.compile.new.out (omega arith) }

pub returns-then-book-body : goal.returns-then-book-body
returns-then-book-body c = record { within = (omega arith, search rules); book = stayed _ _ _ _ c.compile.new.out (omega arith) }

pub returns : goal.returns
returns c = let a = c.args in
    record { within = (omega arith, search rules); book = grown a.at a.kind _ _ _ (omega arith) _ _ (search rules) (compiled-length _ _ _ _ _ _ _ _ _ c.in-Ok.ensures refl) (compiled-front _ _ _ _ _ _ _ _ _ c.in-Ok.ensures refl) c.put_head.ensures }
