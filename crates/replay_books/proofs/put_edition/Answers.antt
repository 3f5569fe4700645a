-- `put_edition`: nothing, or the head and behind it the edition.
-- Assumes nothing.
use native.Mathlib.Omega.{arith}
use Rattle.replay_books.proofs.ShelfLaws.{first-edition, no_room, opened}
use borrow.Author.Rules.{rules}
use Rattle.replay_books.proofs.put_edition.Goals as goal

pub returns-then-edition-eq-EDITION_FIRST : goal.returns-then-edition-eq-EDITION_FIRST
returns-then-edition-eq-EDITION_FIRST c = record { within = (omega arith, c.requires.0); book = first-edition _ _ _ c.requires.0 c.if-edition-eq-EDITION_FIRST.true }

pub returns-then-book-at-lt8 : goal.returns-then-book-at-lt8
returns-then-book-at-lt8 c = record { within = (omega arith, c.requires.0); book = no_room _ _ _ c.requires.0 c.if-edition-eq-EDITION_FIRST.false c.if-book-at-lt8.true }

pub returns : goal.returns
returns c = let a = c.args in
    record { within = (omega arith, search rules); book = opened a.at a.edition a.book.now c.requires.0 _ _ c.if-edition-eq-EDITION_FIRST.false c.if-book-at-lt8.false c.put_head.ensures c.write_u16.ensures }
