-- `put_name`: the name from the sixth byte on, then the head before it.
-- Assumes nothing.
use native.Mathlib.Omega.{arith}
use mathlib.Core.Path.{subst}
use Prim.Native.Nat.{ℕ, ◌+◌}
use Rattle.lists.specs.Wrote.{InFront}
use Rattle.questions.specs.Fields.{text_of}
use Rattle.replay_books.specs.Shelf.{stays}
use Rattle.replay_books.proofs.ShelfLaws.{stays_at, grown, part_room}
use borrow.Author.Rules.{rules}
use Rattle.replay_books.proofs.put_name.Goals as goal

pub returns-then-book-at-lt6 : goal.returns-then-book-at-lt6
returns-then-book-at-lt6 c = record { within = (omega arith, omega arith); book = stays (stays_at _ _ c.requires.0) }

pub returns : goal.returns
returns c = let a = c.args in
    let f = subst (λ (k : ℕ). InFront (text_of k a.k a.line.now) c.text_at-len.result c.text_at-len.new.text) (part_room (a.at + 6) a.book.now (omega arith)) c.text_at-len.ensures in
    record { within = (omega arith, search rules); book = grown a.at 1 _ _ _ (omega arith) _ _ f.within f.count f.bytes c.put_head.ensures }
