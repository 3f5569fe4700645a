-- `detection_texts::texts::next_text` meets its contract: the reader stands at the place, which stands before the text that is asked for; less of the book is ahead.
-- Assumes nothing.
use mathlib.Core.Path.{◌≡◌}
use Prim.Native.Nat.{◌-◌}
use lib.ListN.{length}
use Rattle.detection_texts.specs.Texts.{Before}
use Rattle.detection_texts.proofs.texts.next_text.Given as goal

abbrev pub invariant-loop-kind : goal.invariant-loop-kind
invariant-loop-kind l = record {
  lent : l.reader.book.now ≡ l.book;
  at : l.reader.at ≡ l.here.at;
  before : Before l.book l.here;
  number : l.here.number ≡ l.fn.place.number;
}

abbrev pub decreases-loop-kind : goal.decreases-loop-kind
decreases-loop-kind l = length l.book - l.here.at
