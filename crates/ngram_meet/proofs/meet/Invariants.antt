-- `ngram_meet::meet` meets its contract: its loop is `Meeting`. The measure is what is left of both tables.
-- Assumes nothing.
use Prim.Native.Nat.{◌+◌, ◌-◌}
use lib.ListN.{length}
use Rattle.rules.specs.Table as words
use Rattle.rules.specs.Book.{entries_of, table_in}
use Rattle.ngram_meet.proofs.MeetLaws.{Meeting}
use Rattle.ngram_meet.proofs.meet.Given as goal

abbrev pub invariant-loop-i : goal.invariant-loop-i
invariant-loop-i l = Meeting l.text l.p l.body l.total l.distinct (words.meet (words.tallied (words.bigrams l.text)) (table_in l.body (entries_of l.body)).entries) l.rest l.stored l.m l.i l.j

abbrev pub decreases-loop-i : goal.decreases-loop-i
decreases-loop-i l = (l.distinct - l.i) + (length l.body - l.j)
