-- `ngram_body::put_body` meets its contract: its loop is `Bodying`, over the output that the two numbers of the head were written to.
-- The measure is how many entries are left. Assumes nothing.
use mathlib.Core.Path.{◌≡◌}
use mathlib.Core.List.{List}
use Prim.Native.Nat.{ℕ, ◌+◌, ◌≤◌}
use lib.ListN.{length}
use Rattle.rules.specs.Book.{written, table_out}
use Rattle.records.specs.Written.{put_at}
use Rattle.ngram_table.specs.Tables.{table_at}
use Rattle.ngram_body.proofs.BodyLaws.{Bodying}
use Rattle.ngram_body.proofs.put_body.Given as goal

abbrev pub invariant-loop-i : goal.invariant-loop-i
invariant-loop-i l = (o : List ℕ) → l.initial.out ≡ put_at 4 (written 4 l.size.distinct) (put_at 0 (written 4 l.size.total) o) → l.size.distinct ≤ l.size.total → l.size.total + l.size.total ≤ length l.p →
    length (table_out (table_at l.text l.p l.size.total l.size.distinct)) ≤ length o → Bodying l.text l.p o l.out l.size.total l.size.distinct l.w l.i
