-- `put_head`: two numbers, one behind the other.
-- Assumes nothing.
use mathlib.Core.Path.{ap, ◌∙◌}
use Prim.Native.Nat.{◌+◌}
use native.Mathlib.Omega.{arith}
use Rattle.rules.specs.Book.{written}
use Rattle.records.specs.Written.{put_at}
use Rattle.replay_books.proofs.ShelfLaws.{head-put}
use Rattle.replay_books.proofs.put_head.Goals as goal

pub returns : goal.returns
returns c = let a = c.args in
    c.write_u16.ensures ∙ ap (put_at (a.at + 4) (written 2 a.kind)) c.write_u32.ensures ∙
    head-put a.at a.len a.kind a.book.now (omega arith)
