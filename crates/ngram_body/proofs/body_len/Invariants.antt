-- `ngram_body::body_len` meets its contract: its loop is `Measuring`, of any total. The measure is how many entries are left.
-- Assumes nothing.
use Prim.Native.Nat.{ℕ, ◌+◌, ◌≤◌}
use lib.ListN.{length}
use Rattle.ngram_body.proofs.BodyLaws.{Measuring}
use Rattle.ngram_body.proofs.body_len.Given as goal

abbrev pub invariant-loop-i : goal.invariant-loop-i
invariant-loop-i l = (k : ℕ) → l.fn.size.distinct ≤ k → k + k ≤ length l.p → Measuring l.text l.p k l.fn.size.distinct l.n l.i
