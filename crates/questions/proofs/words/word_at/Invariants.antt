-- `word_at`: with so many words left to pass, the word that is asked for is that of what is left of the line.
-- Assumes nothing.
use mathlib.Core.Path.{◌≡◌}
use Prim.Native.Nat.{◌≤◌, ◌-◌}
use lib.ListN.{length, drop}
use Rattle.questions.specs.Words.{word_of}
use Rattle.questions.proofs.words.word_at.Given as goal

abbrev pub invariant-loop : goal.invariant-loop
invariant-loop l = (l.at ≤ length l.s) × (word_of (l.k - l.counter) (drop l.at l.s) ≡ word_of l.k l.s)
