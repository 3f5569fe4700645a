-- `longer_than`: what is longer in code points is so in bytes.
-- Assumes nothing.
use mathlib.Core.Path.{sym, ◌∙◌}
use native.Mathlib.Omega.{arith}
use lib.ListN.{length}
use borrow.Author.Tests.{lt-ltb}
use Rattle.rules.specs.Points.{encoded}
use Rattle.rules.proofs.GrowthLaws.{encoded-more}
use Rattle.points.proofs.EncodeLaws.{encoded_twice}
use Rattle.points.proofs.encode.longer_than.Goals as goal

pub returns-then-most-s : goal.returns-then-most-s
returns-then-most-s c = let s = c.args.s.now in
    lt-ltb _ _ c.if-most-s.true ∙ sym (lt-ltb c.args.most (length (encoded s)) (omega (arith, c.if-most-s.true, encoded-more s)))

pub utf8_len-requires : goal.utf8_len-requires
utf8_len-requires c = omega (arith, c.requires, c.if-most-s.false, encoded_twice c.args.s.now)
