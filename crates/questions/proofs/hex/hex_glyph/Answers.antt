-- `hex_glyph`: the test of the definition.
-- Assumes nothing.
use borrow.Author.Tests.{lt-ltb, le-ltb}
use Rattle.questions.specs.Hex.{hex_glyph}
use Rattle.questions.proofs.hex.hex_glyph.Goals as goal

pub returns-then-n-lt10 : goal.returns-then-n-lt10
unfolding hex_glyph
returns-then-n-lt10 c = simp (lt-ltb _ _ c.if-n-lt10.true)

pub returns-else-n-lt10 : goal.returns-else-n-lt10
unfolding hex_glyph
returns-else-n-lt10 c = simp (le-ltb _ _ c.if-n-lt10.false)
