-- A text that is let through under edition e, and a view within it.
-- Assumes nothing.
use Rattle.std.specs.Prelude.{Bool, ◌&&◌, List, ℕ, leb, eqb}
use Rattle.rules.specs.Lines.{line_count}
use Rattle.rules.specs.Refusal.{refusal, of_text}

unfoldable pub view_fits : ℕ → ℕ → ℕ → List ℕ → Bool
view_fits e start end t = eqb (refusal (of_text e t)) 0 && leb end (line_count t) && leb start end
