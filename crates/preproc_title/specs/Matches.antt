-- What the matchers answer at a place, where `rules` has no name for it.
-- Assumes nothing.
use Rattle.std.specs.Prelude.{ℕ, Bool, ◌&&◌, List, drop}
use Rattle.rules.specs.Bytes.{text, starts}
use Rattle.rules.specs.Passes.{title_rest}

-- `license` stands at the front, and what follows it may end a title
unfoldable pub title_here : List ℕ → Bool
title_here s = starts (text "license") s && title_rest (drop 7 s)
