-- `detection_edition::edition_sound` meets its contract: the length, and then what the two bytes say.
-- Assumes nothing.
use mathlib.Core.Path.{◌≡◌}
use native.Mathlib.Omega.{arith}
use lib.ListN.{length}
use borrow.Author.Tests.{ne_eqb}
use Rattle.rules.specs.Book.{sound_edition}
use Rattle.detection_edition.proofs.EditionLaws.{edition-within, edition-below}
use borrow.Author.Rules.{rules}
use Rattle.detection_edition.proofs.edition_sound.Goals as goal

pub returns-then-body-ne-EDITION_WIDTH : goal.returns-then-body-ne-EDITION_WIDTH
unfolding sound_edition
returns-then-body-ne-EDITION_WIDTH c = let other : length c.args.body.now ≡ 2 → ⊥ = λ e. omega (arith, e, c.if-body-ne-EDITION_WIDTH.true) in
    simp (ne_eqb (length c.args.body.now) 2 other)

-- what was read is found by the search, so that no answer names the step
pub returns-then-said-gt-EDITION_FIRST : goal.returns-then-said-gt-EDITION_FIRST
returns-then-said-gt-EDITION_FIRST c = edition-within c.args.body.now _ (search rules) (search rules) c.if-said-gt-EDITION_FIRST.true

pub returns-else-said-gt-EDITION_FIRST : goal.returns-else-said-gt-EDITION_FIRST
returns-else-said-gt-EDITION_FIRST c = edition-below c.args.body.now _ (search rules) (search rules) (omega (arith, c.if-said-gt-EDITION_FIRST.false))
