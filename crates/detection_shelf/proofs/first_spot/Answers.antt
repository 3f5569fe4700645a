-- `detection_shelf::first_spot` meets its contract: the place before the first text.
-- Assumes nothing.
use mathlib.Core.Path.{ap}
use mathlib.Core.Bool.{false}
use Rattle.detection_texts.specs.declared.texts.Place.{Place}
use Rattle.detection_shelf.proofs.first_spot.Goals as goal

pub returns : goal.returns
returns c = ap (λ (p : Place). record { second = false; number = 0; place = p }) c.first_place.ensures
