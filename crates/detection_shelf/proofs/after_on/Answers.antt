-- `detection_shelf::after_on` meets its contract: the place after the text.
-- Assumes nothing.
use mathlib.Core.Path.{ap}
use Prim.Native.Nat.{◌+◌}
use Rattle.detection_texts.specs.declared.texts.Place.{Place}
use Rattle.detection_shelf.proofs.after_on.Goals as goal

pub returns : goal.returns
returns c = let t = c.args.t in
    ap (λ (p : Place). record { second = t.second; number = t.number + 1; place = p }) c.after_text.ensures
