-- `first_passes`: one pass after another.
-- Assumes nothing.
use mathlib.Core.Path.{refl}
use Rattle.lists.proofs.ChainLaws.{front-next}
use Rattle.lists.proofs.InPlaceLaws.{front_whole}
use Rattle.rules.specs.Bytes.{keep}
use Rattle.slices.specs.Classes.{kept_in}
use Rattle.preproc_view.proofs.RowLaws.{in-lower, first-row}
use Rattle.preproc_view.proofs.passes.first_passes.Goals as goal

pub returns : goal.returns
returns c = let t = c.args.class.now in
    let f2 = front-next (keep (kept_in t)) c.cap_runs-n2.ensures c.keep_in-n3.ensures in
    rw (← first-row t c.requires c.args.buf.now) (in-lower (front_whole f2 _ refl) c.lower_in.ensures _)
