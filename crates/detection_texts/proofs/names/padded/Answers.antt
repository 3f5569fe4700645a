-- `detection_texts::names::padded` meets its contract: the name is put over zeros.
-- Assumes nothing.
use mathlib.Core.Path.{ap, ◌∙◌}
use mathlib.Core.List.{◌++◌}
use Prim.Native.Nat.{ℕ}
use native.Mathlib.Nat.{zero-add}
use lib.ListN.{length, drop, replicate}
use Rattle.rules.specs.Jobs.{over}
use Rattle.detection_texts.proofs.names.padded.Goals as goal

pub returns : goal.returns
unfolding over
returns c = let s = c.args.s.now in
    let p = c.put.ensures in
    p.1 ∙ ap (λ (k : ℕ). s ++ drop k (replicate 64 0)) (p.0 ∙ zero-add (length s))
