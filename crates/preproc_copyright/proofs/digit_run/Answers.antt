-- `digit_run`: the digits are two classes.
-- Assumes nothing.
use mathlib.Core.Path.{ap, ◌∙◌}
use mathlib.Core.Bool.{Bool}
use Prim.Native.Nat.{ℕ}
use lib.ListN.{drop}
use Rattle.rules.specs.Bytes.{lead}
use Rattle.slices.specs.Classes.{digit_in}
use Rattle.slices.proofs.KindLaws.{digit-table, by_table}
use Rattle.preproc_copyright.proofs.digit_run.Goals as goal

pub returns : goal.returns
returns c = c.either_len.ensures
    ∙ ap (λ (p : ℕ → Bool). lead p (drop c.args.at c.args.s.now)) (by_table digit_in c.requires digit-table)
