-- `is_ascii`: the greatest of what was read says whether it lies below 128.
-- Assumes nothing.
use mathlib.Core.Path.{◌≡◌, refl}
use mathlib.Core.Bool.{true}
use mathlib.Core.List.{[]}
use Prim.Native.Nat.{ℕ}
use lib.Dec.{ltb}
use Rattle.std.proofs.Common.{rules, Bor}
use Rattle.std.proofs.lemmas.Iterator.{YieldsList-from_slice}
use Rattle.std.proofs.lemmas.Fn.{fold_over}
use Rattle.std.specs.Slice.Iter.{iter_steps}
use Rattle.rules.specs.Bytes.{every}
use Rattle.rules.specs.Points.{ascii}
use Rattle.points.proofs.EncodeLaws.{ascii_more}
use Rattle.points.proofs.encode.is_ascii.Goals as goal

none : true ≡ ascii []
unfolding ascii every
none = refl

pub returns : goal.returns
returns c = let s = c.args.s.now in
    fold_over iter_steps (λ (y : Bor ℕ). y.now) _ (λ ys top. ltb top 128 ≡ ascii ys) _ (λ ys a x b f j k. search (rules, ascii_more)) c.iter.result s 0 _ (YieldsList-from_slice s c.iter.ensures.rest).runs none c.fold-top.ensures.ran
