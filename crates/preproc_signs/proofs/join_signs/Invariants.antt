-- `join_signs`: `Over`, with `joined` of what is left as what is to come; and `joined` is passes 4 and 5.
-- Assumes nothing.
use mathlib.Core.List.{List}
use Prim.Native.Nat.{ℕ}
use lib.ListN.{drop}
use Rattle.std.specs.Prelude.{unwrap_or}
use Rattle.lists.proofs.InPlaceLaws.{Over}
use Rattle.preproc_signs.specs.Signs.{kinds, sign_in, joined}
use Rattle.preproc_signs.proofs.SignLaws.{class_at}
use Rattle.preproc_signs.proofs.join_signs.Given as goal

abbrev pub sign : List ℕ → ℕ → ℕ
sign class x = sign_in kinds (class_at class x)

abbrev pub invariant-loop-i : goal.invariant-loop-i
invariant-loop-i l = Over (joined (sign l.class) 0 l.initial.buf) (joined (sign l.class) (unwrap_or l.last 0) (drop l.i l.initial.buf)) l.initial.buf l.buf l.i l.w
