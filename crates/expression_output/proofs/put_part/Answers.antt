-- `put_part`: the identifier, then the `+`, then the exception.
-- Assumes nothing.
use native.Mathlib.Omega.{arith}
use mathlib.Core.Bool.{cond}
use Prim.Native.Nat.{ℕ, ◌<◌}
use mathlib.Core.List.{List, [], ◌∷◌, ◌++◌, append_assoc}
use lib.ListN.{length}
use Rattle.expression.specs.Writing.{spell_exc, spell_part}
use Rattle.expression_parts.specs.Simple.{bytes_of}
use Rattle.expression_parts.specs.Parts.{part_of}
use Rattle.expression_output.specs.Output.{Put}
use Rattle.expression_output.proofs.OutputLaws.{put_then}
use Rattle.expression_output.proofs.put_part.Goals as goal

pub returns : goal.returns
unfolding spell_part part_of
returns c = let a = c.args in
    let w = bytes_of a.text.now a.part.name in
    let p : List ℕ = cond a.part.plus (43 ∷ []) [] in
    let e = spell_exc (bytes_of a.text.now a.part.exception) in
    let l : length a.out.now < 18446744073709551616 = omega arith in
    let f : Put a.o w a.out.now c.put-a.new.out c.put-a.result = rw (← c.of.ensures) c.put-a.ensures in
    let g : Put c.put_plus-b.result e c.put_plus-b.new.out c.put_exception.new.out c.put_exception.result = rw (← c.of-2.ensures) c.put_exception.ensures in
    rw (← append_assoc w p e) (put_then a.o (w ++ p) e a.out.now l (put_then a.o w p a.out.now l f c.put_plus-b.ensures) g)
