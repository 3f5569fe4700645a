-- `leaf`: a part is told and written.
-- Assumes nothing.
use mathlib.Core.Path.{refl}
use mathlib.Core.List.{List}
use Prim.Native.Nat.{ℕ, ◌+◌}
use lib.ListN.{drop}
use Rattle.std.proofs.lemmas.Result.{err_from_is_err_and}
use Rattle.expression.specs.Reading.{Ctl, run}
use Rattle.expression_parts.specs.declared.parts.PartAt.{PartAt}
use Rattle.expression_parts.specs.Parts.{part_of}
use Rattle.expression_levels.specs.Levels.{no}
use Rattle.expression_levels.proofs.OperandLaws.{Part-read, part-read, part_none, part-told}
use Rattle.expression_levels.proofs.leaf.Goals as goal
use Rattle.expression_levels.proofs.leaf.Goals.{In_ok-part}

-- the part that stands there
module _ (a : In_ok-part) where
  abbrev text : List ℕ
  text = a.args.text.now

  abbrev at : ℕ
  at = a.args.at

  abbrev it : PartAt
  it = a.in_ok-part.part

  found : Part-read text (at + 1) (λ l fs. run (drop at text) Ctl.want l fs at) it
  found = part-read text (at + 1) (λ l fs. run (drop at text) Ctl.want l fs at) a.in_ok-part.was a.read_part.ensures

pub put_part-end-requires : goal.put_part-end-requires
put_part-end-requires c = let in_ok_part = (goal.at.put_part-end-requires c).In_ok-part in
    ((found in_ok_part).in_text.name, (found in_ok_part).in_text.exc)

pub part_in-requires : goal.part_in-requires
part_in-requires c = let in_ok_part = (goal.at.part_in-requires c).In_ok-part in
    ((found in_ok_part).in_text.name, (found in_ok_part).in_text.exc)

pub returns-in_err-part : goal.returns-in_err-part
returns-in_err-part c =
    let p = err_from_is_err_and c.from_residual.result c.from_residual.ensures.1 in
    rw (p.1, p.2) (λ depth. no (λ l fs h. part_none c.args.text.now (c.args.at + 1) (λ l fs. run (drop c.args.at c.args.text.now) Ctl.want l fs c.args.at) c.in_err-part.was c.read_part.ensures l fs) refl)

pub returns : goal.returns
unfolding part_of
returns c = let in_ok_part = (goal.at.returns c).In_ok-part in
    λ depth. part-told c.args.list.now (text in_ok_part) (at in_ok_part) depth _ c.args.o (found in_ok_part) refl c.part_in.ensures refl c.put_part-end.ensures
