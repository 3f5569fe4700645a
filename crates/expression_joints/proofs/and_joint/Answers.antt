-- `and_joint`: the word, then the parentheses, then ` AND ` behind what they hold.
-- Assumes nothing.
use mathlib.Core.Path.{refl}
use Prim.Native.Nat.{◌<◌}
use native.Mathlib.Omega.{arith}
use lib.ListN.{length}
use Rattle.expression.specs.Writing.{wrap}
use Rattle.expression_bytes.proofs.FrontLaws.{head-within}
use Rattle.expression_joints.specs.Joints.{and_text}
use borrow.Author.Rules.{rules}
use Rattle.std.proofs.lemmas.Result.{err_from_is_err_and}
use Rattle.expression_joints.proofs.JointLaws as laws
use Rattle.expression_joints.proofs.and_joint.Goals as goal

pub overflow_add-at : goal.overflow_add-at
overflow_add-at c = let h = head-within c.args.text.now c.args.at 65 c.requires in search rules

pub and_word-requires : goal.and_word-requires
and_word-requires c = omega (arith, head-within c.args.text.now c.args.at 65 c.requires)

pub returns-in_err-next : goal.returns-in_err-next
returns-in_err-next c =
    let p = err_from_is_err_and c.from_residual.result c.from_residual.ensures.1 in
    rw (p.1, p.2) (laws.joint_off (λ t l fs. laws.and_begins c.args.text.now c.args.at t l fs c.requires) c.in_err-next.was c.and_word.ensures refl)

pub returns : goal.returns
returns c = let a = c.args in
    let l : length a.out.now < 18446744073709551616 = omega arith in
    laws.joint_on (λ t l fs. laws.and_begins a.text.now a.at t l fs c.requires) c.in_ok-next.was c.and_word.ensures
    (laws.lays_more a.from a.to a.out.now (wrap a.or) and_text l c.wrap-shut.ensures c.put-end.ensures)
