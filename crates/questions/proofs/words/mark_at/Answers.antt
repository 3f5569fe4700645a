use mathlib.Core.Path.{◌≡◌}
use mathlib.Core.Bool.{not}
use Prim.Native.Nat.{ℕ}
use native.Mathlib.Omega.{arith}
use lib.Dec.{eqb}
use lib.ListN.{drop, length-drop}
use borrow.Author.Rules.{rules}
use Rattle.rules.proofs.HitLaws.{lead-length}
use Rattle.questions.specs.Words.{up_to}
use Rattle.questions.proofs.words.mark_at.Goals as goal

pub overflow_add-result : goal.overflow_add-result
unfolding up_to
overflow_add-result c =
    let e : c.lead_by.result ≡ up_to c.args.b (drop c.args.at c.args.s.now) = search rules in
    omega (arith, e, lead-length (λ (x : ℕ). not (eqb x c.args.b)) (drop c.args.at c.args.s.now), length-drop c.args.at c.args.s.now, c.requires)

pub returns : goal.returns
unfolding up_to
returns c =
    let e : c.lead_by.result ≡ up_to c.args.b (drop c.args.at c.args.s.now) = search rules in
    let l = lead-length (λ (x : ℕ). not (eqb x c.args.b)) (drop c.args.at c.args.s.now) in
    record { from = omega arith; within = omega (arith, e, l, length-drop c.args.at c.args.s.now, c.requires); place = omega (arith, e) }
