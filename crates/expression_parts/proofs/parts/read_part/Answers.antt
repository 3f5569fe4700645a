-- `read_part`: a simple expression, and what stands behind it.
-- Assumes nothing.
use mathlib.Core.Path.{◌≡◌, sym, ap, ◌∙◌}
use mathlib.Core.List.{List}
use Prim.Native.Nat.{ℕ, ◌+◌, ◌≤◌}
use native.Mathlib.Omega.{arith}
use lib.ListN.{length, drop, take, length-drop}
use lib.Seq.{drop-drop}
use Rattle.expression.specs.Reading.{Level, Ctl, run}
use Rattle.expression_parts.specs.declared.names.Simple.{Simple}
use Rattle.expression_parts.specs.declared.names.Stuck.{Stuck}
use Rattle.std.specs.Prelude.{Result, Ok, Err}
use Rattle.expression_parts.specs.Parts.{stuck}
use Rattle.expression_parts.proofs.RunLaws.{plus_len, told, simple-run, Fits, fits_as}
use Rattle.expression_parts.proofs.AnswerLaws as laws
use borrow.Author.Rules.{rules}
use Rattle.expression_parts.proofs.parts.read_part.Goals as goal
use Rattle.expression_parts.proofs.parts.read_part.Goals.{After-simple_at}

-- the simple expression that stands there
module _ (d : After-simple_at) where
  abbrev text : List ℕ
  text = d.args.text.now

  abbrev at : ℕ
  at = d.args.at

  fits : {r : Result Simple Stuck} → d.simple_at.result ≡ r → Fits (length (drop at text)) r
  fits e = fits_as (drop at text) d.simple_at.ensures e

  stuck-in : {k : Stuck} → d.simple_at.result ≡ Err k → at + k.len ≤ length text
  stuck-in e = omega (arith, fits e, length-drop at text, d.requires.0)

  plus-in : {r : Simple} → d.simple_at.result ≡ Ok r → at + (r.len + plus_len r.plus) ≤ length text
  plus-in e = omega (arith, (fits e).1, length-drop at text, d.requires.0)

  runs : {r : Result Simple Stuck} → d.simple_at.result ≡ r → (l : Level) (fs : List Level) → told (drop at text) l fs at r ≡ run (drop at text) Ctl.want l fs at
  runs e l fs = sym (simple-run (drop at text) l fs at d.requires.1 d.requires.2 ∙ ap (told (drop at text) l fs at) (sym d.simple_at.ensures ∙ e))

  -- behind its identifier and its +
  behind : {r : Simple} → d.simple_at.result ≡ Ok r → (from : ℕ) → from ≡ at + (r.len + plus_len r.plus) → (l : Level) (fs : List Level) → run (drop from text) (Ctl.simple (take r.len (drop at text)) r.plus) l fs from ≡ run (drop at text) Ctl.want l fs at
  unfolding told
  behind {r} e from h l fs = rw (h, ← drop-drop (r.len + plus_len r.plus) at text) (runs e l fs)

pub returns-in-Err : goal.returns-in-Err
unfolding told
returns-in-Err c = stuck (λ l fs. runs (goal.at.returns-in-Err c).After-simple_at c.in-Err.is l fs)

pub overflow_add-result : goal.overflow_add-result
overflow_add-result c = let h = stuck-in (goal.at.overflow_add-result c).After-simple_at c.in-Err.is in search rules

pub overflow_add-end : goal.overflow_add-end
overflow_add-end c = let h = plus-in (goal.at.overflow_add-end c).After-simple_at c.in-Ok.is in search rules

pub overflow_add-end-then-simple : goal.overflow_add-end-then-simple
unfolding plus_len
overflow_add-end-then-simple c =
    let h = plus-in (goal.at.overflow_add-end-then-simple c).After-simple_at c.in-Ok.is in
    let q : plus_len c.in-Ok.simple.plus ≡ 1 = ap plus_len c.if-simple.true in
    search rules

pub after_simple-requires : goal.after_simple-requires
unfolding plus_len
after_simple-requires c =
    let h = plus-in (goal.at.after_simple-requires c).After-simple_at c.in-Ok.is in
    let q : plus_len c.in-Ok.simple.plus ≡ 1 = ap plus_len c.if-simple.true in
    (omega arith, omega arith)

pub returns-then-simple : goal.returns-then-simple
unfolding plus_len
returns-then-simple c =
    let d = (goal.at.returns-then-simple c).After-simple_at in
    let q : plus_len c.in-Ok.simple.plus ≡ 1 = ap plus_len c.if-simple.true in
    laws.read_back (omega (arith, (fits d c.in-Ok.is).0)) (behind d c.in-Ok.is (at d + c.in-Ok.simple.len + 1) (omega arith)) c.after_simple.ensures

pub after_simple-requires-in-Ok : goal.after_simple-requires-in-Ok
after_simple-requires-in-Ok c = let h = plus-in (goal.at.after_simple-requires-in-Ok c).After-simple_at c.in-Ok.is in (omega arith, omega arith)

pub returns-else-simple : goal.returns-else-simple
unfolding plus_len
returns-else-simple c =
    let d = (goal.at.returns-else-simple c).After-simple_at in
    let q : plus_len c.in-Ok.simple.plus ≡ 0 = ap plus_len c.if-simple.false in
    laws.read_back (omega (arith, (fits d c.in-Ok.is).0)) (behind d c.in-Ok.is (at d + c.in-Ok.simple.len) (omega arith)) c.after_simple-in-Ok.ensures
