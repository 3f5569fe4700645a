-- `line_meets`: by the bytes at the front of the line, and then by the simple expression there.
-- Assumes nothing.
use mathlib.Core.Path.{◌≡◌, sym, ap, ◌∙◌}
use mathlib.Core.Bool.{Bool, false, ◌&&◌}
use mathlib.Core.List.{List}
use Prim.Native.Nat.{ℕ, ◌+◌, ◌≤◌}
use native.Mathlib.Omega.{arith}
use lib.ListN.{length, drop, take, length-drop, length-take}
use lib.Seq.{length-take-le}
use Rattle.expression.specs.Reading.{part}
use Rattle.expression.specs.Writing.{alike, agree}
use Rattle.expression_parts.specs.Simple.{simple_of, simple_at}
use Rattle.expression_place.specs.Line.{met_by, line_at}
use Rattle.expression_list.specs.Rest.{behind, rest_met}
use Rattle.expression_list.proofs.AlikeLaws.{alike_not}
use Rattle.expression_list.proofs.SimpleLaws.{simple_fits, behind_add, behind-drop, behind_least}
use Rattle.expression_list.proofs.MeetLaws.{line-apart, line-stuck, line_not}
use borrow.Author.Rules.{rules}
use Rattle.expression_list.proofs.line_meets.Goals as goal
use Rattle.expression_list.proofs.line_meets.Goals.{Else-found-len, In-Ok, Start}

module _ (begin : Start) where
  abbrev list : List ℕ
  list = begin.args.list.now

  abbrev i : ℕ
  i = begin.args.i

  abbrev name : List ℕ
  name = begin.args.name.now

  abbrev n : ℕ
  n = length name

  abbrev exc : List ℕ
  exc = begin.args.exception.now

  unmet : alike name (take n (drop i list)) ≡ false → met_by (part name begin.args.plus exc) (line_at (drop i list)) ≡ false
  unmet h = line_not name exc begin.args.plus (drop i list) h

pub returns-then-list-i : goal.returns-then-list-i
returns-then-list-i c = let start = (goal.at.returns-then-list-i c).Start in
    sym (unmet start (alike_not (name start) (take (n start) (drop (i start) (list start)))
    (λ e. omega (arith, e, length-take (n start) (drop (i start) (list start)), length-drop (i start) (list start), c.if-list-i.true, c.requires))))

pub of-requires : goal.of-requires
of-requires c = omega (arith, c.if-list-i.false, c.requires)

pub returns-then-not-alike : goal.returns-then-not-alike
returns-then-not-alike c = let start = (goal.at.returns-then-not-alike c).Start in
    sym (unmet start (ap (alike (name start)) (sym c.of.ensures) ∙ sym c.alike.ensures ∙ c.if-not-alike.true))

-- a simple expression stands at the front
module _ (x : In-Ok) where
  abbrev start_of_x : Start
  start_of_x = (goal.at.In-Ok x).Start

  abbrev m : ℕ
  m = x.in-Ok.found.len

  abbrev more : Bool
  more = x.in-Ok.found.plus

  found : simple_at (drop (i start_of_x) (list start_of_x)) ≡ simple_of m more
  found = sym x.simple_at.ensures ∙ x.in-Ok.is

  fits : behind m more ≤ length (drop (i start_of_x) (list start_of_x))
  fits = rw found at (simple_fits (drop (i start_of_x) (list start_of_x)))

  apart : met_by (part (name start_of_x) x.args.plus (exc start_of_x)) (line_at (drop (i start_of_x) (list start_of_x)))
      ≡ (alike (name start_of_x) (take m (drop (i start_of_x) (list start_of_x))) && agree x.args.plus more
      && rest_met (exc start_of_x) (drop (behind ((i start_of_x) + m) more) (list start_of_x)))
  apart =
      line-apart (name start_of_x) (exc start_of_x) x.args.plus (drop (i start_of_x) (list start_of_x)) m more found
      ∙ rw (behind-drop (list start_of_x) (i start_of_x) m more)

pub returns-then-found-len : goal.returns-then-found-len
returns-then-found-len c = let start = (goal.at.returns-then-found-len c).Start in
    let in_ok = (goal.at.returns-then-found-len c).In-Ok in
    let s = drop (i start) (list start) in
    let q = length-take-le (m in_ok) s (omega (arith, fits in_ok, behind_least (m in_ok) (more in_ok))) in
    sym (apart in_ok ∙ rw (alike_not (name start) (take (m in_ok) s) (λ e. c.if-found-len.true (sym q ∙ sym e))))

-- and is as long as the part's identifier
module _ (e : Else-found-len) where
  abbrev start_of_e : Start
  start_of_e = (goal.at.Else-found-len e).Start

  abbrev in_ok_of_e : In-Ok
  in_ok_of_e = (goal.at.Else-found-len e).In-Ok

  inside : behind ((i start_of_e) + (n start_of_e)) (more in_ok_of_e) ≤ length (list start_of_e)
  inside =
      let q = ap (λ (k : ℕ). behind k (more in_ok_of_e)) e.if-found-len.false in
      omega (arith, (fits in_ok_of_e), q, behind_add (list start_of_e) (i start_of_e) (n start_of_e) (more in_ok_of_e), length-drop (i start_of_e) (list start_of_e), e.requires)

pub overflow_add-i : goal.overflow_add-i
overflow_add-i c = let start = (goal.at.overflow_add-i c).Start in
    let h = inside (goal.at.overflow_add-i c).Else-found-len in
    let k = behind_least (i start + n start) (more (goal.at.overflow_add-i c).In-Ok) in
    search rules

pub sign_meets-requires : goal.sign_meets-requires
sign_meets-requires c = inside (goal.at.sign_meets-requires c).Else-found-len

pub returns-else-found-len : goal.returns-else-found-len
returns-else-found-len c = let start = (goal.at.returns-else-found-len c).Start in
    let in_ok = (goal.at.returns-else-found-len c).In-Ok in
    let s = drop (i start) (list start) in
    c.sign_meets.ensures
    ∙ sym (apart in_ok
    ∙ ap (λ (k : ℕ). alike (name start) (take k s) && agree c.args.plus (more in_ok) && rest_met (exc start) (drop (behind (i start + k) (more in_ok)) (list start)))
    c.if-found-len.false
    ∙ rw (ap (alike (name start)) (sym c.of.ensures) ∙ sym c.alike.ensures ∙ c.if-not-alike.false))

pub returns-in-Err : goal.returns-in-Err
returns-in-Err c = let start = (goal.at.returns-in-Err c).Start in
    sym (line-stuck (name start) (exc start) c.args.plus (drop (i start) (list start)) _ (sym c.simple_at.ensures ∙ c.in-Err.is))
