-- `records::pieces::piece_at` meets its contract: each return is one case of the definition, by the lengths on the way.
-- Assumes nothing.
use mathlib.Core.Path.{sym, ap, ◌∙◌}
use Prim.Native.Nat.{ℕ, ◌+◌, ◌≤◌}
use native.Mathlib.Omega.{arith}
use lib.ListN.{length, drop}
use Rattle.std.specs.Prelude.{Some, Ok}
use Rattle.rules.specs.Book.{number}
use Rattle.records.specs.Places.{form_of, framed}
use Rattle.records.proofs.FrontLaws.{front-end, front-broken, front-whole, cut-length}
use Rattle.records.proofs.pieces.piece_at.Goals as goal

pub returns-then-s-at : goal.returns-then-s-at
unfolding framed
returns-then-s-at c = let a = c.args in
    sym (ap (framed (a.at + a.head)) (front-end (form_of a.head a.place) a.s.now a.at c.if-s-at.true))

pub returns-then-left-head : goal.returns-then-left-head
unfolding framed
returns-then-left-head c = let a = c.args in
    sym (ap (framed (a.at + a.head)) (front-broken (form_of a.head a.place) a.s.now a.at (omega arith) (omega arith)))

pub returns-then-left-head-2 : goal.returns-then-left-head-2
unfolding framed
returns-then-left-head-2 c = let a = c.args in
    sym (ap (framed (a.at + a.head)) (front-broken (form_of a.head a.place) a.s.now a.at (omega arith) (omega arith)))

pub returns : goal.returns
unfolding framed
returns c = let a = c.args in
    let fits : a.at + a.head + number 4 (drop (a.at + a.place) a.s.now) ≤ length a.s.now = omega arith in
    sym (ap (framed (a.at + a.head)) (front-whole (form_of a.head a.place) a.s.now a.at (omega arith) fits) ∙
    ap (λ (n : ℕ). Ok (Some (record { start = a.at + a.head; len = n }))) (cut-length (form_of a.head a.place) a.s.now a.at fits ∙ sym c.read_u32-len.ensures))
